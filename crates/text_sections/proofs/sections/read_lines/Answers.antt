use Rattle.std.proofs.Common.{◌≡◌, ◌≤◌, ◌+◌, true, Err, ap, sym, ◌∙◌, arith, refl, subst, rules}
use Rattle.std.proofs.lemmas.Result.{err_from_is_err_and}
use Rattle.lift_text.specs.Shows.{ShowsEnd}
use Rattle.lift_text.proofs.ShowLemmas.{end_behind, fault_behind}
use Rattle.lift_text.specs.LineReader.{text, line, words, failure}
use Rattle.text_sections.proofs.SectionLemmas.{leads_more, counted_more, was_none}
use Rattle.text_sections.proofs.BetweenLemmas.{behind_more, behind_went}
use Rattle.text_sections.proofs.CanonicalLemmas.{gone_more, made_whole}
use Rattle.text_sections.proofs.UnfinishedLemmas.{remains_more, remains_cut, same_error}
use Rattle.lift_text.specs.declared.faults.TextFault.TheVariants.{Read}
use Rattle.text_sections.proofs.sections.read_lines.Goals as goal

pub lines-preserved : goal.lines-preserved
lines-preserved g c =
    let left = g.S.Source.left in
    let before = c.lines.invariant in
    let read = rw c.if-not-found.false at c.in_ok-found.ensures in
    let did = rw c.in-Ok-More.field-0-is at c.in-Ok-More.ensures in
    record {
      same_source = search rules;
      same_failure = read.ok ∙ sym (sym before.same_failure ∙ was_none (failure c.lines.lines) true read.again);
      no_failure = λ _. read.ok;
      some_words = λ _. read.some refl;
      leads = λ none. leads_more g.T.Section.after (text left c.args.lines.now) (text left c.lines.lines)
          (text left c.next_line.new.self) c.args.section.now c.lines.section c.take_line.new.self
          (words c.next_line.new.self) (line c.next_line.new.self) (before.leads none) (read.next (before.same_failure ∙ none)) did;
      remains = λ none.
          remains_more g.T.Section.after (text left c.args.lines.now) (text left c.lines.lines)
          (text left c.next_line.new.self) c.args.section.now c.lines.section c.take_line.new.self
          (words c.next_line.new.self) (line c.next_line.new.self) (before.remains none) (read.next (before.same_failure ∙ none)) did;
      risen = λ none. counted_more g.T.Section.after (text left c.args.lines.now) (text left c.lines.lines)
          (text left c.next_line.new.self) c.args.section.now c.lines.section
          (words c.next_line.new.self) (line c.next_line.new.self) c.lines.counter (before.leads none) (before.risen none)
          (read.next (before.same_failure ∙ none));
      gone = gone_more g.T.Section.after c.args.section.now c.lines.section c.take_line.new.self (words c.next_line.new.self) before.gone did;
      behind = λ none. behind_more (text left c.args.lines.now) (text left c.lines.lines) (text left c.next_line.new.self) (words c.next_line.new.self)
          (line c.next_line.new.self) (before.behind none) (read.next (before.same_failure ∙ none));
      bound = subst (λ n. n ≤ 67108864) c.line-line.ensures.value c.line-line.ensures.bound;
      counted = omega (arith, before.counted, read.counted);
    }

pub returns-in-Ok-Whole-clause-made : goal.returns-in-Ok-Whole-clause-made
returns-in-Ok-Whole-clause-made g c =
    let did = rw c.in-Ok-Whole.field-0-is at c.in-Ok-Whole.ensures in
    made_whole g.T.Section.after c.args.section.now c.lines.section c.take_line.new.self (words c.next_line.new.self) c.lines.invariant.gone did

pub returns-in-Ok-Whole-clause-behind : goal.returns-in-Ok-Whole-clause-behind
returns-in-Ok-Whole-clause-behind g c =
    let left = g.S.Source.left in
    let before = c.lines.invariant in
    let read = rw c.if-not-found.false at c.in_ok-found.ensures in
    λ none. behind_more (text left c.args.lines.now) (text left c.lines.lines) (text left c.next_line.new.self) (words c.next_line.new.self)
    (line c.next_line.new.self) (before.behind none) (read.next (before.same_failure ∙ none))

pub returns-in_err-found-clause-shows : goal.returns-in_err-found-clause-shows
returns-in_err-found-clause-shows g c =
    let left = g.S.Source.left in
    let before = c.lines.invariant in
    let read = c.in_err-found.ensures in
    let same = err_from_is_err_and c.from_residual.result c.from_residual.ensures.1 in
    rw (same.1, same.2)
    (λ none. fault_behind (text left c.args.lines.now) (text left c.lines.lines) c.in_err-found.field-0.0 (left c.next_line.new.self.source.now)
    (behind_went _ _ (before.behind none)) (read.shows (before.same_failure ∙ none)))

pub returns-then-not-found-clause-shows : goal.returns-then-not-found-clause-shows
returns-then-not-found-clause-shows g c =
    let left = g.S.Source.left in
    let before = c.lines.invariant in
    let read = rw c.if-not-found.true at c.in_ok-found.ensures in
    let start = text left c.args.lines.now in
    let behind = left c.next_line.new.self.source.now in
    λ none. subst (λ n. ShowsEnd start (n + 1) behind) (sym c.line-line.ensures.value)
    (end_behind start (text left c.lines.lines) (line c.next_line.new.self + 1) behind (behind_went _ _ (before.behind none))
    (read.shows (before.same_failure ∙ none)))

pub returns-in-Ok-Whole-clause-shows : goal.returns-in-Ok-Whole-clause-shows
returns-in-Ok-Whole-clause-shows g c =
    let left = g.S.Source.left in
    let before = c.lines.invariant in
    let read = rw c.if-not-found.false at c.in_ok-found.ensures in
    λ none. end_behind (text left c.args.lines.now) (text left c.lines.lines) (line c.next_line.new.self) (left c.next_line.new.self.source.now)
    (behind_went _ _ (before.behind none)) (read.shows (before.same_failure ∙ none))

pub returns-in-Err-Bad-clause-shows : goal.returns-in-Err-Bad-clause-shows
returns-in-Err-Bad-clause-shows g c =
    let left = g.S.Source.left in
    let before = c.lines.invariant in
    let read = rw c.if-not-found.false at c.in_ok-found.ensures in
    let start = text left c.args.lines.now in
    let behind = left c.next_line.new.self.source.now in
    λ none. subst (λ n. ShowsEnd start n behind) (sym c.line-line.ensures.value)
    (end_behind start (text left c.lines.lines) (line c.next_line.new.self) behind (behind_went _ _ (before.behind none))
    (read.shows (before.same_failure ∙ none)))

pub returns-in_err-found-clause-unfinished : goal.returns-in_err-found-clause-unfinished
returns-in_err-found-clause-unfinished g c =
    let left = g.S.Source.left in
    let before = c.lines.invariant in
    let took = c.in_err-found.ensures.taken in
    let same : c.from_residual.result ≡ Err c.in_err-found.field-0.0 = search rules in
    λ none is. (let fault : c.in_err-found.field-0.0 ≡ Read = same_error c.from_residual.result c.in_err-found.field-0.0 Read same is in
    remains_cut g.T.Section.after (text left c.args.lines.now) c.lines.lines.page (left c.lines.lines.source.now) (left c.next_line.new.self.source.now) took.0
    (line c.next_line.new.self)
    c.args.section.now c.lines.section (before.remains none) (behind_went _ _ (before.behind none)) took.1.given
    (took.4 (before.same_failure ∙ none) (ap Err fault)))
