use Rattle.std.proofs.Common.{◌++◌, inl, inr, OnOk, refl, ap, sym, subst, ◌∙◌, append_assoc}
use Rattle.std.proofs.lemmas.Bool.{cases_lt}
use Rattle.lift_text.specs.Lines.{HasWholeLine}
use Rattle.lift_text.specs.Page.{text_at}
use Rattle.lift_text.specs.Reading.{HaveLineFeeds}
use Rattle.lift_text.proofs.EndLemmas.{found_feed}
use Rattle.lift_text.proofs.ReadLemmas.{raw_line_found, raw_long_found}
use Rattle.lift_text.proofs.TakenLemmas.{took_more}
use Rattle.lift_text.proofs.page.Page.read_raw.Goals as goal

pub returns-in-Ok-Long-clause-taken : goal.returns-in-Ok-Long-clause-taken
returns-in-Ok-Long-clause-taken g c =
    let first = rw c.in-Ok-Long.field-0-is at c.in-Ok-Long.ensures in
    let rest = c.skip_long.ensures.taken in
    let page = c.advance.new.self in
    let joined = sym (append_assoc c.args.self.now.unread first.taken.0 rest.0)
    ∙ ap (λ l. l ++ rest.0) (first.taken.1.kept refl ∙ ap (λ current. current ++ page.unread) first.forward.1) in
    (first.taken.0 ++ rest.0, took_more _ _ _ _ _ _ _ _ _ first.taken.1.took rest.1, λ is has. rest.2 is (subst HasWholeLine joined has))

pub returns-in-Ok-Line-clause-next : goal.returns-in-Ok-Line-clause-next
returns-in-Ok-Line-clause-next g c =
    let page = c.advance.new.self in
    let before = text_at c.args.self.now (g.S.Source.left c.args.source.now) in
    let after = text_at page (g.S.Source.left c.advance.new.source) in
    let line = c.in-Ok-Line.line in
    let found = rw c.in-Ok-Line.field-0-is at c.in-Ok-Line.ensures in
    elim (cases_lt 4096 line) [
      | inl long ↦ let kept = c.keep_raw.ensures.long long in
          rw (kept.0, kept.1) (raw_long_found before after page.current page.raw line c.in-Ok-Line.field-0-1 found.forward.0 long found.ok)
      | inr short ↦ let kept = c.keep_raw.ensures.line short in
          rw (kept.0, kept.1) (raw_line_found before after page.current line c.in-Ok-Line.field-0-1 short found.ok)
    ]

pub returns-in-Ok-Line-clause-line_feed : goal.returns-in-Ok-Line-clause-line_feed
returns-in-Ok-Line-clause-line_feed g c =
    let page = c.advance.new.self in
    let before = text_at c.args.self.now (g.S.Source.left c.args.source.now) in
    let after = text_at page (g.S.Source.left c.advance.new.source) in
    let found = rw c.in-Ok-Line.field-0-is at c.in-Ok-Line.ensures in
    subst (λ ended. HaveLineFeeds before 1 ended) (sym c.keep_raw.ensures.ended)
    (found_feed before after page.current c.in-Ok-Line.line c.in-Ok-Line.field-0-1 page.ended found.ok found.shows)

pub returns-in-Ok-Long-clause-line_feed : goal.returns-in-Ok-Long-clause-line_feed
returns-in-Ok-Long-clause-line_feed g c =
    let first = rw c.in-Ok-Long.field-0-is at c.in-Ok-Long.ensures in
    subst (λ text. OnOk c.skip_long.result (HaveLineFeeds text 1 c.skip_long.new.self.ended)) first.ok.1 c.skip_long.ensures.line_feed

pub returns-in-Ok-End-clause-line_feed : goal.returns-in-Ok-End-clause-line_feed
returns-in-Ok-End-clause-line_feed g c =
    let first = rw c.in-Ok-End.field-0-is at c.in-Ok-End.ensures in
    inr (first.ended refl)

pub returns-in-Ok-Long-clause-stays_ended : goal.returns-in-Ok-Long-clause-stays_ended
returns-in-Ok-Long-clause-stays_ended g c =
    λ was. (let first = c.in-Ok-Long.ensures.stays_ended was in
    let rest = c.skip_long.ensures.stays_ended first.0 in
    (rest.0, rest.1 ∙ first.1))
