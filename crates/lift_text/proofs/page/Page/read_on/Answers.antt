use Rattle.std.proofs.Common.{Ok, inr, true, false, refl, arith, rules, ap, sym, subst, ◌∙◌}
use Rattle.std.proofs.lemmas.Result.{err_from_is_err_and}
use Rattle.std.specs.Io.KnownBytes.{prepend_known}
use Rattle.lift_text.specs.Page.{PageState, ReadLine, limit_of, text_at}
use Rattle.lift_text.specs.declared.page.Step.TheVariants.{WithWords, Blank}
use Rattle.lift_text.proofs.CrossLemmas.{crossed_none, crossed_cleared, crossed_more, crossed_ok, crossed_err, feeds_read, continues_same, continues_more}
use Rattle.lift_text.proofs.CrossLemmas.{next_words, answer_behind}
use Rattle.lift_text.proofs.EndLemmas.{answer_whole}
use Rattle.lift_text.specs.Lines.{pieces_of}
use Rattle.lift_text.specs.Reading.{HasWholeAnswer}
use Rattle.lift_text.proofs.page.Page.read_on.Goals as goal

pub lines-init : goal.lines-init
lines-init g c = record {
  continues = continues_same _;
  failure = refl;
  crossed = crossed_none _ _;
  at_end = c.requires.at_end;
  stays = λ was. (was, refl);
  unasked = λ has. (refl, has);
  counted = omega arith;
}

pub returns-in_err-read_line-clause-taken : goal.returns-in_err-read_line-clause-taken
returns-in_err-read_line-clause-taken g c =
    let left = g.S.Source.left in
    let cleared = crossed_cleared c.args.self.now c.lines.self c.clear.new.self (left c.args.source.now)
    (left c.lines.source) c.clear.ensures c.lines.invariant.crossed in
    let read = c.in_err-read_line.ensures in
    let same = err_from_is_err_and c.from_residual.result c.from_residual.ensures.1 in
    rw (same.1, same.2)
    (crossed_err c.in_err-read_line.field-0.0 c.args.self.now c.clear.new.self c.read_line.new.self _ _
    (left c.read_line.new.source) read.taken.0 cleared read.taken.1 (λ was. (read.stays_ended was).0) read.at_end read.shows)

pub returns-in-WithWords-clause-next : goal.returns-in-WithWords-clause-next
returns-in-WithWords-clause-next g c =
    let read = rw c.in-WithWords.is at c.in_ok-read_line.ensures in
    let page = c.read_line.new.self in
    let left = g.S.Source.left in
    let same = subst (λ (p : PageState). ReadLine (text_at p (left c.lines.source)) (Ok WithWords) page.words (text_at page (left c.read_line.new.source)))
    c.clear.ensures read.ok in
    next_words _ _ page.line (limit_of page) (prepend_known page.unread (left c.read_line.new.source)) page.words c.lines.invariant.continues same

pub returns-in-WithWords-clause-taken : goal.returns-in-WithWords-clause-taken
returns-in-WithWords-clause-taken g c =
    let read = rw c.in-WithWords.is at c.in_ok-read_line.ensures in
    let cleared = crossed_cleared c.args.self.now c.lines.self c.clear.new.self _ _ c.clear.ensures c.lines.invariant.crossed in
    crossed_ok c.args.self.now c.clear.new.self c.read_line.new.self _ _ _ read.taken.0 true cleared read.taken.1

pub returns-in-AtEnd-clause-taken : goal.returns-in-AtEnd-clause-taken
returns-in-AtEnd-clause-taken g c =
    let read = rw c.in-AtEnd.is at c.in_ok-read_line.ensures in
    let cleared = crossed_cleared c.args.self.now c.lines.self c.clear.new.self _ _ c.clear.ensures c.lines.invariant.crossed in
    crossed_ok c.args.self.now c.clear.new.self c.read_line.new.self _ _ _ read.taken.0 false cleared read.taken.1

pub lines-preserved : goal.lines-preserved
lines-preserved g c =
    let read = rw c.in-Blank.is at c.in_ok-read_line.ensures in
    let cleared = crossed_cleared c.args.self.now c.lines.self c.clear.new.self _ _ c.clear.ensures c.lines.invariant.crossed in
    let page = c.read_line.new.self in
    let left = g.S.Source.left in
    let same = subst (λ (p : PageState). ReadLine (text_at p (left c.lines.source)) (Ok Blank) page.words (text_at page (left c.read_line.new.source)))
    c.clear.ensures read.ok in
    record {
      continues = continues_more _ _ _ page.words c.lines.invariant.continues same;
      failure = search rules;
      crossed = crossed_more c.args.self.now c.clear.new.self page _ _ _ read.taken.0 cleared read.taken.1 (λ was. (read.stays_ended was).0) read.shows;
      at_end = read.at_end;
      stays = λ was. (let before = c.lines.invariant.stays was in
          let kept = read.stays_ended (ap (λ (p : PageState). p.ended) c.clear.ensures ∙ before.0) in
          (kept.0, kept.1 ∙ before.1));
      unasked = λ has. (let before = c.lines.invariant.unasked has in
          let answer = subst (λ bytes. HasWholeAnswer (pieces_of bytes)) (sym (ap (λ (p : PageState). p.unread) c.clear.ensures)) before.1 in
          let kept = read.unasked (answer_whole c.clear.new.self.unread answer) in
          (kept.0 ∙ before.0, answer_behind page.current page.unread kept.2 read.shows.2 (subst (λ bytes. HasWholeAnswer (pieces_of bytes)) kept.1 answer)));
      counted = omega (arith, read.counted, c.lines.invariant.counted);
    }

pub returns-in_err-read_line-clause-unasked : goal.returns-in_err-read_line-clause-unasked
returns-in_err-read_line-clause-unasked g c =
    λ has. (let before = c.lines.invariant.unasked has in
    let answer = subst (λ bytes. HasWholeAnswer (pieces_of bytes)) (sym (ap (λ (p : PageState). p.unread) c.clear.ensures)) before.1 in
    (c.read_line.ensures.unasked (answer_whole c.clear.new.self.unread answer)).0 ∙ before.0)

pub returns-in-WithWords-clause-unasked : goal.returns-in-WithWords-clause-unasked
returns-in-WithWords-clause-unasked g c =
    λ has. (let before = c.lines.invariant.unasked has in
    let answer = subst (λ bytes. HasWholeAnswer (pieces_of bytes)) (sym (ap (λ (p : PageState). p.unread) c.clear.ensures)) before.1 in
    (c.read_line.ensures.unasked (answer_whole c.clear.new.self.unread answer)).0 ∙ before.0)

pub returns-in-AtEnd-clause-unasked : goal.returns-in-AtEnd-clause-unasked
returns-in-AtEnd-clause-unasked g c =
    λ has. (let before = c.lines.invariant.unasked has in
    let answer = subst (λ bytes. HasWholeAnswer (pieces_of bytes)) (sym (ap (λ (p : PageState). p.unread) c.clear.ensures)) before.1 in
    (c.read_line.ensures.unasked (answer_whole c.clear.new.self.unread answer)).0 ∙ before.0)

pub returns-in_err-read_line-clause-stays_ended : goal.returns-in_err-read_line-clause-stays_ended
returns-in_err-read_line-clause-stays_ended g c =
    λ was. (let before = c.lines.invariant.stays was in
    let kept = c.read_line.ensures.stays_ended (ap (λ (p : PageState). p.ended) c.clear.ensures ∙ before.0) in
    (kept.0, kept.1 ∙ before.1))

pub returns-in-WithWords-clause-stays_ended : goal.returns-in-WithWords-clause-stays_ended
returns-in-WithWords-clause-stays_ended g c =
    λ was. (let before = c.lines.invariant.stays was in
    let kept = c.read_line.ensures.stays_ended (ap (λ (p : PageState). p.ended) c.clear.ensures ∙ before.0) in
    (kept.0, kept.1 ∙ before.1))

pub returns-in-AtEnd-clause-stays_ended : goal.returns-in-AtEnd-clause-stays_ended
returns-in-AtEnd-clause-stays_ended g c =
    λ was. (let before = c.lines.invariant.stays was in
    let kept = c.read_line.ensures.stays_ended (ap (λ (p : PageState). p.ended) c.clear.ensures ∙ before.0) in
    (kept.0, kept.1 ∙ before.1))

pub returns-in-WithWords-clause-line_feeds : goal.returns-in-WithWords-clause-line_feeds
returns-in-WithWords-clause-line_feeds g c =
    let read = rw c.in-WithWords.is at c.in_ok-read_line.ensures in
    let cleared = crossed_cleared c.args.self.now c.lines.self c.clear.new.self _ _ c.clear.ensures c.lines.invariant.crossed in
    feeds_read c.args.self.now c.clear.new.self c.read_line.new.self _ _ _ read.taken.0 cleared read.taken.1 (λ was. (read.stays_ended was).0) read.shows

pub returns-in-AtEnd-clause-line_feeds : goal.returns-in-AtEnd-clause-line_feeds
returns-in-AtEnd-clause-line_feeds g c =
    let read = rw c.in-AtEnd.is at c.in_ok-read_line.ensures in
    inr (read.ended refl)
