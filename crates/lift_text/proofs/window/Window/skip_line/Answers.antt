use Rattle.std.proofs.Common.{◌≢◌, ◌+◌, ◌<◌, ◌++◌, inl, inr, ℕ, [], ◌∷◌, length, drop, get_or, arith, ap, sym, subst, ◌∙◌, length-append, refl, rules}
use Rattle.std.proofs.Common.{append_assoc, append-nil}
use Rattle.std.proofs.Math.Seq.{drop-length}
use Rattle.std.specs.Io.KnownBytes.{prepend_known}
use Rattle.std.proofs.lemmas.List.{get_or_default}
use Rattle.std.proofs.lemmas.Result.{err_from_is_err_and}
use Rattle.lift_text.specs.Lines.{HasWholeLine}
use Rattle.lift_text.proofs.PieceLemmas.{no_whole_line}
use Rattle.lift_text.specs.Front.{SkippedIn}
use Rattle.lift_text.specs.declared.window.Skipped.TheVariants.{Whole}
use Rattle.byte_streams.proofs.KnownBytes.{given_more, prepend_known-nil}
use Rattle.lift_text.proofs.TakenLemmas.{took_last}
use Rattle.lift_text.proofs.SkipLemmas.{skipped_line, skipped_end, skipped_cut, no_line_feed-append, all_searched, has_in_known}
use Rattle.lift_text.proofs.window.Window.skip_line.Goals as goal

pub returns-then-place-len-clause-ok : goal.returns-then-place-len-clause-ok
returns-then-place-len-clause-ok g c =
    let front = c.skip.invariant.front in
    let before = prepend_known c.args.self.now.unread (g.S.Source.left c.args.source.now) in
    let limit = c.args.self.now.quota + length c.args.self.now.unread in
    let left = g.S.Source.left c.skip.source in
    let place = c.line_feed_from-place in
    let inside : place.result < length c.skip.self.unread = omega arith in
    let whole = skipped_line before left front.0 c.skip.self.unread place.result c.skip.self.quota limit front.1 inside place.ensures.none
    (place.ensures.found inside) front.2 front.3 in
    subst (λ unread. SkippedIn Whole before limit unread left c.consume.new.self.quota) (sym c.consume.ensures.unread)
    (subst (λ quota. SkippedIn Whole before limit (drop (place.result + 1) c.skip.self.unread) left quota) (sym c.consume.ensures.quota) whole)

pub skip-preserved : goal.skip-preserved
skip-preserved g c =
    let front = c.skip.invariant.front in
    let unread = c.skip.self.unread in
    let filled = rw c.in-More.is at c.in_ok-fill.ensures in
    let more = filled.more refl in
    let empty = c.consume-in-skip.ensures.unread ∙ ap (λ n. drop n unread) c.len-len.ensures ∙ drop-length unread in
    let same = more.2 ∙ ap (λ l. l ++ more.0) empty in
    let none = no_line_feed-append front.0 unread front.1
    (subst (λ n. (k : ℕ) → k < n → get_or unread k 0 ≢ 10)
    (all_searched _ _ _ c.if-place-len.false c.line_feed_from-place.ensures.within c.len-len.ensures) c.line_feed_from-place.ensures.none) in
    record {
      some = omega (arith, ap length same, more.1);
      front = (
        front.0 ++ unread,
        none,
        given_more _ _ _ _ _ front.2 more.3 ∙ ap (λ l. prepend_known (front.0 ++ unread ++ l) (g.S.Source.left c.fill.new.source)) (sym same),
        omega (arith, front.3, filled.quota, c.consume-in-skip.ensures.quota, ap length empty, length-append front.0 unread),
      );
      taken = (
        c.skip.invariant.taken.0 ++ more.0,
        given_more _ _ _ c.skip.invariant.taken.0 more.0 c.skip.invariant.taken.1 more.3,
        omega (
          arith,
          c.skip.invariant.taken.2,
          filled.quota,
          c.consume-in-skip.ensures.quota,
          ap length same,
          length-append c.skip.invariant.taken.0 more.0,
          ap length empty,
        ),
      );
      joined = sym (append_assoc c.args.self.now.unread c.skip.invariant.taken.0 more.0) ∙ ap (λ l. l ++ more.0) c.skip.invariant.joined
          ∙ ap (λ l. (front.0 ++ unread) ++ l) (sym same);
      at_end = filled.at_end;
      stays = λ was. (let before = c.skip.invariant.stays was in
          let kept = filled.stays_ended (c.consume-in-skip.ensures.ended ∙ before.0) in
          (kept.0, kept.1 ∙ before.1));
      counted = omega (arith, filled.counted);
    }

pub skip-init : goal.skip-init
skip-init g c = record {
  some = search rules;
  front = ([], λ k below. absurd (omega arith), refl, omega arith);
  taken = ([], prepend_known-nil _, omega arith);
  joined = append-nil _;
  at_end = c.requires.at_end;
  stays = λ was. (was, refl);
  counted = omega arith;
}

pub returns-in_err-fill-clause-taken : goal.returns-in_err-fill-clause-taken
returns-in_err-fill-clause-taken g c =
    let front = c.skip.invariant.front in
    let taken = c.skip.invariant.taken in
    let unread = c.skip.self.unread in
    let filled = c.in_err-fill.ensures in
    let empty = c.consume-in-skip.ensures.unread ∙ ap (λ n. drop n unread) c.len-len.ensures ∙ drop-length unread in
    let kept = filled.kept (λ is. cc) ∙ empty in
    let none = no_line_feed-append front.0 unread front.1
    (subst (λ n. (k : ℕ) → k < n → get_or unread k 0 ≢ 10)
    (all_searched _ _ _ c.if-place-len.false c.line_feed_from-place.ensures.within c.len-len.ensures) c.line_feed_from-place.ensures.none) in
    let same = err_from_is_err_and c.from_residual.result c.from_residual.ensures.1 in
    rw same.1 (
      taken.0,
      record {
        given = taken.1 ∙ ap (prepend_known taken.0) (sym filled.err);
        counted = omega (arith, taken.2, filled.quota, c.consume-in-skip.ensures.quota, ap length empty, ap length kept);
        spent = λ past. absurd (omega arith);
      },
      λ has. no_whole_line (front.0 ++ unread) none (subst HasWholeLine c.skip.invariant.joined has),
    )

pub returns-in-End-clause-ok : goal.returns-in-End-clause-ok
returns-in-End-clause-ok g c =
    let front = c.skip.invariant.front in
    let unread = c.skip.self.unread in
    let before = prepend_known c.args.self.now.unread (g.S.Source.left c.args.source.now) in
    let limit = c.args.self.now.quota + length c.args.self.now.unread in
    let filled = rw c.in-End.is at c.in_ok-fill.ensures in
    let left = g.S.Source.left c.fill.new.source in
    let empty = c.consume-in-skip.ensures.unread ∙ ap (λ n. drop n unread) c.len-len.ensures ∙ drop-length unread in
    let same = filled.kept (λ is. cc) ∙ empty in
    let none = no_line_feed-append front.0 unread front.1
    (subst (λ n. (k : ℕ) → k < n → get_or unread k 0 ≢ 10)
    (all_searched _ _ _ c.if-place-len.false c.line_feed_from-place.ensures.within c.len-len.ensures) c.line_feed_from-place.ensures.none) in
    let known = front.2 ∙ ap (prepend_known (front.0 ++ unread)) (sym filled.ok.0) in
    let size = length-append front.0 unread in
    let whole = skipped_end before left (front.0 ++ unread) c.fill.new.self.quota limit none (omega (arith, c.skip.invariant.some)) known filled.ok.1
    (omega (arith, front.3, filled.quota, c.consume-in-skip.ensures.quota, ap length empty, ap length same)) in
    subst (λ l. SkippedIn Whole before limit l left c.fill.new.self.quota) (sym same) whole

pub returns-in-Limit-clause-ok : goal.returns-in-Limit-clause-ok
returns-in-Limit-clause-ok g c =
    let front = c.skip.invariant.front in
    let unread = c.skip.self.unread in
    let before = prepend_known c.args.self.now.unread (g.S.Source.left c.args.source.now) in
    let limit = c.args.self.now.quota + length c.args.self.now.unread in
    let filled = rw c.in-Limit.is at c.in_ok-fill.ensures in
    let left = g.S.Source.left c.fill.new.source in
    let empty = c.consume-in-skip.ensures.unread ∙ ap (λ n. drop n unread) c.len-len.ensures ∙ drop-length unread in
    let same = filled.kept (λ is. cc) ∙ empty in
    let none = no_line_feed-append front.0 unread front.1
    (subst (λ n. (k : ℕ) → k < n → get_or unread k 0 ≢ 10)
    (all_searched _ _ _ c.if-place-len.false c.line_feed_from-place.ensures.within c.len-len.ensures) c.line_feed_from-place.ensures.none) in
    let size = length-append front.0 unread in
    skipped_cut before left (front.0 ++ unread) filled.ok.0 c.fill.new.self.quota limit none (front.2 ∙ ap (prepend_known (front.0 ++ unread)) filled.ok.1)
    (omega (arith, front.3, filled.quota, filled.limit refl, c.consume-in-skip.ensures.quota, ap length empty, ap length same)) []

pub returns-in-Limit-clause-taken : goal.returns-in-Limit-clause-taken
returns-in-Limit-clause-taken g c =
    let before = c.skip.invariant.taken in
    let filled = rw c.in-Limit.is at c.in_ok-fill.ensures in
    let same = filled.kept (λ is. cc) in (
      before.0 ++ filled.ok.0 ∷ [],
      took_last _ _ _ _ _ _ _ before.1 filled.ok.1 (omega (arith, before.2, filled.quota, c.consume-in-skip.ensures.quota, ap length same)) (filled.limit refl),
      tt,
    )

pub returns-in-End-clause-stays_ended : goal.returns-in-End-clause-stays_ended
returns-in-End-clause-stays_ended g c =
    λ was. (let before = c.skip.invariant.stays was in
    let kept = c.in_ok-fill.ensures.stays_ended (c.consume-in-skip.ensures.ended ∙ before.0) in
    (kept.0, kept.1 ∙ before.1))

pub returns-in-Limit-clause-stays_ended : goal.returns-in-Limit-clause-stays_ended
returns-in-Limit-clause-stays_ended g c =
    λ was. (let before = c.skip.invariant.stays was in
    let kept = c.in_ok-fill.ensures.stays_ended (c.consume-in-skip.ensures.ended ∙ before.0) in
    (kept.0, kept.1 ∙ before.1))

pub returns-in_err-fill-clause-stays_ended : goal.returns-in_err-fill-clause-stays_ended
returns-in_err-fill-clause-stays_ended g c =
    λ was. (let before = c.skip.invariant.stays was in
    let kept = c.in_err-fill.ensures.stays_ended (c.consume-in-skip.ensures.ended ∙ before.0) in
    (kept.0, kept.1 ∙ before.1))

pub returns-then-place-len-clause-line_feed : goal.returns-then-place-len-clause-line_feed
returns-then-place-len-clause-line_feed g c =
    let front = c.skip.invariant.front in
    let place = c.line_feed_from-place in
    let inside : place.result < length c.skip.self.unread = omega arith in
    λ _. inl (has_in_known _ (g.S.Source.left c.skip.source) front.0 c.skip.self.unread front.2
    (place.result, inside, get_or_default c.skip.self.unread place.result 10 0 inside ∙ place.ensures.found inside))

pub returns-in-End-clause-line_feed : goal.returns-in-End-clause-line_feed
returns-in-End-clause-line_feed g c =
    let filled = rw c.in-End.is at c.in_ok-fill.ensures in
    λ _. inr (filled.ended refl)
