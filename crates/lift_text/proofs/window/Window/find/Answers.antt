use Rattle.std.proofs.Common.{◌≡◌, ◌≢◌, ◌<◌, rules, ℕ, [], ◌∷◌, ◌++◌, length, get_or, arith, sym, ap, subst, ◌∙◌, refl, append_assoc}
use Rattle.std.specs.Io.KnownBytes.{prepend_known}
use Rattle.std.proofs.lemmas.Result.{err_from_is_err_and}
use Rattle.byte_streams.proofs.KnownBytes.{given_more, prepend_known-append}
use Rattle.lift_text.specs.Lines.{HasWholeLine}
use Rattle.lift_text.specs.Front.{NoLineFeed}
use Rattle.lift_text.proofs.TakenLemmas.{gathered_cut}
use Rattle.lift_text.proofs.PieceLemmas.{begins_in_window, begins_found, found_last, found_one_last, no_whole_front, no_whole_line, none_more, one_line_at}
use Rattle.lift_text.proofs.PieceLemmas.{whole_line_at}
use Rattle.lift_text.proofs.window.Window.find.Goals as goal

pub returns-then-place-len-clause-ok : goal.returns-then-place-len-clause-ok
returns-then-place-len-clause-ok g c =
    let before = c.search.invariant in
    let place = c.line_feed_from-place.ensures in
    let line = c.line_before.ensures in (
      before.known,
      omega (arith, line.within),
      omega arith,
      omega arith,
      begins_found _ _ _ _ _ before.known
          (λ rest. begins_in_window c.search.self.unread rest c.line_feed_from-place.result c.line_before.result (omega arith) place.none
          (place.found (omega arith)) line.front line.within),
    )

pub returns-in-End-clause-ok : goal.returns-in-End-clause-ok
returns-in-End-clause-ok g c =
    let before = c.search.invariant in
    let place = c.line_feed_from-place.ensures in
    let filled = rw c.in-End.is at c.in_ok-fill.ensures in
    let kept = filled.kept (λ is. cc) in
    let left = g.S.Source.left in
    let known = before.known ∙ ap (λ unread. prepend_known unread (left c.search.source)) (sym kept)
    ∙ ap (prepend_known c.fill.new.self.unread) (sym filled.ok.0) in
    let whole : c.line_feed_from-place.result ≡ length c.search.self.unread = omega arith in
    found_last c.last_found.result _ (left c.fill.new.source) c.fill.new.self.unread c.line_feed_from-place.result _
    c.last_found.ensures.none c.last_found.ensures.line (whole ∙ ap length (sym kept)) known filled.ok.1
    (subst (λ unread. NoLineFeed unread) (sym kept) (subst (λ n. (k : ℕ) → k < n → get_or c.search.self.unread k 0 ≢ 10) whole place.none))

pub returns-in-Limit-clause-taken : goal.returns-in-Limit-clause-taken
returns-in-Limit-clause-taken g c =
    let before = c.search.invariant.taken in
    let filled = rw c.in-Limit.is at c.in_ok-fill.ensures in (
      before.0 ++ filled.ok.0 ∷ [],
      gathered_cut _ _ _ _ _ _ _ _ _ before.1 filled.ok.1 (before.2 ∙ sym (filled.kept (λ is. cc))) (omega (arith, filled.quota, c.search.invariant.quota))
          (filled.limit refl),
    )

pub returns-then-place-len-clause-one : goal.returns-then-place-len-clause-one
returns-then-place-len-clause-one g c =
    let place = c.line_feed_from-place.ensures in
    let line = c.line_before.ensures in
    one_line_at c.search.self.unread c.line_feed_from-place.result c.line_before.result (omega arith) place.none
    (place.found (omega arith)) line.front line.within

pub returns-then-place-len-clause-unasked : goal.returns-then-place-len-clause-unasked
returns-then-place-len-clause-unasked g c =
    λ has. (let same = c.search.invariant.unasked has in
    let place = c.line_feed_from-place.ensures in
    (same.0, same.1, whole_line_at c.search.self.unread c.line_feed_from-place.result (omega arith) place.none (place.found (omega arith))))

pub returns-in_err-fill-clause-unasked : goal.returns-in_err-fill-clause-unasked
returns-in_err-fill-clause-unasked g c =
    let before = c.search.invariant.taken in
    λ has. absurd (no_whole_front c.args.self.now.unread before.0 c.search.self.unread c.line_feed_from-place.result before.2
    (omega arith) c.line_feed_from-place.ensures.none has)

pub returns-in_err-fill-clause-none : goal.returns-in_err-fill-clause-none
returns-in_err-fill-clause-none g c =
    let same = err_from_is_err_and c.from_residual.result c.from_residual.ensures.1 in
    let kept = c.in_err-fill.ensures.kept (λ is. cc) in
    rw same.1 (subst (λ unread. ¬ HasWholeLine unread) (sym kept)
    (no_whole_line c.search.self.unread (λ k below. c.line_feed_from-place.ensures.none k (omega arith))))

pub search-preserved : goal.search-preserved
search-preserved g c =
    let before = c.search.invariant in
    let place = c.line_feed_from-place.ensures in
    let filled = rw c.in-More.is at c.in_ok-fill.ensures in
    let more = filled.more refl in
    record {
      within = search rules;
      none = none_more c.search.self.unread more.0 c.fill.new.self.unread c.line_feed_from-place.result more.2 place.within place.none;
      known = before.known ∙ ap (prepend_known c.search.self.unread) more.3 ∙ prepend_known-append c.search.self.unread more.0 _
          ∙ ap (λ unread. prepend_known unread (g.S.Source.left c.fill.new.source)) (sym more.2);
      quota = search rules;
      taken = (
        before.taken.0 ++ more.0,
        given_more _ _ _ before.taken.0 more.0 before.taken.1 more.3,
        sym (append_assoc c.args.self.now.unread before.taken.0 more.0) ∙ ap (λ l. l ++ more.0) before.taken.2 ∙ sym more.2,
      );
      counted = search rules;
      at_end = filled.at_end;
      stays = λ was. (let kept = filled.stays_ended (before.stays was).0 in (kept.0, kept.1 ∙ (before.stays was).1));
      unasked = λ has. absurd
          (no_whole_front c.args.self.now.unread before.taken.0 c.search.self.unread c.line_feed_from-place.result before.taken.2 (omega arith) place.none has);
    }

pub returns-in-End-clause-unasked : goal.returns-in-End-clause-unasked
returns-in-End-clause-unasked g c =
    let before = c.search.invariant.taken in
    λ has. absurd (no_whole_front c.args.self.now.unread before.0 c.search.self.unread c.line_feed_from-place.result before.2
    (omega arith) c.line_feed_from-place.ensures.none has)

pub returns-in-End-clause-one : goal.returns-in-End-clause-one
returns-in-End-clause-one g c =
    let place = c.line_feed_from-place.ensures in
    let filled = rw c.in-End.is at c.in_ok-fill.ensures in
    let kept = filled.kept (λ is. cc) in
    let whole : c.line_feed_from-place.result ≡ length c.search.self.unread = omega arith in
    found_one_last c.last_found.result c.fill.new.self.unread c.line_feed_from-place.result c.last_found.ensures.none c.last_found.ensures.line
    (whole ∙ ap length (sym kept))
    (subst (λ unread. NoLineFeed unread) (sym kept) (subst (λ n. (k : ℕ) → k < n → get_or c.search.self.unread k 0 ≢ 10) whole place.none))

pub returns-in-Limit-clause-unasked : goal.returns-in-Limit-clause-unasked
returns-in-Limit-clause-unasked g c =
    let before = c.search.invariant.taken in
    λ has. absurd (no_whole_front c.args.self.now.unread before.0 c.search.self.unread c.line_feed_from-place.result before.2
    (omega arith) c.line_feed_from-place.ensures.none has)

pub returns-in-End-clause-stays_ended : goal.returns-in-End-clause-stays_ended
returns-in-End-clause-stays_ended g c =
    λ was. (let before = c.search.invariant.stays was in
    let kept = c.in_ok-fill.ensures.stays_ended before.0 in
    (kept.0, kept.1 ∙ before.1))

pub returns-in-Limit-clause-stays_ended : goal.returns-in-Limit-clause-stays_ended
returns-in-Limit-clause-stays_ended g c =
    λ was. (let before = c.search.invariant.stays was in
    let kept = c.in_ok-fill.ensures.stays_ended before.0 in
    (kept.0, kept.1 ∙ before.1))

pub returns-in_err-fill-clause-stays_ended : goal.returns-in_err-fill-clause-stays_ended
returns-in_err-fill-clause-stays_ended g c =
    λ was. (let before = c.search.invariant.stays was in
    let kept = c.in_err-fill.ensures.stays_ended before.0 in
    (kept.0, kept.1 ∙ before.1))
