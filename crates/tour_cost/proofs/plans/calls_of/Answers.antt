use Rattle.std.proofs.Common.{◌≡◌, ◌∙◌, ◌+◌, ℕ, List, ◌∷◌, drop, true, sym, ap, subst}
use Rattle.std.proofs.lemmas.Bool.{or_left, or_right}
use Rattle.std.proofs.lemmas.List.{drop_more}
use Rattle.elevator_model.specs.declared.Stop.{Stop}
use Rattle.call_sets.specs.Counting.{has, is_among}
use Rattle.elevator_model.specs.Plans.{is_boarded_in}
use Rattle.tour_cost.proofs.plans.calls_of.Goals as goal

pub calls_at-requires : goal.calls_at-requires
calls_at-requires c = λ j h.
    let stops = c.stops-stop-items.result.now in
    let stop = c.stop-item.result in
    let k = c.loop-stop.stop-index in
    let here = subst (λ (xs : List ℕ). is_among j xs ≡ true) c.as_slice.ensures h in
    let step = ap (λ (l : List Stop). is_boarded_in l j) (drop_more stops k stop c.loop-stop-test.true)
    ∙ ap (λ (x : Stop). is_boarded_in (x ∷ drop (k + 1) stops) j) (sym c.stop-item.is) in
    let left = step ∙ or_left (is_among j stop.boards) (is_boarded_in (drop (k + 1) stops) j) here in
    let all = sym (c.loop-stop.invariant j) ∙ or_right (has c.loop-stop.calls j) (is_boarded_in (drop k stops) j) left in
    c.requires j (subst (λ (l : List Stop). is_boarded_in l j ≡ true) c.stops-stop-items.ensures all)
