use Rattle.std.proofs.Common.{◌≡◌, ◌<◌, ◌∙◌, ℕ, List, ℤ, ◌+ℤ◌, ◌≤ℤ◌, get_or, length, sym, ap, subst, arith}
use mir.Syntax.{w128}
use mir.Val.{to_z, of_z}
use Rattle.std.proofs.lemmas.Int.{ints}
use Rattle.half_plans.specs.declared.candidates.PricedTour.{PricedTour}
use Rattle.half_plans.specs.Choosing.{CarPairs}
use Rattle.half_plans.specs.PairPlans.{list_of, pair_count}
use Rattle.half_plans.specs.Priced.{AreMade, AreNear}
use Rattle.car_search.proofs.NumberLemmas.{IsModest, near_is, sum_is}
use Rattle.half_plans.proofs.CandidateLemmas.{made-candidates, made-priced}
use Rattle.half_plans.proofs.candidates.unsorted_choice.Goals as goal

modest : (c : goal.After-drop-tours-2) → IsModest c.least_reduced_cost-least.result
modest c =
    let low = c.least_reduced_cost-least.ensures.low in
    let high = c.least_reduced_cost-least.ensures.high in
    record { low = omega (arith, ints, low); high = omega (arith, ints, high) }

near : (c : goal.After-drop-tours-2) → AreNear (to_z w128 (of_z w128 c.least_reduced_cost-least.result)) c.in_ok-tours.tours.items
near c =
    let low = c.least_reduced_cost-least.ensures.low in
    let high = c.least_reduced_cost-least.ensures.high in
    let same = near_is c.least_reduced_cost-least.result (modest c) in
    record {
      each = λ k d lt. (c.in_ok-tours.ensures.each k d lt).near;
      above = λ k d lt.
          subst (λ (z : ℤ). z ≤ℤ (get_or c.in_ok-tours.tours.items k d).reduced) (sym same)
          (subst (λ (l : List PricedTour). (i : ℕ) (e : PricedTour) → i < length l → c.least_reduced_cost-least.result ≤ℤ (get_or l i e).reduced)
          c.as_slice.ensures.value c.least_reduced_cost-least.ensures.least k d lt);
      low = omega (arith, ints, same, low);
      high = omega (arith, ints, same, high);
    }

made : (c : goal.After-drop-tours-2)
    → AreMade (to_z w128 (of_z w128 c.least_reduced_cost-least.result)) c.in_ok-tours.tours.items c.in_ok-candidates.candidates.items
made c =
    subst (λ (l : List PricedTour). AreMade (to_z w128 (of_z w128 c.least_reduced_cost-least.result)) l c.in_ok-candidates.candidates.items)
    c.as_slice-2.ensures.value c.in_ok-candidates.ensures.made

pub returns-clause-candidates : goal.returns-clause-candidates
returns-clause-candidates c =
    made-candidates c.args.pool.now.snapshot c.args.car c.args.prices.now (list_of c.args.pool.now.tours c.args.car) c.in_ok-tours.tours.items
    (to_z w128 (of_z w128 c.least_reduced_cost-least.result)) c.in_ok-tours.ensures (near c) c.in_ok-candidates.candidates.items (made c)
    (c.in_ok-candidates.ensures.counted ∙ ap (λ (l : List PricedTour). pair_count (length l)) c.as_slice-2.ensures.value)

pub returns-clause-priced : goal.returns-clause-priced
returns-clause-priced c =
    let r = c.least_reduced_cost-least.result in
    let l = to_z w128 (of_z w128 r) in
    let same : l ≡ r = near_is r (modest c) in
    let x : CarPairs = record { candidates = c.in_ok-candidates.candidates; least = to_z w128 (of_z w128 (l +ℤ l)) } in
    made-priced c.args.pool.now.snapshot c.args.car c.args.prices.now
    (list_of c.args.pool.now.tours c.args.car) c.in_ok-tours.tours.items l c.in_ok-tours.ensures (near c) x (made c)
    (sum_is r r (modest c) (modest c) ∙ ap (λ (z : ℤ). z +ℤ r) (sym same) ∙ ap (λ (z : ℤ). l +ℤ z) (sym same))
