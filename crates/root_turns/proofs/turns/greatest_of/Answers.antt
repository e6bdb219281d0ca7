use Rattle.std.proofs.Common.{◌≡◌, ℤ, pos, ◌≤ℤ◌, ◌^◌, get_or, to_z, of_z, sym, ap, ◌∙◌, subst, arith}
use Rattle.std.specs.Int.{int_max, w128}
use Rattle.std.proofs.lemmas.Int.{ints}
use Rattle.std.proofs.lemmas.List.{get_or_default}
use Rattle.price_scale.specs.Scale.{IsPrice}
use Rattle.root_turns.proofs.TurnPrices.{greatest-step, stored_price, greater_range}
use Rattle.root_turns.proofs.turns.greatest_of.Goals as goal

pub loop-place-preserved : goal.loop-place-preserved
loop-place-preserved c =
    let x : ℤ = c.index-prices-place.result in
    let range : IsPrice x = c.value.ensures.range in
    let read : to_z w128 (of_z w128 c.value.result) ≡ x = ap (λ (z : ℤ). to_z w128 (of_z w128 z)) c.value.ensures.value ∙ stored_price x range in
    let at : x ≡ get_or c.args.prices.now c.loop-place.place (pos 0) = c.index-prices-place.is
    ∙ get_or_default c.args.prices.now c.loop-place.place x (pos 0) c.loop-place-test.true in
    let is : c.max-greatest.result ≡ int_max x (to_z w128 c.loop-place.greatest-bits) = c.max-greatest.ensures.value
    ∙ ap (λ (z : ℤ). int_max z (to_z w128 c.loop-place.greatest-bits)) read in
    let value = c.loop-place.invariant.value in
    let high = c.loop-place.invariant.high in
    let greater : IsPrice (int_max x (to_z w128 c.loop-place.greatest-bits)) =
    greater_range x (to_z w128 c.loop-place.greatest-bits) range (omega (arith, ints, value)) high in
    let in_range : IsPrice c.max-greatest.result = subst IsPrice (sym is) greater in
    let kept = stored_price c.max-greatest.result in_range in
    record {
      value = kept ∙ is ∙ greatest-step c.args.prices.now c.loop-place.place (to_z w128 c.loop-place.greatest-bits) x c.loop-place-test.true value at;
      high = subst (λ (z : ℤ). z ≤ℤ pos (10 ^ 24)) (sym kept) in_range.1;
    }
