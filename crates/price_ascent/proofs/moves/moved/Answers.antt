use Rattle.std.proofs.Common.{◌∙◌, ℤ, pos, ◌+ℤ◌, ◌-ℤ◌, ◌*ℤ◌, refl, ap, arith}
use mir.Syntax.{w128}
use mir.Val.{to_z, of_z}
use Rattle.std.proofs.lemmas.Int.{ints}
use Rattle.price_scale.specs.Scale.{cut}
use Rattle.price_ascent.proofs.MoveLemmas.{wrapped, small_fits, less_fits, change_low, change_high}
use Rattle.price_ascent.proofs.moves.moved.Goals as goal

pub returns : goal.returns
returns c =
    let price = c.args.price in
    let step = c.args.step in
    let count = pos c.args.count in
    let few = c.requires.count in
    let low = c.requires.low in
    let high = c.requires.high in
    let low_change = change_low step c.args.count low high few in
    let high_change = change_high step c.args.count low high few in
    let range = c.value.ensures.range in
    let low_price = range.0 in
    let high_price = range.1 in
    let count_is = wrapped c.from.result count c.from.ensures (small_fits count (omega (arith, ints)) (omega (arith, ints, few))) in
    let less_is = wrapped (pos 1 -ℤ to_z w128 (of_z w128 c.from.result)) (pos 1 -ℤ count) (ap (λ (z : ℤ). pos 1 -ℤ z) count_is) (less_fits c.args.count few) in
    let step_is = wrapped step step refl c.ranges.step in
    let change_is = wrapped _ (step *ℤ (pos 1 -ℤ count))
    (ap (λ (z : ℤ). z *ℤ to_z w128 (of_z w128 (pos 1 -ℤ to_z w128 (of_z w128 c.from.result)))) step_is ∙ ap (λ (z : ℤ). step *ℤ z) less_is)
    (small_fits (step *ℤ (pos 1 -ℤ count)) (omega (arith, ints, low_change)) (omega (arith, ints, high_change))) in
    let price_is = wrapped c.value.result price c.value.ensures.value (small_fits price (omega (arith, ints, low_price)) (omega (arith, ints, high_price))) in
    let raw = to_z w128 (of_z w128 (to_z w128 (of_z w128 step) *ℤ to_z w128 (of_z w128 (pos 1 -ℤ to_z w128 (of_z w128 c.from.result))))) in
    let sum_is = wrapped _ (price +ℤ (step *ℤ (pos 1 -ℤ count))) (ap (λ (z : ℤ). z +ℤ raw) price_is ∙ ap (λ (z : ℤ). price +ℤ z) change_is)
    (small_fits (price +ℤ (step *ℤ (pos 1 -ℤ count))) (omega (arith, ints, low_change, low_price)) (omega (arith, ints, high_change, high_price))) in
    c.nearest.ensures ∙ ap cut sum_is
