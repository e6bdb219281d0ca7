use Rattle.std.proofs.Common.{◌≡◌, ◌∙◌, ◌*◌, ◌^◌, List, ap, arith, to_z, of_z, pos, neg_ℤ, ◌+ℤ◌, ◌≤ℤ◌}
use Rattle.std.specs.Prelude.{ℤ}
use Rattle.std.specs.Int.{w128}
use Rattle.std.proofs.lemmas.Int.{ints}
use Rattle.search_model.specs.declared.PriceOf.{PriceOf}
use Rattle.search_model.specs.declared.WorthOf.{WorthOf}
use Rattle.search_model.specs.Sums.{int_sum_by}
use Rattle.kept_tours.proofs.EntryLemmas.{stored_both}
use Rattle.kept_tours.proofs.leaves.sum_of_leaf.Goals as goal

added : (of_prices of_worths : ℤ) → neg_ℤ (pos (128 * 10 ^ 24)) ≤ℤ of_prices → of_prices ≤ℤ pos (128 * 10 ^ 24) → neg_ℤ (pos (16 * 10 ^ 27)) ≤ℤ of_worths
    → of_worths ≤ℤ pos (16 * 10 ^ 27) → to_z w128 (of_z w128 (to_z w128 (of_z w128 of_prices) +ℤ to_z w128 (of_z w128 of_worths))) ≡ of_prices +ℤ of_worths
added p w low high low' high' = stored_both p w (omega (arith, ints, low)) (omega (arith, ints, high)) (omega (arith, ints, low')) (omega (arith, ints, high'))

both_sums : (prices : List PriceOf) (worths : List WorthOf) (ps : List PriceOf) (ws : List WorthOf) (p w : ℤ) → prices ≡ ps → worths ≡ ws
    → p ≡ int_sum_by (λ (x : PriceOf). x.price) prices → w ≡ int_sum_by (λ (x : WorthOf). x.worth) worths
    → p +ℤ w ≡ int_sum_by (λ (x : PriceOf). x.price) ps +ℤ int_sum_by (λ (x : WorthOf). x.worth) ws
both_sums prices worths ps ws p w at at' is is' =
    ap (λ (z : ℤ). z +ℤ w) (is ∙ ap (int_sum_by (λ (x : PriceOf). x.price)) at)
    ∙ ap (λ (z : ℤ). int_sum_by (λ (x : PriceOf). x.price) ps +ℤ z) (is' ∙ ap (int_sum_by (λ (x : WorthOf). x.worth)) at')

pub returns : goal.returns
returns c =
    let leaf = c.args.leaf.now in
    let p = c.sum_of_prices.result in
    let w = c.sum_of_worths.result in
    added p w c.sum_of_prices.ensures.low c.sum_of_prices.ensures.high c.sum_of_worths.ensures.low c.sum_of_worths.ensures.high
    ∙ both_sums c.as_slice.result.now c.as_slice-2.result.now leaf.prices leaf.worths p w c.as_slice.ensures c.as_slice-2.ensures
    c.sum_of_prices.ensures.sum c.sum_of_worths.ensures.sum
