use Rattle.std.proofs.Common.{◌∙◌, Bool, refl, subst, arith}
use Rattle.std.specs.Prelude.{ℤ}
use mir.Val.{to_z, of_z}
use mir.Syntax.{w128}
use Rattle.call_sets.specs.Counting.{has}
use Rattle.search_model.specs.Prices.{price_at}
use Rattle.pricing_bound.proofs.RateLemmas.{stored_price}
use Rattle.route_sums.specs.CallRates.{IsCallRate}
use Rattle.route_sums.proofs.CallRateLemmas.{one_set}
use Rattle.route_sums.proofs.rates.set_rates.Goals as goal

pub loop-j-preserved : goal.loop-j-preserved
loop-j-preserved c =
    let s = c.args.snapshot.now in
    let j = c.loop-j.j in
    let prices = price_at c.args.prices.now in
    let lt = c.loop-j-test.true in
    let size = c.requires.prices in
    let price = stored_price c.price_of.result c.price_of.ensures.range ∙ c.price_of.ensures.value in
    let here = subst (λ (b : Bool). IsCallRate s c.args.car j (to_z w128 (of_z w128 c.price_of.result)) b c.rate_of.result) c.contains.ensures
    c.rate_of.ensures in
    one_set s c.args.car prices (has c.args.required) j c.loop-j.rates _ c.rate_of.result c.loop-j.invariant (omega (arith, lt, size))
    (subst (λ (z : ℤ). IsCallRate s c.args.car j z (has c.args.required j) c.rate_of.result) price here) refl
