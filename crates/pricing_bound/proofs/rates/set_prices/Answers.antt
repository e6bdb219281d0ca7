use Rattle.std.proofs.Common.{◌≡◌, get_or, length, subst, sym, refl, arith}
use Rattle.std.specs.Prelude.{ℤ}
use Rattle.price_scale.specs.Scale.{IsPrice}
use Rattle.pricing_bound.proofs.RateLemmas.{rates_set, prices_set, size_set, stored_is}
use Rattle.pricing_bound.proofs.rates.set_prices.Goals as goal

pub at_price-requires-clause-rate : goal.at_price-requires-clause-rate
at_price-requires-clause-rate c =
    let all = c.loop-j.invariant.rates c.requires.are.0 c.requires.are.1 in
    let here = all.size in
    let size = c.loop-j.invariant.size in
    let lt = c.loop-j-test.true in
    (c.requires.are.0, c.loop-j.j, all.each c.loop-j.j _ (omega (arith, lt, size, here)))

pub loop-j-preserved : goal.loop-j-preserved
loop-j-preserved c =
    let j = c.loop-j.j in
    let rates = c.loop-j.rates in
    let size = c.loop-j.invariant.size in
    let lt = c.loop-j-test.true in
    let price : IsPrice c.value.result = subst IsPrice (sym c.value.ensures.value) c.value.ensures.range in
    record {
      size = size_set rates _ (length c.args.prices.now) j _ size refl;
      prices = prices_set rates _ c.args.prices.now j _ c.loop-j.invariant.prices (omega (arith, lt, size)) lt
          (subst (λ (z : ℤ). z ≡ get_or c.args.prices.now j z) (sym c.at_price.ensures.price)
          (stored_is c.value.result c.args.prices.now j c.index-prices-j.result price c.value.ensures.value c.index-prices-j.is lt)) refl;
      rates = λ s h. rates_set s rates _ j _ (c.loop-j.invariant.rates s h) (omega (arith, lt, size)) refl
          (let all = c.loop-j.invariant.rates s h in let here = all.size in c.at_price.ensures.rate s j (all.each j _ (omega (arith, lt, size, here))));
    }
