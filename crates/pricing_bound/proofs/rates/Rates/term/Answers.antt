use Rattle.std.proofs.Common.{◌∙◌, ◌<◌, ◌+◌, ℕ, subst, sym, ap, arith}
use Rattle.std.specs.Prelude.{ℤ, ◌-ℤ◌}
use Rattle.std.proofs.lemmas.Int.{ints}
use Rattle.elevator_model.specs.Snapshot.{call_count}
use Rattle.search_model.specs.Bounds.{cost_if_alone}
use Rattle.search_model.specs.Prices.{scaled, price_at}
use Rattle.pricing_bound.specs.Rates.{Rated}
use Rattle.pricing_bound.proofs.RateLemmas.{price_read, rate_read, term_found}
use Rattle.pricing_bound.proofs.rates.Rates.term.Goals as goal

pub returns-clause-value : goal.returns-clause-value
returns-clause-value c =
    let s = c.self.inside.snapshot.now in
    let rates = c.self.inside.rates.items in
    let j = c.args.call in
    let lt = subst (λ (r : Rated). j < call_count r.snapshot) (sym c.self.view_is) c.requires.call in
    let rate = rate_read s rates j c.index-rate.result.now c.self.invariant.1 lt c.index-rate.ensures in
    let price = price_read s rates j c.index-rate.result.now c.self.invariant.1 lt c.index-rate.ensures in
    let wait_small = c.wait_cost.ensures.small in
    let ride_small = rate.ride in
    let alone = ap (λ (x : ℕ). x + c.index-rate.result.now.ride) c.wait_cost.ensures.value ∙ rate.alone c.args.moment in
    let found = term_found c.scaled.result c.index-rate.result.now.price (c.wait_cost.result + c.index-rate.result.now.ride) c.scaled.ensures
    (omega (arith, wait_small, ride_small)) rate.price in
    found ∙ ap (λ (n : ℕ). scaled n -ℤ c.index-rate.result.now.price) alone ∙ ap (λ (z : ℤ). scaled (cost_if_alone s j c.args.moment) -ℤ z) price
    ∙ ap (λ (r : Rated). scaled (cost_if_alone r.snapshot j c.args.moment) -ℤ price_at r.prices j) c.self.view_is

pub returns-clause-high : goal.returns-clause-high
returns-clause-high c =
    let s = c.self.inside.snapshot.now in
    let lt = subst (λ (r : Rated). c.args.call < call_count r.snapshot) (sym c.self.view_is) c.requires.call in
    let rate = rate_read s c.self.inside.rates.items c.args.call c.index-rate.result.now c.self.invariant.1 lt c.index-rate.ensures in
    let wait_small = c.wait_cost.ensures.small in
    let ride_small = rate.ride in
    let price_low = rate.price.0 in
    let found = term_found c.scaled.result c.index-rate.result.now.price (c.wait_cost.result + c.index-rate.result.now.ride) c.scaled.ensures
    (omega (arith, wait_small, ride_small)) rate.price in
    omega (arith, ints, found, wait_small, ride_small, price_low)
