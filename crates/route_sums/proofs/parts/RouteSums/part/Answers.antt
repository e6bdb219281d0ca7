use Rattle.std.proofs.Common.{◌∙◌, ℕ, Bool, cond, ap, sym, subst}
use Rattle.std.specs.Prelude.{ℤ, pos, int_lt, ◌-ℤ◌}
use Rattle.price_scale.specs.Scale.{IsPrice}
use Rattle.search_model.specs.Prices.{price_at, scaled}
use Rattle.route_bound.specs.ForcedRoute.{cost_if_boarded}
use Rattle.pricing_bound.proofs.RateLemmas.{stored_term}
use Rattle.route_sums.proofs.parts.RouteSums.part.Goals as goal

pub term-requires-clause-wait : goal.term-requires-clause-wait
term-requires-clause-wait c = c.rate-rate.ensures.wait

pub term-requires-clause-over : goal.term-requires-clause-over
term-requires-clause-over c = c.rate-rate.ensures.over

pub term-requires-clause-ride : goal.term-requires-clause-ride
term-requires-clause-ride c = c.rate-rate.ensures.ride

pub term-requires-clause-price : goal.term-requires-clause-price
term-requires-clause-price c = subst IsPrice (sym c.rate-rate.ensures.worth) (c.args.self.now.worth c.args.call)

pub returns-clause-value : goal.returns-clause-value
returns-clause-value c =
    let it = c.args.self.now in
    let rate = c.rate-rate.result.now in
    let cost = cost_if_boarded it.snapshot.now it.car c.args.call c.args.boarded in
    let term = scaled cost -ℤ price_at it.prices.now c.args.call in
    let is = stored_term c.term.result c.term.ensures.low c.term.ensures.high ∙ c.term.ensures.value
    ∙ ap (λ (n : ℕ). scaled n -ℤ rate.price) (c.rate-rate.ensures.cost c.args.boarded) ∙ ap (λ (z : ℤ). scaled cost -ℤ z) c.rate-rate.ensures.worth in
    stored_term c.counted.result c.counted.ensures.low c.counted.ensures.high ∙ c.counted.ensures.value
    ∙ ap (λ (z : ℤ). cond rate.is_required z (cond (int_lt z (pos 0)) z (pos 0))) is
    ∙ ap (λ (b : Bool). cond b term (cond (int_lt term (pos 0)) term (pos 0))) c.rate-rate.ensures.binds
