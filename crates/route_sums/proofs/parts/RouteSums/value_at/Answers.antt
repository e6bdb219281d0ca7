use Rattle.std.proofs.Common.{◌∙◌, ap, sym, subst, arith}
use Rattle.std.specs.Prelude.{ℤ, ◌≤ℤ◌, ◌+ℤ◌, ◌-ℤ◌}
use Rattle.call_sets.specs.Counting.{has}
use Rattle.route_bound.specs.ForcedRoute.{bound_from}
use Rattle.partial_tours.specs.Courses.{is_after}
use Rattle.search_model.specs.Prices.{price_at, scaled}
use Rattle.pricing_bound.specs.Aims.{IsBoundSize}
use Rattle.std.proofs.lemmas.Int.{ints}
use mir.Val.{to_z, of_z}
use mir.Syntax.{w128}
use Rattle.pricing_bound.proofs.RateLemmas.{stored, stored_paid}
use Rattle.route_sums.proofs.SizeLemmas.{stored_bound}
use Rattle.route_sums.proofs.parts.RouteSums.value_at.Goals as goal

pub returns-clause-value : goal.returns-clause-value
returns-clause-value c = λ x p e h pays idle.
    let it = c.args.self.now in
    let t = c.args.prefix.now in
    let found = c.found_from-found.result in
    let low = c.found_from-found.ensures.low in
    let high = c.found_from-found.ensures.high in
    let added = stored found.added (omega (arith, ints, low)) (omega (arith, ints, high)) in
    let paid = stored_paid c.args.paid c.requires.paid in
    let is = stored_bound c.value_of.result c.value_of.ensures.size ∙ c.value_of.ensures.value
    ∙ ap (λ (z : ℤ). (scaled found.settled +ℤ z) -ℤ to_z w128 (of_z w128 c.args.paid)) added
    ∙ ap (λ (z : ℤ). (scaled found.settled +ℤ found.added) -ℤ z) paid in
    let lower = c.found_from-found.ensures.lower x p c.args.paid e h pays idle in
    subst (λ (z : ℤ). z ≤ℤ bound_from t.snapshot t.car (price_at it.prices.now) (has it.allowed) (has it.required) (is_after c.args.last) p) (sym is) lower

pub returns-clause-size : goal.returns-clause-size
returns-clause-size c = subst IsBoundSize (sym (stored_bound c.value_of.result c.value_of.ensures.size)) c.value_of.ensures.size

pub returns-clause-idle : goal.returns-clause-idle
returns-clause-idle c = c.found_from-found.ensures.idle
