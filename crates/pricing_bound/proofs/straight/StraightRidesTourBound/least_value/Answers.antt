use Rattle.std.proofs.Common.{refl, sym, subst, arith}
use Rattle.std.specs.Prelude.{ℤ, ◌≤ℤ◌}
use Rattle.std.proofs.lemmas.Int.{ints}
use Rattle.pricing_bound.specs.Aims.{completion_bound_for}
use Rattle.pricing_bound.specs.Rates.{aim_at}
use Rattle.pricing_bound.proofs.RateLemmas.{stored}
use Rattle.pricing_bound.proofs.straight.StraightRidesTourBound.least_value.Goals as goal

pub returns-clause-least : goal.returns-clause-least
returns-clause-least c = λ x y floor departs moved.
    let it = c.args.self.now in
    let bound = completion_bound_for (aim_at it.rates.now it.car it.allowed it.required) y in
    let low = departs.small.0 in
    let high = departs.small.1 in
    let same = stored c.args.departure.now.bound (omega (arith, ints, low)) (omega (arith, ints, high)) in
    (bound, subst (λ (z : ℤ). z ≤ℤ bound) (sym same) (departs.least floor y moved), refl)
