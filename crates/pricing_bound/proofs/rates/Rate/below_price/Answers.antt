use Rattle.std.proofs.Common.{◌≡◌, ◌+◌, ◌/◌, ◌<◌, ℕ, false, true, subst, arith}
use Rattle.std.specs.Prelude.{ℤ, pos, ◌-ℤ◌, int_lt}
use mir.Val.{to_z, of_z}
use mir.Syntax.{w128}
use Rattle.std.specs.Int.Signed.{le_z}
use Rattle.std.proofs.lemmas.Int.{ints}
use Rattle.pricing_bound.proofs.RateLemmas.{term_found}
use Rattle.pricing_bound.proofs.SteadyLemmas.{below_at}
use Rattle.pricing_bound.proofs.rates.Rate.below_price.Goals as goal

not_from_zero : (z : ℤ) → le_z (pos 0) z ≡ false → int_lt z (pos 0) ≡ true
not_from_zero z h = grind (arith, ints, h)

pub returns : goal.returns
returns c = λ k before.
    let rate = c.args.self.now in
    let term = to_z w128 (of_z w128 (to_z w128 (of_z w128 c.scaled.result) -ℤ to_z w128 (of_z w128 c.args.price))) in
    let small = c.requires.ride in
    let is = term_found c.scaled.result c.args.price rate.ride c.scaled.ensures (omega (arith, small)) c.requires.price in
    below_at rate c.args.price term c.depth_of.result k c.requires.ordered is (not_from_zero term c.if-term-ge0.false) c.depth_of.ensures.deep
    (subst (λ (pace : ℕ). k < rate.released + c.depth_of.result / pace) c.max.ensures before)
