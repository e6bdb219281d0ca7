use Rattle.std.proofs.Common.{◌≡◌, ◌*ℤ◌, ◌≤ℤ◌, ◌<ℤ◌, ◌+ℤ◌, ◌-ℤ◌, ℤ, pos, negsuc, arith}
use Rattle.std.proofs.lemmas.Int.{ints}
use Rattle.std.specs.Int.{int_div_euclid}
use Rattle.price_scale.specs.Scale.{RoundsUp}
use Rattle.price_scale.proofs.unscale_up.Goals as goal

-- the quotient times the divisor is the greatest multiple that is no more
quotient_bounds : (z : ℤ) → ((pos 1000 *ℤ int_div_euclid z (pos 1000)) ≤ℤ z) × (z <ℤ (pos 1000 *ℤ int_div_euclid z (pos 1000) +ℤ pos 1000))
quotient_bounds (pos a) = (omega (arith, ints), omega (arith, ints))
quotient_bounds (negsuc a) = (omega (arith, ints), omega (arith, ints))

module _ (z q : ℤ) (quotient : q ≡ int_div_euclid z (pos 1000)) where
  no_more : (pos 1000 *ℤ q) ≤ℤ z
  no_more = rw quotient (quotient_bounds z).0

  nearly : z <ℤ (pos 1000 *ℤ q +ℤ pos 1000)
  nearly = rw quotient (quotient_bounds z).1

  -- the quotient of the negated sum, negated, rounds the sum up
  rounds_up : (sum units : ℤ) → z ≡ pos 0 -ℤ sum → units ≡ pos 0 -ℤ q → RoundsUp (pos 1000) sum units
  rounds_up sum units negated result = record {
    enough = omega (arith, ints, no_more, nearly);
    least = λ k no_less. omega (arith, ints, no_more, nearly);
  }

pub returns : goal.returns
returns c =
    let q = c.div_euclid.result in
    let quotient = c.div_euclid.ensures in
    rounds_up _ q quotient c.args.sum _ (omega (arith, ints)) (omega (arith, ints, no_more _ q quotient, nearly _ q quotient))
