use Rattle.std.proofs.Common.{ap, eqb, ℕ, arith}
use Rattle.std.specs.Int.{w16}
use Rattle.std.proofs.lemmas.Nat.Bits.{bit_at-trailing_zeros}
use Rattle.call_sets.proofs.car_set.CarSet.least.Goals as goal

pub returns-clause-member : goal.returns-clause-member
returns-clause-member c =
    let place = bit_at-trailing_zeros w16 c.self.inside.bits (omega arith) c.self.invariant in
    let here = ap (λ (x : ℕ). eqb x 1) place.1 in
    (cc, place.0)

pub returns-clause-least : goal.returns-clause-least
returns-clause-least c = λ k b.
    let place = bit_at-trailing_zeros w16 c.self.inside.bits (omega arith) c.self.invariant in
    let here = ap (λ (x : ℕ). eqb x 1) (place.2 k b) in
    cc
