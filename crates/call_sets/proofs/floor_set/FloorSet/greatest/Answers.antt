use Rattle.std.proofs.Common.{◌≡◌, ◌-◌, ap, eqb, ℕ, arith}
use Rattle.call_sets.specs.Counting.{has}
use Rattle.call_sets.proofs.Bits.{greatest_bit}
use Rattle.call_sets.proofs.floor_set.FloorSet.greatest.Goals as goal

pub returns-clause-member : goal.returns-clause-member
returns-clause-member c =
    let bits = c.self.inside.bits in
    let top = greatest_bit 64 bits (omega arith) c.self.invariant in
    let place : 63 - lib.Count.count_leading_zeros 64 bits ≡ top.0 = omega (arith, top.1) in
    let at = ap (has bits) place in
    let here = ap (λ (x : ℕ). eqb x 1) top.2 in
    (cc, omega (arith, top.1))

pub returns-clause-greatest : goal.returns-clause-greatest
returns-clause-greatest c = λ k b.
    let top = greatest_bit 64 c.self.inside.bits (omega arith) c.self.invariant in
    let none = ap (λ (x : ℕ). eqb x 1) (top.3 k (omega (arith, b, top.1))) in
    cc
