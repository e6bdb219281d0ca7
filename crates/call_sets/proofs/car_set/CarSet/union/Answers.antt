use Rattle.std.proofs.lemmas.Nat.{or_lt}
use Rattle.call_sets.proofs.Bits.{has_or}
use Rattle.call_sets.proofs.car_set.CarSet.union.Goals as goal

pub invariant_of-result : goal.invariant_of-result
invariant_of-result c = or_lt 16 c.self.inside.bits c.other.inside.bits c.self.invariant c.other.invariant

pub returns : goal.returns
returns c = λ k. let e = has_or c.self.inside.bits c.other.inside.bits k in cc
