use Rattle.std.specs.Int.{w64}
use Rattle.call_sets.proofs.Bits.{has_minus}
use Rattle.call_sets.proofs.floor_set.FloorSet.minus.Goals as goal

pub returns : goal.returns
returns c = λ k. let e = has_minus w64 c.self.inside.bits c.other.inside.bits k c.self.invariant c.other.invariant in cc
