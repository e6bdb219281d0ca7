use Rattle.std.proofs.Common.{arith}
use Rattle.std.specs.Int.{w64}
use Rattle.call_sets.proofs.Bits.{has_without, has_without_none}
use Rattle.call_sets.proofs.floor_set.FloorSet.without.Goals as goal

pub returns-then-floor-ge64 : goal.returns-then-floor-ge64
returns-then-floor-ge64 c = λ k. let e = has_without_none 64 c.self.inside.bits c.args.floor k c.self.invariant (omega arith) in cc

pub returns : goal.returns
returns c = λ k. let e = has_without w64 c.self.inside.bits c.args.floor k (omega arith) c.self.invariant in cc
