use Rattle.std.proofs.Common.{arith}
use Rattle.std.specs.Int.{w16}
use Rattle.call_sets.proofs.Bits.{has_without, has_without_none}
use Rattle.call_sets.proofs.car_set.CarSet.without.Goals as goal

pub returns-then-car-ge16 : goal.returns-then-car-ge16
returns-then-car-ge16 c = λ k. let e = has_without_none 16 c.self.inside.bits c.args.car k c.self.invariant (omega arith) in cc

pub returns : goal.returns
returns c = λ k. let e = has_without w16 c.self.inside.bits c.args.car k (omega arith) c.self.invariant in cc
