use Rattle.std.proofs.Common.{◌*◌, ◌%◌, ◌^◌, arith}
use Rattle.std.proofs.lemmas.Nat.{or_lt}
use Rattle.std.specs.Int.{w16}
use Rattle.call_sets.proofs.Bits.{has_with}
use Rattle.call_sets.proofs.car_set.CarSet.with.Goals as goal

pub invariant_of-result : goal.invariant_of-result
invariant_of-result c = or_lt 16 c.self.inside.bits (1 * 2 ^ c.args.car % 2 ^ 16) c.self.invariant (omega arith)

pub returns : goal.returns
returns c = λ k. let e = has_with w16 c.self.inside.bits c.args.car k c.requires in cc
