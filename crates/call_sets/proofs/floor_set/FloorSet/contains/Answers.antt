use Rattle.std.proofs.Common.{arith}
use Rattle.std.proofs.lemmas.Bool.Decides.{nat_tests}
use Rattle.call_sets.proofs.Bits.{has_none_above}
use Rattle.call_sets.proofs.floor_set.FloorSet.contains.Goals as goal

pub returns-else-floor-lt64 : goal.returns-else-floor-lt64
returns-else-floor-lt64 c =
    let none = has_none_above 64 c.self.inside.bits c.args.floor c.self.invariant (omega arith) in
    grind (arith, nat_tests, none)
