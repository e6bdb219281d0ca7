use Rattle.std.proofs.Common.{arith}
use Rattle.std.proofs.lemmas.Bool.Decides.{nat_tests}
use Rattle.call_sets.proofs.Bits.{has_none_above}
use Rattle.call_sets.proofs.car_set.CarSet.contains.Goals as goal

pub returns-else-car-lt16 : goal.returns-else-car-lt16
returns-else-car-lt16 c =
    let none = has_none_above 16 c.self.inside.bits c.args.car c.self.invariant (omega arith) in
    grind (arith, nat_tests, none)
