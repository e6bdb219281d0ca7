use Rattle.std.proofs.Common.{arith}
use Rattle.std.proofs.lemmas.Bool.Decides.{nat_tests}
use Rattle.call_sets.proofs.Halves.{none_from_128}
use Rattle.call_sets.proofs.call_set.CallSet.contains.Goals as goal

pub returns-else-call-lt128 : goal.returns-else-call-lt128
returns-else-call-lt128 c =
    let none = none_from_128 c.args.self c.halves-low.result.1 c.args.call (omega arith) c.halves-low.ensures.high (omega arith) in
    grind (arith, nat_tests, none)
