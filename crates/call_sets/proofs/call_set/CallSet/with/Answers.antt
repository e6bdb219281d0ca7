use Rattle.std.proofs.Common.{arith}
use Rattle.call_sets.proofs.Halves.{with_low, with_high}
use Rattle.call_sets.proofs.call_set.CallSet.with.Goals as goal

pub returns-then-call-lt64 : goal.returns-then-call-lt64
returns-then-call-lt64 c =
    with_low c.args.self c.halves-low.result.0 c.halves-low.result.1 c.of_halves.result c.args.call c.if-call-lt64.true c.halves-low.ensures.low
    c.halves-low.ensures.high c.of_halves.ensures.low c.of_halves.ensures.high

pub returns-else-call-lt64 : goal.returns-else-call-lt64
returns-else-call-lt64 c =
    with_high c.args.self c.halves-low.result.0 c.halves-low.result.1 c.of_halves-else-call-lt64.result c.args.call
    (omega arith) c.requires c.halves-low.ensures.low c.halves-low.ensures.high c.of_halves-else-call-lt64.ensures.low
    c.of_halves-else-call-lt64.ensures.high
