use Rattle.std.proofs.Common.{arith}
use Rattle.call_sets.proofs.Halves.{without_low, without_high, without_far}
use Rattle.call_sets.proofs.call_set.CallSet.without.Goals as goal

pub returns-then-call-lt64 : goal.returns-then-call-lt64
returns-then-call-lt64 c =
    without_low c.args.self c.halves-low.result.0 c.halves-low.result.1 c.of_halves.result c.args.call c.if-call-lt64.true
    (omega arith) c.halves-low.ensures.low c.halves-low.ensures.high c.of_halves.ensures.low c.of_halves.ensures.high

pub returns-then-call-lt128 : goal.returns-then-call-lt128
returns-then-call-lt128 c =
    without_high c.args.self c.halves-low.result.0 c.halves-low.result.1 c.of_halves-then-call-lt128.result c.args.call (omega arith) c.if-call-lt128.true
    (omega arith) c.halves-low.ensures.low c.halves-low.ensures.high c.of_halves-then-call-lt128.ensures.low c.of_halves-then-call-lt128.ensures.high

pub returns-else-call-lt128 : goal.returns-else-call-lt128
returns-else-call-lt128 c =
    without_far c.args.self c.halves-low.result.1 c.args.call (omega arith) (omega arith) c.halves-low.ensures.high
