use Rattle.std.proofs.Common.{arith}
use Rattle.call_sets.proofs.Halves.{above_low, above_high, above_far}
use Rattle.call_sets.proofs.call_set.CallSet.above.Goals as goal

pub returns-then-index-lt63 : goal.returns-then-index-lt63
returns-then-index-lt63 c =
    above_low c.args.self c.halves-low.result.0 c.halves-low.result.1 c.of_halves.result c.args.index c.if-index-lt63.true
    (omega arith) c.halves-low.ensures.low c.halves-low.ensures.high c.of_halves.ensures.low c.of_halves.ensures.high

pub returns-then-index-lt127 : goal.returns-then-index-lt127
returns-then-index-lt127 c =
    above_high c.args.self c.halves-low.result.1 c.of_halves-then-index-lt127.result c.args.index (omega arith) c.if-index-lt127.true
    (omega arith) c.halves-low.ensures.high c.of_halves-then-index-lt127.ensures.low c.of_halves-then-index-lt127.ensures.high

pub returns-else-index-lt127 : goal.returns-else-index-lt127
returns-else-index-lt127 c = λ k.
    let e = above_far c.args.self c.halves-low.result.1 c.args.index k (omega arith) (omega arith) c.halves-low.ensures.high in
    cc
