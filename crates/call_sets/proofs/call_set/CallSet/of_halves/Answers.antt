use Rattle.std.proofs.Common.{arith}
use Rattle.call_sets.proofs.Halves.{has_in_low, has_in_high}
use Rattle.call_sets.proofs.call_set.CallSet.of_halves.Goals as goal

pub returns-clause-low : goal.returns-clause-low
returns-clause-low c = λ k lt. let e = has_in_low c.args.low c.args.high k (omega arith) lt in cc

pub returns-clause-high : goal.returns-clause-high
returns-clause-high c = λ k. let e = has_in_high c.args.low c.args.high k (omega arith) (omega arith) in cc
