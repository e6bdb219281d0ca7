-- The car so far is one of 16.
use Rattle.std.proofs.Common.{◌<◌, IfSome}
use Rattle.branching_rules.proofs.shares.Shares.greatest.Given as goal

abbrev pub invariant-loop-car : goal.invariant-loop-car
invariant-loop-car l = IfSome l.greatest (λ car. car < 16)
