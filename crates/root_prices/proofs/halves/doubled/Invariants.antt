use Rattle.std.proofs.Common.{◌≡◌}
use Rattle.root_prices.specs.Doubles.{doubled_below}
use Rattle.root_prices.proofs.halves.doubled.Given as goal

abbrev pub invariant-loop-car : goal.invariant-loop-car
invariant-loop-car l = l.shares ≡ doubled_below l.plan l.car
