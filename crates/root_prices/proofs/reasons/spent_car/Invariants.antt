use Rattle.std.proofs.Common.{take}
use Rattle.std.specs.Prelude.{All}
use Rattle.root_prices.specs.Reasons.{IsNoneSpent}
use Rattle.root_prices.proofs.reasons.spent_car.Given as goal

abbrev pub invariant-loop-place : goal.invariant-loop-place
invariant-loop-place l = All IsNoneSpent (take l.place l.turns)
