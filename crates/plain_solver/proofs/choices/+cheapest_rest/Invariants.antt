-- The cheapest of the tours so far, each with the cheapest rest.
use Rattle.std.proofs.Common.{length}
use Rattle.call_sets.specs.Counting.{has}
use Rattle.plain_solver.specs.Rests.{IsCheapestOf, IsSmallCost}
use Rattle.plain_solver.proofs.choices.+cheapest_rest.Given as goal

abbrev pub decreases-cheapest_rest : goal.decreases-cheapest_rest
decreases-cheapest_rest l = length l.choices.now

abbrev pub invariant-loop-place : goal.invariant-loop-place
invariant-loop-place l = record {
  cheapest : IsCheapestOf l.snapshot (has l.taken) l.car l.first.tours.items l.place l.best;
  small : IsSmallCost (length l.choices) l.best;
}
