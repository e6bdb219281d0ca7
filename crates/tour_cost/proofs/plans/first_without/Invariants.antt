-- The calls so far are in the set.
use Rattle.std.proofs.Common.{◌≡◌, ℕ, ◌<◌, true}
use Rattle.call_sets.specs.Counting.{has}
use Rattle.tour_cost.proofs.plans.first_without.Given as goal

abbrev pub invariant-loop-call : goal.invariant-loop-call
invariant-loop-call l = (j : ℕ) → j < l.call → has l.set j ≡ true
