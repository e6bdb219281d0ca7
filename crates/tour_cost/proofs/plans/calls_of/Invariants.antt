-- The set has the calls of the stops so far.
use Rattle.std.proofs.Common.{◌≡◌, ℕ, ◌||◌, drop}
use Rattle.call_sets.specs.Counting.{has}
use Rattle.elevator_model.specs.Plans.{is_boarded_in}
use Rattle.tour_cost.proofs.plans.calls_of.Given as goal

abbrev pub invariant-loop-stop : goal.invariant-loop-stop
invariant-loop-stop l = (j : ℕ) → (has l.calls j || is_boarded_in (drop l.stop-index l.stop-items) j) ≡ is_boarded_in l.stop-items j
