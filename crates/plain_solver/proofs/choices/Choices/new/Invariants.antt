-- The sums of the tours so far.
use Rattle.std.proofs.Common.{◌≡◌, ◌<◌, ◌≤◌, ℕ, length}
use Rattle.call_sets.specs.Counting.{has}
use Rattle.elevator_model.specs.Costs.{cost_of}
use Rattle.elevator_model.specs.Plans.{is_boarded_in}
use Rattle.partial_tours.specs.Listed.{tour_at}
use Rattle.plain_solver.specs.Rests.{sums_at}
use Rattle.plain_solver.proofs.choices.Choices.new.Given as goal

abbrev pub invariant-loop-tour : goal.invariant-loop-tour
invariant-loop-tour l = record {
  counted : length l.sums.items ≡ l.tour-index;
  cost : (k : ℕ) → k < l.tour-index → (sums_at l.sums.items k).cost ≡ cost_of l.snapshot l.car (tour_at l.tour-items k);
  small : (k : ℕ) → k < l.tour-index → (sums_at l.sums.items k).cost ≤ 1000000000000000000;
  calls : (k j : ℕ) → k < l.tour-index → has (sums_at l.sums.items k).calls j ≡ is_boarded_in (tour_at l.tour-items k) j;
}
