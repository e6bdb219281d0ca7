-- The tours of the cars so far.
use Rattle.std.proofs.Common.{◌≡◌, map}
use Rattle.std.specs.List.{range_with_len}
use Rattle.elevator_model.specs.Snapshot.{state_of}
use Rattle.search_model.specs.Days.{opening_tour}
use Rattle.day_state.proofs.openings.opening_plan.Given as goal

abbrev pub invariant-loop-car : goal.invariant-loop-car
invariant-loop-car l = l.plan ≡ map (λ c. opening_tour l.snapshot c (state_of l.snapshot c)) (range_with_len 0 l.car)
