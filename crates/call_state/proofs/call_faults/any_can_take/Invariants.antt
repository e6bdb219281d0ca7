use Rattle.std.proofs.Common.{◌≡◌}
use Rattle.call_sets.specs.Counting.{any_below}
use Rattle.elevator_model.specs.Snapshot.{can_take}
use Rattle.call_state.proofs.call_faults.any_can_take.Given as goal

abbrev pub invariant-loop-car : goal.invariant-loop-car
invariant-loop-car l = l.found ≡ any_below l.car (λ c. can_take l.building c l.call)
