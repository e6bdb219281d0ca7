-- The groups so far ride in cars.
use Rattle.std.proofs.Common.{◌<◌, ℕ, slice_index_or}
use Rattle.elevator_model.specs.Snapshot.{no_group}
use Rattle.call_state.proofs.whole_parts.ride_in_cars.Given as goal

abbrev pub invariant-loop-group : goal.invariant-loop-group
invariant-loop-group l = (k : ℕ) → k < l.group-index → (slice_index_or l.groups k no_group).car < l.cars
