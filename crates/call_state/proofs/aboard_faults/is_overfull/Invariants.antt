-- What is left of the capacity, and the persons still to come, make up what there was at the start.
use Rattle.std.proofs.Common.{◌≡◌, ◌+◌, drop}
use Rattle.elevator_model.specs.Faults.{persons_in}
use Rattle.call_state.proofs.aboard_faults.is_overfull.Given as goal

abbrev pub invariant-loop-group : goal.invariant-loop-group
invariant-loop-group l = l.room + persons_in l.car l.before ≡ l.capacity + persons_in l.car (drop l.group-index l.before)
