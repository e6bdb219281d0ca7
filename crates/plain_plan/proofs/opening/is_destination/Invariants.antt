-- No group so far goes to the floor.
use Rattle.std.proofs.Common.{◌≡◌, ◌==◌, ◌&&◌, false}
use Rattle.call_sets.specs.Counting.{any_below}
use Rattle.elevator_model.specs.Snapshot.{group_of}
use Rattle.plain_plan.proofs.opening.is_destination.Given as goal

abbrev pub invariant-loop-group : goal.invariant-loop-group
invariant-loop-group l = any_below l.group-index (λ k. ((group_of l.snapshot k).car == l.car) && ((group_of l.snapshot k).destination == l.floor)) ≡ false
