-- None of the groups so far.
use Rattle.std.proofs.Common.{◌≡◌, false}
use Rattle.call_sets.specs.Counting.{any_below}
use Rattle.elevator_model.specs.Snapshot.{is_open}
use Rattle.day_state.specs.Passing.{group_passed}
use Rattle.day_state.proofs.states.any_group_passed.Given as goal

abbrev pub invariant-loop-group : goal.invariant-loop-group
invariant-loop-group l =
    any_below l.group-index (group_passed l.groups l.car (is_open l.building l.car l.t l.state) l.visited) ≡ false
