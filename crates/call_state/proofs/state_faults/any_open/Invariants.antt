use Rattle.std.proofs.Common.{◌≡◌}
use Rattle.call_sets.specs.Counting.{any_below}
use Rattle.elevator_model.specs.Snapshot.{is_open}
use Rattle.call_state.proofs.state_faults.any_open.Given as goal

abbrev pub invariant-loop-floor : goal.invariant-loop-floor
invariant-loop-floor l = l.found ≡ any_below l.floor (is_open l.building l.car l.now l.state)
