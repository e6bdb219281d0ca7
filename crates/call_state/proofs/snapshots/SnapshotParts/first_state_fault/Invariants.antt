use Rattle.std.proofs.Common.{◌≡◌, ◌+◌, List, length, take, drop}
use Rattle.elevator_model.specs.declared.CarState.{CarState}
use Rattle.elevator_model.specs.Faults.{first_in, fault_of_state}
use Rattle.call_state.specs.SnapshotParts.{snapshot_of}
use Rattle.call_state.specs.FirstFaults.{first_of_states}
use Rattle.call_state.proofs.snapshots.SnapshotParts.first_state_fault.Given as goal

abbrev pub invariant-loop-car : goal.invariant-loop-car
invariant-loop-car l =
    let s = snapshot_of l.self in
    first_of_states s ≡ first_in (λ (before : List CarState) state. fault_of_state s.building s.moment (length before) state) (take l.car s.states)
    (drop l.car s.states) (1 + l.car)
