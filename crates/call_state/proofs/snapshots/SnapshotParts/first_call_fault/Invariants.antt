use Rattle.std.proofs.Common.{◌≡◌, ◌+◌, ◌≤◌, length, take, drop}
use Rattle.elevator_model.specs.Building.{most_calls}
use Rattle.elevator_model.specs.Faults.{first_in, fault_of_call}
use Rattle.call_state.specs.SnapshotParts.{snapshot_of}
use Rattle.call_state.specs.FirstFaults.{first_of_calls}
use Rattle.call_state.proofs.snapshots.SnapshotParts.first_call_fault.Given as goal

abbrev pub invariant-loop-j : goal.invariant-loop-j
invariant-loop-j l =
    let s = snapshot_of l.self in
    record {
      same : first_of_calls s
          ≡ first_in (fault_of_call s.building s.moment s.aboard) (take l.j s.calls) (drop l.j s.calls) (1 + length s.states + length s.aboard + l.j);
      few : l.j ≤ most_calls s.building.version;
    }
