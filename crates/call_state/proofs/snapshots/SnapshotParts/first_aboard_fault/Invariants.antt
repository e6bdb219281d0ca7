use Rattle.std.proofs.Common.{◌≡◌, ◌+◌, length, take, drop}
use Rattle.elevator_model.specs.Faults.{first_in, fault_of_group}
use Rattle.call_state.specs.SnapshotParts.{snapshot_of}
use Rattle.call_state.specs.FirstFaults.{first_of_groups}
use Rattle.call_state.proofs.ClearGroups.{AreClear}
use Rattle.call_state.proofs.snapshots.SnapshotParts.first_aboard_fault.Given as goal

abbrev pub invariant-loop-k : goal.invariant-loop-k
invariant-loop-k l =
    let s = snapshot_of l.self in
    record {
      same : first_of_groups s ≡ first_in (fault_of_group s.building s.moment s.states) (take l.k s.aboard) (drop l.k s.aboard) (1 + length s.states + l.k);
      clear : AreClear s.building s.moment s.states s.aboard l.k;
    }
