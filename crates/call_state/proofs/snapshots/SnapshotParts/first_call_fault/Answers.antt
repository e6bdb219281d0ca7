use Rattle.std.proofs.Common.{rules, arith, ◌≡◌, length, get_or, take, None}
use Rattle.std.proofs.lemmas.Grind.{common_steps}
use Rattle.elevator_model.specs.Snapshot.{no_call}
use Rattle.elevator_model.specs.Faults.{fault_of_call}
use Rattle.call_state.specs.SnapshotParts.{snapshot_of}
use Rattle.call_state.proofs.ClearStates.{IsCallClear-from}
use Rattle.call_state.proofs.snapshots.SnapshotParts.first_call_fault.Goals as goal

pub loop-j-preserved : goal.loop-j-preserved
loop-j-preserved c =
    let s = snapshot_of c.args.self.now in
    let before = take c.loop-j.j s.calls in
    let call = get_or s.calls c.loop-j.j no_call in
    let none : fault_of_call s.building s.moment s.aboard before call ≡ None = grind (arith, common_steps) in
    let clear = IsCallClear-from s.building s.moment s.aboard before call none in
    let few = clear.few in
    let count : length before ≡ c.loop-j.j = search rules in
    record {
      same = grind (arith, common_steps);
      few = omega (arith, few, count);
    }
