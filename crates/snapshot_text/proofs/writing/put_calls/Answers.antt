use Rattle.std.proofs.Common.{◌<◌, List, IfSome, length, sym, subst}
use Rattle.std.specs.Prelude.{slice_index_or}
use Rattle.elevator_model.specs.declared.Call.{Call}
use Rattle.elevator_model.specs.Building.{Building}
use Rattle.elevator_model.specs.Snapshot.{call_count, no_call}
use Rattle.snapshot_text.proofs.Texts.{pin_is_car}
use Rattle.snapshot_text.proofs.writing.put_calls.Goals as goal

pub put_call-requires : goal.put_call-requires
put_call-requires c =
    let s = c.args.snapshot.now in
    let j = c.loop-call.call-index in
    let below : j < call_count s = rw (← c.calls-call-items.ensures.value) c.loop-call-test.true in
    let here = pin_is_car s j c.building.ensures.accepted below in
    subst (λ (b : Building). IfSome (slice_index_or c.calls-call-items.result.now j no_call).pin (λ k. k < length b.cars)) (sym c.building.ensures.value)
    (subst (λ (calls : List Call). IfSome (slice_index_or calls j no_call).pin (λ k. k < length s.building.cars)) (sym c.calls-call-items.ensures.value) here)
