use Rattle.elevator_model.specs.declared.Call.{Call}
use Rattle.elevator_model.specs.Snapshot.{no_call}
use Rattle.call_state.proofs.IdLemmas.{new_after}
use Rattle.call_state.proofs.id_index.IdIndex.of_calls.Goals as goal

pub push-requires : goal.push-requires
push-requires c = new_after
    (λ (x : Call). x.id) c.args.calls.now c.loop-call.call-index no_call c.loop-call.index c.requires c.loop-call-test.true c.loop-call.invariant
