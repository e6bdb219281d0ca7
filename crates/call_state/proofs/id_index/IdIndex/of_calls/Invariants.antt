use Rattle.std.proofs.Common.{◌≡◌, map, take}
use Rattle.elevator_model.specs.declared.Call.{Call}
use Rattle.call_state.proofs.id_index.IdIndex.of_calls.Given as goal

abbrev pub invariant-loop-call : goal.invariant-loop-call
invariant-loop-call l = l.index ≡ map (λ (x : Call). x.id) (take l.call-index l.calls)
