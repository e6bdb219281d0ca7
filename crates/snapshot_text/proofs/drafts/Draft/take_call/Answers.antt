use Rattle.std.proofs.Common.{sym, ◌∙◌}
use Rattle.std.proofs.lemmas.Bool.{or_parts}
use Rattle.elevator_model.specs.declared.Call.{Call}
use Rattle.call_state.proofs.BuildingLemmas.{cond-none}
use Rattle.snapshot_text.proofs.NewIds.{new_id}
use Rattle.snapshot_text.proofs.drafts.Draft.take_call.Goals as goal

pub add_indexed-requires : goal.add_indexed-requires
add_indexed-requires g c =
    let none = sym c.indexed_call_fault-fault.ensures ∙ c.in_default.is in
    new_id (λ (x : Call). x.id) c.self.inside.calls.items c.self.inside.call_ids c.in_ok-call.call.id c.self.invariant.3
    (rw (sym c.deref-2.ensures.value) (or_parts _ _ (cond-none _ _ _ none).0).1)
