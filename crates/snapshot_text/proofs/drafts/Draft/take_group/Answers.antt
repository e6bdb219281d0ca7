use Rattle.std.proofs.Common.{sym, ◌∙◌}
use Rattle.elevator_model.specs.declared.Aboard.{Aboard}
use Rattle.call_state.proofs.BuildingLemmas.{cond-none}
use Rattle.snapshot_text.proofs.NewIds.{new_id}
use Rattle.snapshot_text.proofs.drafts.Draft.take_group.Goals as goal

pub add_indexed-requires : goal.add_indexed-requires
add_indexed-requires g c =
    let none = sym c.indexed_aboard_fault-fault.ensures ∙ c.in_default.is in
    new_id (λ (x : Aboard). x.id) c.self.inside.aboard.items c.self.inside.group_ids c.in_ok-group.group.id c.self.invariant.2
    (rw (sym c.deref-2.ensures.value) (cond-none _ _ _ none).0)
