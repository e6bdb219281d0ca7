use Rattle.std.proofs.Common.{sym, ◌∙◌}
use Rattle.elevator_model.specs.declared.Aboard.{Aboard}
use Rattle.call_state.proofs.IdLemmas.{any_indexed}
use Rattle.call_state.proofs.aboard_faults.indexed_aboard_fault.Goals as goal

pub returns-then-contains : goal.returns-then-contains
returns-then-contains c =
    let same = any_indexed (λ (x : Aboard). x.id) c.args.before.now c.args.ids.now c.args.item.now.id c.requires.ids in
    rw (sym same ∙ sym c.contains.ensures ∙ c.if-contains.true)

pub fault_of_new-requires-clause-new : goal.fault_of_new-requires-clause-new
fault_of_new-requires-clause-new c =
    let same = any_indexed (λ (x : Aboard). x.id) c.args.before.now c.args.ids.now c.args.item.now.id c.requires.ids in
    sym same ∙ sym c.contains.ensures ∙ c.if-contains.false
