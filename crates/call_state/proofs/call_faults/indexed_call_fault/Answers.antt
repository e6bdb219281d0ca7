use Rattle.std.proofs.Common.{sym, ◌∙◌}
use Rattle.elevator_model.specs.declared.Aboard.{Aboard}
use Rattle.elevator_model.specs.declared.Call.{Call}
use Rattle.call_state.proofs.IdLemmas.{any_indexed}
use Rattle.call_state.proofs.call_faults.indexed_call_fault.Goals as goal
use Rattle.call_state.proofs.call_faults.indexed_call_fault.Goals.{then-contains-via-then-contains, then-contains-via-else-contains+then-contains-2}

pub returns-then-contains : goal.returns-then-contains
returns-then-contains c =
    let groups = any_indexed (λ (x : Aboard). x.id) c.args.aboard.now c.args.groups.now c.args.item.now.id c.requires.groups in
    let calls = any_indexed (λ (x : Call). x.id) c.args.before.now c.args.calls.now c.args.item.now.id c.requires.calls in
    elim c.then-contains.branch [
      | then-contains-via-then-contains w ↦ rw (sym groups ∙ sym c.contains.ensures ∙ w.if-contains.true)
      | then-contains-via-else-contains+then-contains-2 w ↦
          rw (sym groups ∙ sym c.contains.ensures ∙ w.if-contains.false, sym calls ∙ sym w.contains-else-contains.ensures ∙ w.if-contains-2.true)
    ]

pub fault_of_new-requires-clause-new : goal.fault_of_new-requires-clause-new
fault_of_new-requires-clause-new c =
    let calls = any_indexed (λ (x : Call). x.id) c.args.before.now c.args.calls.now c.args.item.now.id c.requires.calls in
    sym calls ∙ sym c.contains-else-contains.ensures ∙ c.if-contains-2.false

pub returns : goal.returns
returns c =
    let groups = any_indexed (λ (x : Aboard). x.id) c.args.aboard.now c.args.groups.now c.args.item.now.id c.requires.groups in
    c.fault_of_new.ensures c.args.aboard.now (sym groups ∙ sym c.contains.ensures ∙ c.if-contains.false)
