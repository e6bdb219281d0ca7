use Rattle.std.proofs.Common.{ℕ, false, List, map, length, sym, ap, ◌∙◌}
use Rattle.std.proofs.lemmas.List.{length-map}
use Rattle.elevator_model.specs.declared.CarSpec.{CarSpec}
use Rattle.elevator_model.specs.declared.Aboard.{Aboard}
use Rattle.elevator_model.specs.declared.Call.{Call}
use Rattle.elevator_model.specs.Snapshot.{no_state}
use Rattle.snapshot_text.proofs.drafts.Draft.new.Goals as goal

pub returns-clause-value : goal.returns-clause-value
returns-clause-value c =
    rw (c.in_ok-states.ensures.states, c.in_ok-states.ensures.stated, c.cars.ensures.value, c.new.ensures.items, c.new-2.ensures.items)

pub invariant_of-result : goal.invariant_of-result
invariant_of-result c =
    let cars = c.cars.result.now in
    let long = ap length c.cars.ensures.value in
    let group_ids : List Aboard → List ℕ = map (λ x. x.id) in
    let call_ids : List Call → List ℕ = map (λ x. x.id) in (
      ap length c.in_ok-states.ensures.states ∙ length-map cars (λ (x : CarSpec). no_state) ∙ long,
      ap length c.in_ok-states.ensures.stated ∙ length-map cars (λ (x : CarSpec). false) ∙ long,
      c.new-3.ensures ∙ ap group_ids (sym c.new.ensures.items),
      c.new-4.ensures ∙ ap call_ids (sym c.new-2.ensures.items),
    )
