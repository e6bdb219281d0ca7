use Rattle.std.proofs.Common.{ℕ, map, List, sym, subst, ap, ◌∙◌}
use Rattle.elevator_model.specs.declared.CarSpec.{CarSpec}
use Rattle.call_state.specs.BuildingParts.{building_of}
use Rattle.call_state.specs.Ids.{AreDifferent}
use Rattle.call_state.proofs.BuildingLemmas.{ids-IsBuilding}
use Rattle.call_state.proofs.buildings.Building.of_faultless.Goals as goal

pub of_cars-requires : goal.of_cars-requires
of_cars-requires c =
    let P : List CarSpec → Type 0 = λ cars. AreDifferent (map (λ (x : CarSpec). x.id) cars) in
    subst P (sym c.deref.ensures.value) (ids-IsBuilding (building_of c.args.parts) c.requires)

pub invariant_of-result : goal.invariant_of-result
invariant_of-result c =
    let f : List CarSpec → List ℕ = map (λ x. x.id) in
    (c.requires, c.in_ok-ids.ensures ∙ ap f c.deref.ensures.value)
