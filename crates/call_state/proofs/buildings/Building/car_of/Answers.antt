use Rattle.std.proofs.Common.{◌≡◌, ℕ, map, None, ◌∙◌, ap}
use Rattle.elevator_model.specs.declared.CarSpec.{CarSpec}
use Rattle.elevator_model.specs.Building.{Building, no_car}
use Rattle.call_state.proofs.IdLemmas.{item_place}
use Rattle.call_state.proofs.buildings.Building.car_of.Goals as goal

pub returns-in-None-clause-car : goal.returns-in-None-clause-car
returns-in-None-clause-car c =
    let id : CarSpec → ℕ = λ x. x.id in
    let same : c.self.inside.ids ≡ map id c.args.self.now.cars = c.self.invariant.1 ∙ ap (λ (b : Building). map id b.cars) c.self.view_is in
    item_place id c.args.self.now.cars no_car c.self.inside.ids c.args.id None same c.in-None.ensures
