use Rattle.std.proofs.Common.{◌≡◌, map, take}
use Rattle.elevator_model.specs.declared.CarSpec.{CarSpec}
use Rattle.call_state.proofs.id_index.IdIndex.of_cars.Given as goal

abbrev pub invariant-loop-car : goal.invariant-loop-car
invariant-loop-car l = l.index ≡ map (λ (x : CarSpec). x.id) (take l.car-index l.cars)
