use Rattle.std.proofs.Common.{ap, ◌∙◌}
use Rattle.elevator_model.specs.declared.CarSpec.{CarSpec}
use Rattle.call_state.proofs.IdLemmas.{new_after}
use Rattle.call_state.proofs.id_index.IdIndex.of_cars.Goals as goal

pub push-requires : goal.push-requires
push-requires c = λ k inside same.
    new_after (λ (x : CarSpec). x.id) c.args.cars.now c.loop-car.car-index c.car-item.result c.loop-car.index c.requires c.loop-car-test.true
    c.loop-car.invariant k inside (same ∙ ap (λ (x : CarSpec). x.id) c.car-item.is)
