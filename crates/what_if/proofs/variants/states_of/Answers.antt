use Rattle.std.proofs.Common.{◌∙◌, ◌<◌, ◌≤◌, ◌++◌, ◌∷◌, [], List, take, length, sym, ap, arith}
use Rattle.std.proofs.lemmas.List.{take_more, take_all}
use Rattle.elevator_model.specs.declared.CarSpec.{CarSpec}
use Rattle.elevator_model.specs.declared.CarState.{CarState}
use Rattle.elevator_model.specs.Building.{Building}
use Rattle.elevator_model.specs.Snapshot.{no_state}
use Rattle.call_state.proofs.PossibleLemmas.{most_cars-le}
use Rattle.what_if.proofs.variants.states_of.Goals as goal

pub overflow_cast-car-end : goal.overflow_cast-car-end
overflow_cast-car-end c =
    let high = c.cars.ensures.building.cars_high in
    let most = most_cars-le c.building.result.now.version in
    let cars = ap (λ (xs : List CarSpec). length xs) c.cars.ensures.value in
    omega (arith, high, most, cars)

pub loop-car-preserved : goal.loop-car-preserved
loop-car-preserved c =
    let states = c.args.snapshot.now.states in
    let car = c.loop-car.car in
    let cars = ap (λ (xs : List CarSpec). length xs) c.cars.ensures.value ∙ ap (λ (b : Building). length b.cars) c.building.ensures.value in
    let count = c.building.ensures.accepted.states in
    let below : car < length states = omega (arith, cars, count, c.loop-car-test.true) in
    c.in_ok-push.ensures.items ∙ ap (λ (xs : List CarState). xs ++ c.car.result ∷ []) c.loop-car.invariant
    ∙ ap (λ (x : CarState). take car states ++ x ∷ []) c.car.ensures.value ∙ sym (take_more states car no_state below)

pub returns : goal.returns
returns c =
    let states = c.args.snapshot.now.states in
    let cars = ap (λ (xs : List CarSpec). length xs) c.cars.ensures.value ∙ ap (λ (b : Building). length b.cars) c.building.ensures.value in
    let count = c.building.ensures.accepted.states in
    let all : length states ≤ c.loop-car.car = omega (arith, cars, count, c.loop-car-test.false) in
    c.loop-car.invariant ∙ take_all c.loop-car.car states all
