use Rattle.std.proofs.Common.{◌≡◌, ◌∙◌, ◌<◌, Some, List, length, sym, ap, arith}
use Rattle.elevator_model.specs.declared.CarSpec.{CarSpec}
use Rattle.elevator_model.specs.Building.{Building}
use Rattle.elevator_model.specs.Snapshot.{Snapshot, car_count}
use Rattle.search_model.specs.Verdicts.{reason_of_car}
use Rattle.cert_checker.proofs.LeafLemmas.{cars_first}
use Rattle.cert_checker.proofs.leaves.judge_cars.Goals as goal

pub returns-in-Some-clause-reason : goal.returns-in-Some-clause-reason
returns-in-Some-clause-reason c =
    let s = c.args.desk.now.snapshot.now in
    let told = c.in_ok-reason.ensures.reason c.args.leaf.now c.loop-car.invariant.holds in
    let here : reason_of_car s c.args.number c.args.node.now c.args.leaf.now c.loop-car.car ≡ Some c.in-Some.reason =
    ap (λ (v : Snapshot). reason_of_car v c.args.number c.args.node.now c.args.leaf.now c.loop-car.car) (sym c.loop-car.invariant.same) ∙ sym told
    ∙ c.in-Some.is in
    let lt : c.loop-car.car < car_count s =
    (let test = c.loop-car-test.true in
    let cars = ap (λ (l : List CarSpec). length l) (c.cars-car-end.ensures.value ∙ ap (λ (b : Building). b.cars) c.building.ensures.value) in
    omega (arith, test, cars)) in
    sym (cars_first s c.args.number c.args.node.now c.args.leaf.now (car_count s) c.loop-car.car c.in-Some.reason lt c.loop-car.invariant.clear here)
