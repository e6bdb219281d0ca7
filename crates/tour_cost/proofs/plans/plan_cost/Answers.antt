use Rattle.std.proofs.Common.{◌≡◌, ap, length, arith}
use Rattle.elevator_model.specs.Building.{Building}
use Rattle.elevator_model.specs.Snapshot.{car_count}
use Rattle.tour_cost.proofs.Served.{plan-small}
use Rattle.tour_cost.proofs.plans.plan_cost.Goals as goal

pub returns-clause-bounded : goal.returns-clause-bounded
returns-clause-bounded c =
    let s = c.args.snapshot.now in
    let same = ap length c.cars-cars.ensures.value in
    let cars = ap (λ (b : Building). length b.cars) c.building.ensures.value in
    let all : c.loop-car.car ≡ car_count s = omega (arith, same, cars, c.loop-car-test.false, c.loop-car.auto.car-end) in
    plan-small s c.args.plan.now c.loop-car.total c.loop-car.car c.building.ensures.accepted c.requires all c.loop-car.invariant.each
