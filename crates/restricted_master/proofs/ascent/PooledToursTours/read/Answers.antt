use Rattle.std.proofs.Common.{length, ap, arith}
use Rattle.elevator_model.specs.Building.{Building}
use Rattle.elevator_model.specs.Snapshot.{car_count}
use Rattle.tour_cost.proofs.Served.{cars-le}
use Rattle.restricted_master.proofs.ascent.PooledToursTours.read.Goals as goal

pub overflow_cast-car : goal.overflow_cast-car
overflow_cast-car c =
    let few = cars-le c.args.self.now.pool.now.snapshot c.snapshot.ensures.pool.accepted in
    let listed = ap length c.cars-cars.ensures.value in
    let built = ap (λ (b : Building). length b.cars) c.building.ensures.value in
    let same = ap car_count c.snapshot.ensures.value in
    omega (arith, few, listed, built, same, c.loop-car-test.true)

pub cheapest_column-requires-clause-small : goal.cheapest_column-requires-clause-small
cheapest_column-requires-clause-small c = λ k d lt. (c.columns-columns.ensures.columns k d lt).small
