use Rattle.std.proofs.Common.{length, map, arith}
use Rattle.std.specs.List.{filter, range_with_len}
use Rattle.elevator_model.specs.Snapshot.{group_of}
use Rattle.search_model.specs.Advancing.{rides_on}
use Rattle.tour_cost.proofs.Served.{most_cars-le}
use Rattle.day_state.proofs.CarsReached.{groups-more}
use Rattle.day_state.proofs.remaining.aboard_at.Goals as goal

pub overflow_cast-car : goal.overflow_cast-car
overflow_cast-car c =
    let s = c.args.snapshot.now in
    let high = c.groups_staying.ensures.accepted.building.cars_high in
    let most = most_cars-le s.building.version in
    let count = c.requires in
    omega (arith, high, most, count, c.loop-car-test.true)

pub loop-car-preserved : goal.loop-car-preserved
loop-car-preserved c = λ w t same r.
    let s = c.args.snapshot.now in
    groups-more s w t c.args.reached.now c.loop-car.car c.index-reached-car.result
    (map (group_of s) (filter (rides_on w t) (range_with_len 0 (length s.aboard)))) c.loop-car.groups.items c.add_new_groups.new.groups.items same r
    c.loop-car-test.true c.index-reached-car.is c.in_ok-add_new_groups.ensures (c.loop-car.invariant w t same r)
