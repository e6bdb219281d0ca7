use Rattle.std.proofs.Common.{ap, arith}
use Rattle.elevator_model.specs.Snapshot.{car_count}
use Rattle.tour_cost.proofs.Served.{cars-le}
use Rattle.root_turns.proofs.pools.put_turn.Goals as goal

pub overflow_cast-car : goal.overflow_cast-car
overflow_cast-car c =
    let few = cars-le c.snapshot.result.now c.calls.ensures.accepted in
    let same = ap car_count c.snapshot.ensures.value in
    let count = c.requires.count in
    let below = c.loop-car-test.true in
    omega (arith, few, same, count, below)
