use Rattle.std.proofs.Common.{◌≡◌, length, ap, arith}
use Rattle.elevator_model.specs.Building.{Building}
use Rattle.elevator_model.specs.Snapshot.{car_count}
use Rattle.restricted_master.proofs.PoolLemmas.{pool-empty}
use Rattle.restricted_master.proofs.pools.Pool.new.Goals as goal

all_cars : (c : goal.After-loop) → length c.loop.cars.items ≡ car_count c.args.snapshot.now
all_cars c =
    let same = ap length c.cars-count.ensures.value in
    let cars = ap (λ (b : Building). length b.cars) c.building.ensures.value in
    let counted = c.loop.invariant.counted in
    omega (arith, same, cars, counted, c.loop-test.false, c.loop.auto.counter-end)

pub returns : goal.returns
returns c = pool-empty c.args.snapshot.now c.loop.cars.items (all_cars c) c.loop.invariant.empty
