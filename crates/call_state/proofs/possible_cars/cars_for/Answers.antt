use Rattle.std.proofs.Common.{ap, length, arith}
use Rattle.call_state.proofs.PossibleLemmas.{possible-taken, possible-left, possible-all}
use Rattle.call_state.proofs.possible_cars.cars_for.Goals as goal
use Rattle.call_state.proofs.possible_cars.cars_for.Goals.{then-is_possible_car, else-is_possible_car}

pub loop-car-preserved : goal.loop-car-preserved
loop-car-preserved c =
    let b = c.args.building.now in
    let call = c.args.call.now in
    let tested = c.is_possible_car.ensures in
    elim c.if-is_possible_car.branch [
      | then-is_possible_car w ↦
          rw w.possible-is (possible-taken b call c.loop-car.car c.loop-car.possible w.with-possible.result
          (let held = w.if-is_possible_car.true in cc) w.with-possible.ensures c.loop-car.invariant)
      | else-is_possible_car w ↦
          rw w.possible-is (possible-left b call c.loop-car.car c.loop-car.possible (let held = w.if-is_possible_car.false in cc) c.loop-car.invariant)
    ]

pub returns : goal.returns
returns c =
    possible-all c.args.building.now c.args.call.now c.loop-car.car c.loop-car.possible
    (let same = ap length c.cars.ensures.value in omega arith) c.loop-car.invariant
