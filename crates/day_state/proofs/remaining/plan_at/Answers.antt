use Rattle.std.proofs.Common.{◌≡◌, ◌∙◌, ◌<◌, ℕ, List, map, length, ap, arith, get_or}
use Rattle.std.specs.List.{range_with_len}
use Rattle.elevator_model.specs.Snapshot.{call_count, car_count}
use Rattle.search_model.specs.Advancing.{left_at, stop_then}
use Rattle.day_state.specs.Reaching.{renamed_stop}
use Rattle.day_state.proofs.CarsReached.{tour-is, car-reached, left-is, tour-left, tours-more}
use Rattle.day_state.proofs.remaining.plan_at.Goals as goal

pub loop-car-preserved : goal.loop-car-preserved
loop-car-preserved c = λ t reached.
    let w = c.args.world.now in
    let car = c.loop-car.car in
    let one = c.index-reached-car.result in
    let r = car-reached w t c.args.reached.now car one reached c.loop-car-test.true c.index-reached-car.is in
    let tours = c.tours-tours.ensures ∙ c.plan.ensures in
    let count = c.requires.count in
    let cars = c.requires.feasible.cars in
    let below : car < length w.plan = omega (arith, count, cars, c.loop-car-test.true) in
    let left = left-is w t car one c.index-tours-car.result c.stops_left-left.result.now r
    (tour-is w.plan c.tours-tours.result.now car c.index-tours-car.result tours below c.index-tours-car.is) c.stops_left-left.ensures in
    let calls : length c.calls-calls.result.now ≡ call_count w.snapshot = ap length c.calls-calls.ensures.value ∙ ap call_count c.snapshot.ensures.value in
    let indexes = c.in_ok-indexes.indexes.items in
    let tour = c.in_ok-tour_then.ensures
    ∙ ap (λ (xs : List ℕ). map (renamed_stop (λ j. get_or xs j 0)) c.stops_left-left.result.now) c.as_slice.ensures.value in
    let here = tour-left w t c.args.reached.now c.boarded_calls.result car indexes c.stops_left-left.result.now c.in_ok-tour_then.field-0 c.requires.feasible
    reached c.boarded_calls.ensures (λ j lt. c.in_ok-indexes.ensures.each j (omega (arith, lt, calls)))
    (omega (arith, count, c.loop-car-test.true)) left tour in
    tours-more w t car c.loop-car.plan c.push.new.self c.in_ok-tour_then.field-0 c.in_ok-push.ensures.ok (c.loop-car.invariant t reached) here

pub returns-clause-plan : goal.returns-clause-plan
returns-clause-plan c = λ t reached.
    let w = c.args.world.now in
    let count = c.requires.count in
    let all : c.loop-car.car ≡ car_count w.snapshot = omega (arith, count, c.loop-car-test.false, c.loop-car.auto.car-end) in
    c.loop-car.invariant t reached ∙ ap (λ (n : ℕ). map (λ c. map (stop_then w t) (left_at w t c)) (range_with_len 0 n)) all
