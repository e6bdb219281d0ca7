use Rattle.std.proofs.Common.{◌≡◌, ◌∙◌, ◌<◌, ◌≤◌, List, length, sym, ap, subst, arith}
use Rattle.elevator_model.specs.declared.Stop.{Stop}
use Rattle.elevator_model.specs.Building.{floor_count}
use Rattle.elevator_model.specs.Snapshot.{Snapshot, car_count}
use Rattle.search_model.specs.Advancing.{left_at, progress_at, state_then}
use Rattle.tour_rules.specs.Walking.{Walks}
use Rattle.day_state.specs.Riding.{AreFloorsOf}
use Rattle.day_state.proofs.CarsReached.{tour-is, car-reached, left-is, left-floors, states-more}
use Rattle.day_state.proofs.remaining.states_at.Goals as goal

pub stops_left-left-requires : goal.stops_left-left-requires
stops_left-left-requires c =
    let w = c.args.world.now in
    let car = c.loop-car.car in
    let r = car-reached w c.args.t c.args.reached.now car c.index-reached-car.result c.requires.reached c.loop-car-test.true c.index-reached-car.is in
    let tours = c.tours-tours.ensures ∙ c.plan.ensures in
    let below : car < length w.plan =
    (let count = c.requires.reached.count in let cars = c.requires.feasible.cars in omega (arith, count, cars, c.loop-car-test.true)) in
    subst (λ (x : List Stop). c.index-reached-car.result.done ≤ length x)
    (sym (tour-is w.plan c.tours-tours.result.now car c.index-tours-car.result tours below c.index-tours-car.is)) r.within

pub state_then-requires-clause-from : goal.state_then-requires-clause-from
state_then-requires-clause-from c =
    let w = c.args.world.now in
    let r = car-reached w c.args.t c.args.reached.now c.loop-car.car c.index-reached-car.result c.requires.reached c.loop-car-test.true
    c.index-reached-car.is in
    subst (λ (x : Snapshot). c.index-reached-car.result.ride.walker.place.floor < floor_count x.building) (sym c.snapshot.ensures.value) r.floor

-- the stops that the code cuts off
left_there : (c : goal.After-snapshot) → c.stops_left-left.result.now ≡ left_at c.args.world.now c.args.t c.loop-car.car
left_there c =
    let w = c.args.world.now in
    let car = c.loop-car.car in
    let r = car-reached w c.args.t c.args.reached.now car c.index-reached-car.result c.requires.reached c.loop-car-test.true c.index-reached-car.is in
    let tours = c.tours-tours.ensures ∙ c.plan.ensures in
    let below : car < length w.plan =
    (let count = c.requires.reached.count in let cars = c.requires.feasible.cars in omega (arith, count, cars, c.loop-car-test.true)) in
    left-is w c.args.t car c.index-reached-car.result c.index-tours-car.result c.stops_left-left.result.now r
    (tour-is w.plan c.tours-tours.result.now car c.index-tours-car.result tours below c.index-tours-car.is) c.stops_left-left.ensures

pub state_then-requires-clause-to : goal.state_then-requires-clause-to
state_then-requires-clause-to c =
    let w = c.args.world.now in
    let below : c.loop-car.car < car_count w.snapshot = (let count = c.requires.reached.count in omega (arith, count, c.loop-car-test.true)) in
    subst (λ (x : Snapshot). AreFloorsOf x c.stops_left-left.result.now) (sym c.snapshot.ensures.value)
    (subst (AreFloorsOf w.snapshot) (sym (left_there c)) (left-floors w c.args.t c.loop-car.car c.requires.feasible below))

pub state_then-requires-clause-early : goal.state_then-requires-clause-early
state_then-requires-clause-early c =
    (car-reached c.args.world.now c.args.t c.args.reached.now c.loop-car.car c.index-reached-car.result c.requires.reached c.loop-car-test.true
    c.index-reached-car.is).early

pub loop-car-preserved : goal.loop-car-preserved
loop-car-preserved c =
    let w = c.args.world.now in
    let t = c.args.t in
    let car = c.loop-car.car in
    let one = c.index-reached-car.result in
    let r = car-reached w t c.args.reached.now car one c.requires.reached c.loop-car-test.true c.index-reached-car.is in
    let p = progress_at w t car in
    let tours = c.tours-tours.ensures ∙ c.plan.ensures in
    let below : car < length w.plan =
    (let count = c.requires.reached.count in let cars = c.requires.feasible.cars in omega (arith, count, cars, c.loop-car-test.true)) in
    let left = left-is w t car one c.index-tours-car.result c.stops_left-left.result.now r
    (tour-is w.plan c.tours-tours.result.now car c.index-tours-car.result tours below c.index-tours-car.is) c.stops_left-left.ensures in
    let walks = subst (λ (x : Snapshot). Walks x car one.ride.walker p) (sym c.snapshot.ensures.value) r.ride.walks in
    let state = c.state_then.ensures p walks ∙ ap (λ (x : Snapshot). state_then x car t p c.stops_left-left.result.now) c.snapshot.ensures.value
    ∙ ap (state_then w.snapshot car t p) left in
    states-more w t car c.loop-car.states.items c.push.new.self.items c.state_then.result c.in_ok-push.ensures.items c.loop-car.invariant state
