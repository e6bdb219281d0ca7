use Rattle.std.proofs.Common.{◌∙◌, ◌<◌, take, length, ap, arith}
use Rattle.std.proofs.lemmas.List.{take_all}
use Rattle.elevator_model.specs.Plans.{tour_of}
use Rattle.day_state.proofs.CarsReached.{tour-is, events-here}
use Rattle.day_state.proofs.worlds.World.run_out_into.Goals as goal

pub loop-car-preserved : goal.loop-car-preserved
loop-car-preserved c =
    let w = c.args.self.now in
    let car = c.loop-car.car in
    let s = c.snapshot-snapshot.result.now in
    let tour = c.index-tours-car.result in
    let tours = c.tours-tours.ensures ∙ c.plan.ensures in
    let below : car < length w.plan = (let long = ap length tours in omega (arith, long, c.loop-car-test.true)) in
    let tour_is = tour-is w.plan c.tours-tours.result.now car tour tours below c.index-tours-car.is in
    let all = length c.stops-stops.result.now in
    let stops = take_all all tour (let long = ap length c.stops-stops.ensures in omega (arith, long)) ∙ tour_is in
    events-here w car s (tour_of w.plan)
    (take all tour) c.args.events.now.items c.loop-car.events.items c.ride_along.new.events.items c.snapshot-snapshot.ensures.value stops
    c.loop-car.invariant c.in_ok-ride_along.ensures.events
