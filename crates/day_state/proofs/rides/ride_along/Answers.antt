use Rattle.std.proofs.Common.{◌≡◌, ◌∙◌, ◌<◌, ◌≤◌, ℕ, List, get_or, take, ap, subst, length, arith, rules}
use Rattle.elevator_model.specs.declared.Stop.{Stop}
use Rattle.elevator_model.specs.Tours.{start_of, after_stops}
use Rattle.search_model.specs.Advancing.{riders_after_all, riders_at_start}
use Rattle.tour_cost.proofs.Walked.{IsWalked-start}
use Rattle.day_state.specs.Riding.{Rides}
use Rattle.day_state.proofs.RideSteps.{next-stop, walked-early, ridden-stop, ridden-events}
use Rattle.day_state.proofs.rides.ride_along.Goals as goal

pub loop-place-init : goal.loop-place-init
loop-place-init c =
    let s = c.args.snapshot.now in
    record {
      ridden = record {
        walked =
            IsWalked-start s c.args.car c.args.tour.now c.in_ok-ride.ride.walker c.requires.feasible c.in_ok-ride.ensures.rides.walks c.in_ok-ride.ensures.floor
            c.in_ok-ride.ensures.early;
        rides = c.in_ok-ride.ensures.rides;
      };
      events = search rules;
    }

-- the stop at the place, as the tour has it
record IsHere (tour : List Stop) (place : ℕ) (stop : Stop) : Type 0 where
  pub below : place < length tour
  pub is : stop ≡ get_or tour place stop

here : (tour items : List Stop) (place stops : ℕ) (stop : Stop) → items ≡ tour → stops ≤ length tour → place < stops → stop ≡ get_or items place stop
    → IsHere tour place stop
here tour items place stops stop same le lt e = record { below = omega arith; is = e ∙ ap (λ (xs : List Stop). get_or xs place stop) same }

pub after_stop-requires-clause-to : goal.after_stop-requires-clause-to
after_stop-requires-clause-to c =
    let at = here c.args.tour.now c.stops.result.now c.loop-place.place c.args.stops c.index-stops-place.result c.stops.ensures c.requires.stops
    c.loop-place-test.true c.index-stops-place.is in
    (next-stop c.args.snapshot.now c.args.car c.args.tour.now c.loop-place.place c.loop-place.ride.walker c.index-stops-place.result
    c.loop-place.invariant.ridden.walked at.below at.is).floor

pub after_stop-requires-clause-early : goal.after_stop-requires-clause-early
after_stop-requires-clause-early c =
    walked-early c.args.snapshot.now c.args.car c.args.tour.now c.loop-place.place c.loop-place.ride.walker c.in_ok-ride.ensures.accepted c.requires.car
    c.requires.feasible c.loop-place.invariant.ridden.walked (let most = c.requires.stops in omega (arith, most, c.loop-place-test.true))

pub after_stop-requires-clause-boards : goal.after_stop-requires-clause-boards
after_stop-requires-clause-boards c =
    let at = here c.args.tour.now c.stops.result.now c.loop-place.place c.args.stops c.index-stops-place.result c.stops.ensures c.requires.stops
    c.loop-place-test.true c.index-stops-place.is in
    (next-stop c.args.snapshot.now c.args.car c.args.tour.now c.loop-place.place c.loop-place.ride.walker c.index-stops-place.result
    c.loop-place.invariant.ridden.walked at.below at.is).boards

pub loop-place-preserved : goal.loop-place-preserved
loop-place-preserved c =
    let s = c.args.snapshot.now in
    let car = c.args.car in
    let tour = c.args.tour.now in
    let place = c.loop-place.place in
    let ride = c.loop-place.ride in
    let stop = c.index-stops-place.result in
    let at = here tour c.stops.result.now place c.args.stops stop c.stops.ensures c.requires.stops c.loop-place-test.true c.index-stops-place.is in
    record {
      ridden = ridden-stop s car tour place ride c.in_ok-ride-2.ride stop c.loop-place.invariant.ridden at.below at.is c.in_ok-ride-2.ensures.rides
          c.in_ok-ride-2.ensures.floor c.in_ok-ride-2.ensures.late;
      events = ridden-events s car tour place ride stop c.args.events.now.items c.loop-place.events.items c.after_stop.new.events.items
          c.loop-place.invariant.ridden at.below at.is c.loop-place.invariant.events c.in_ok-ride-2.ensures.events;
    }

pub returns-clause-rides : goal.returns-clause-rides
returns-clause-rides c =
    let s = c.args.snapshot.now in
    let all : c.loop-place.place ≡ c.args.stops = omega (arith, c.loop-place-test.false, c.loop-place.auto.place-end) in
    subst (λ (n : ℕ). Rides s c.args.car c.loop-place.ride (after_stops s c.args.car (start_of s c.args.car) (take n c.args.tour.now))
    (riders_after_all s (riders_at_start s c.args.car) (take n c.args.tour.now))) all c.loop-place.invariant.ridden.rides

pub returns-clause-early : goal.returns-clause-early
returns-clause-early c =
    walked-early c.args.snapshot.now c.args.car c.args.tour.now c.loop-place.place c.loop-place.ride.walker c.in_ok-ride.ensures.accepted c.requires.car
    c.requires.feasible c.loop-place.invariant.ridden.walked (let most = c.requires.stops in omega (arith, most, c.loop-place.auto.place-end))
