use Rattle.std.proofs.Common.{◌≡◌, ◌∙◌, ◌<◌, ℕ, List, get_or, take, refl, ap, length, arith}
use Rattle.elevator_model.specs.declared.Stop.{Stop}
use Rattle.elevator_model.specs.Tours.{start_of}
use Rattle.search_model.specs.Advancing.{done_from}
use Rattle.tour_cost.proofs.Walked.{IsWalked-start, IsWalked-stop, progress}
use Rattle.day_state.proofs.RideSteps.{next-stop, walked-early, stop-set, set-walks, done-more, done-here, done-count}
use Rattle.day_state.proofs.rides.stops_done.Goals as goal

-- the stop at the place, as the tour has it
record IsHere (tour : List Stop) (place : ℕ) (stop : Stop) : Type 0 where
  pub below : place < length tour
  pub is : stop ≡ get_or tour place stop

here : (tour items : List Stop) (place : ℕ) (stop : Stop) → items ≡ tour → place < length items → stop ≡ get_or items place stop → IsHere tour place stop
here tour items place stop same lt e =
    record { below = (let long = ap length same in omega (arith, long, lt)); is = e ∙ ap (λ (xs : List Stop). get_or xs place stop) same }

pub loop-done-init : goal.loop-done-init
loop-done-init c = record {
  walked = IsWalked-start c.args.snapshot.now c.args.car c.args.tour.now c.start-walker.result c.requires.feasible c.start-walker.ensures.start
      c.start-walker.ensures.floor c.start-walker.ensures.early;
  done = refl;
}

pub arrival-requires-clause-to : goal.arrival-requires-clause-to
arrival-requires-clause-to c =
    let at = here c.args.tour.now c.stops-stops.result.now c.loop-done.done c.index-stops-done.result c.stops-stops.ensures c.loop-done-test.true
    c.index-stops-done.is in
    (next-stop c.args.snapshot.now c.args.car c.args.tour.now c.loop-done.done c.loop-done.walker c.index-stops-done.result c.loop-done.invariant.walked
    at.below at.is).floor

pub arrival-requires-clause-early : goal.arrival-requires-clause-early
arrival-requires-clause-early c =
    let long = ap length c.stops-stops.ensures in
    walked-early c.args.snapshot.now c.args.car c.args.tour.now c.loop-done.done c.loop-done.walker c.start-walker.ensures.accepted c.requires.car
    c.requires.feasible c.loop-done.invariant.walked (omega (arith, long, c.loop-done-test.true))

-- where the next stop is reached later
over : (c : goal.Then-arrival-t)
    → take c.loop-done.done c.args.tour.now ≡ done_from c.args.snapshot.now c.args.car c.args.t (start_of c.args.snapshot.now c.args.car) c.args.tour.now
over c =
    let s = c.args.snapshot.now in
    let tour = c.args.tour.now in
    let at = here tour c.stops-stops.result.now c.loop-done.done c.index-stops-done.result c.stops-stops.ensures c.loop-done-test.true c.index-stops-done.is in
    let arrives = c.arrival.ensures.value (progress s c.args.car tour c.loop-done.done) c.loop-done.invariant.walked.walks in
    done-here s c.args.car c.args.t tour c.loop-done.done c.arrival.result c.index-stops-done.result at.below at.is arrives c.if-arrival-t.true
    c.loop-done.invariant.done

pub returns-then-arrival-t-clause-stops : goal.returns-then-arrival-t-clause-stops
returns-then-arrival-t-clause-stops c = over c

pub returns-then-arrival-t-clause-count : goal.returns-then-arrival-t-clause-count
returns-then-arrival-t-clause-count c =
    let long = ap length c.stops-stops.ensures in
    done-count c.args.tour.now _ c.loop-done.done (omega (arith, long, c.loop-done-test.true)) (over c)

pub make_stop-walker-requires-clause-to : goal.make_stop-walker-requires-clause-to
make_stop-walker-requires-clause-to c =
    let at = here c.args.tour.now c.stops-stops.result.now c.loop-done.done c.index-stops-done.result c.stops-stops.ensures c.loop-done-test.true
    c.index-stops-done.is in
    (next-stop c.args.snapshot.now c.args.car c.args.tour.now c.loop-done.done c.loop-done.walker c.index-stops-done.result c.loop-done.invariant.walked
    at.below at.is).floor

pub make_stop-walker-requires-clause-early : goal.make_stop-walker-requires-clause-early
make_stop-walker-requires-clause-early c =
    let long = ap length c.stops-stops.ensures in
    walked-early c.args.snapshot.now c.args.car c.args.tour.now c.loop-done.done c.loop-done.walker c.start-walker.ensures.accepted c.requires.car
    c.requires.feasible c.loop-done.invariant.walked (omega (arith, long, c.loop-done-test.true))

pub loop-done-preserved : goal.loop-done-preserved
loop-done-preserved c =
    let s = c.args.snapshot.now in
    let car = c.args.car in
    let tour = c.args.tour.now in
    let done = c.loop-done.done in
    let walker = c.loop-done.walker in
    let stop = c.index-stops-done.result in
    let at = here tour c.stops-stops.result.now done stop c.stops-stops.ensures c.loop-done-test.true c.index-stops-done.is in
    let walked = c.loop-done.invariant.walked in
    let of = next-stop s car tour done walker stop walked at.below at.is in
    let same = stop-set s stop c.as_slice.result.now c.of_list-boards.result c.start-walker.ensures.accepted of.boards c.as_slice.ensures
    c.of_list-boards.ensures in
    let walks = set-walks s car walker c.make_stop-walker.result stop c.of_list-boards.result c.make_stop-walker.ensures.stops same in
    let arrives = c.arrival.ensures.value (progress s car tour done) walked.walks in
    record {
      walked = IsWalked-stop s car tour done walker c.make_stop-walker.result stop walked at.below at.is
          (walks (progress s car tour done) walked.walks) c.make_stop-walker.ensures.floor c.make_stop-walker.ensures.late;
      done = done-more s car c.args.t tour done c.arrival.result stop at.below at.is arrives c.if-arrival-t.false c.loop-done.invariant.done;
    }
