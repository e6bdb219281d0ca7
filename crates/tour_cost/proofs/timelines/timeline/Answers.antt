use Rattle.std.proofs.Common.{◌<◌, ◌≤◌, ℕ, All, List, refl, sym, subst, arith}
use Rattle.elevator_model.specs.declared.Times.{Times}
use Rattle.elevator_model.specs.Building.{floor_count}
use Rattle.tour_cost.proofs.Moments.{tour_early}
use Rattle.elevator_model.specs.Costs.{timeline_of}
use Rattle.tour_cost.proofs.Walked.{IsWalked-start, here-stop, here-calls, here-boards, here-early, makes_stop, all-times, next-walked, next-times}
use Rattle.tour_cost.specs.Entries.{TellsEachStop}
use Rattle.tour_cost.proofs.Told.{timeline_tells}
use Rattle.tour_cost.proofs.timelines.timeline.Goals as goal

pub loop-stop-init : goal.loop-stop-init
loop-stop-init c = record {
  walked = IsWalked-start c.args.snapshot.now c.args.car c.args.tour.now c.start-walker.result c.requires.feasible c.start-walker.ensures.start
      c.start-walker.ensures.floor c.start-walker.ensures.early;
  times = rw c.new-times.ensures.items refl;
}

pub arrival-arrival-requires-clause-to : goal.arrival-arrival-requires-clause-to
arrival-arrival-requires-clause-to c =
    (here-stop c.args.snapshot.now c.args.car c.args.tour.now c.stops-stop-items.result.now c.loop-stop.stop-index c.loop-stop.walker c.stop-item.result
    c.loop-stop.invariant.walked c.stops-stop-items.ensures c.loop-stop-test.true c.stop-item.is).floor

pub arrival-arrival-requires-clause-early : goal.arrival-arrival-requires-clause-early
arrival-arrival-requires-clause-early c =
    let early = here-early c.args.snapshot.now c.args.car c.args.tour.now c.stops-stop-items.result.now c.loop-stop.stop-index c.loop-stop.walker
    c.start-walker.ensures.accepted c.requires.car c.requires.feasible c.loop-stop.invariant.walked c.stops-stop-items.ensures c.loop-stop-test.true in
    omega (arith, early)

pub make_stop-walker-requires-clause-early : goal.make_stop-walker-requires-clause-early
make_stop-walker-requires-clause-early c =
    let early = here-early c.args.snapshot.now c.args.car c.args.tour.now c.stops-stop-items.result.now c.loop-stop.stop-index c.loop-stop.walker
    c.start-walker.ensures.accepted c.requires.car c.requires.feasible c.loop-stop.invariant.walked c.stops-stop-items.ensures c.loop-stop-test.true in
    omega (arith, early)

pub make_stop-walker-requires-clause-to : goal.make_stop-walker-requires-clause-to
make_stop-walker-requires-clause-to c =
    (here-stop c.args.snapshot.now c.args.car c.args.tour.now c.stops-stop-items.result.now c.loop-stop.stop-index c.loop-stop.walker c.stop-item.result
    c.loop-stop.invariant.walked c.stops-stop-items.ensures c.loop-stop-test.true c.stop-item.is).floor

pub calls_at-boards-requires : goal.calls_at-boards-requires
calls_at-boards-requires c =
    here-calls c.args.snapshot.now c.stop-item.result c.as_slice.result.now c.start-walker.ensures.accepted
    (here-stop c.args.snapshot.now c.args.car c.args.tour.now c.stops-stop-items.result.now c.loop-stop.stop-index c.loop-stop.walker c.stop-item.result
    c.loop-stop.invariant.walked c.stops-stop-items.ensures c.loop-stop-test.true c.stop-item.is) c.as_slice.ensures

pub loop-stop-preserved : goal.loop-stop-preserved
loop-stop-preserved c =
    let boards_are = here-boards c.stop-item.result c.as_slice.result.now c.calls_at-boards.result c.as_slice.ensures c.calls_at-boards.ensures in
    let stops = makes_stop c.args.snapshot.now c.args.car c.loop-stop.walker c.make_stop-walker.result c.stop-item.result c.calls_at-boards.result
    c.make_stop-walker.ensures.stops boards_are in
    record {
      walked = next-walked c.args.snapshot.now c.args.car c.args.tour.now c.stops-stop-items.result.now c.loop-stop.stop-index c.loop-stop.walker
          c.make_stop-walker.result c.stop-item.result c.loop-stop.invariant.walked c.stops-stop-items.ensures c.loop-stop-test.true c.stop-item.is stops
          c.make_stop-walker.ensures.floor c.make_stop-walker.ensures.late;
      times = next-times c.args.snapshot.now c.args.car c.args.tour.now c.stops-stop-items.result.now c.loop-stop.stop-index c.loop-stop.walker
          c.make_stop-walker.result c.stop-item.result c.loop-stop.times.items c.push.new.self.items
          (timeline_of c.args.snapshot.now c.args.car c.args.tour.now) c.arrival-arrival.result c.loop-stop.invariant.walked c.stops-stop-items.ensures
          c.loop-stop-test.true c.stop-item.is stops c.arrival-arrival.ensures.value c.in_ok-push.ensures.items c.loop-stop.invariant.times;
    }

pub returns-clause-timeline : goal.returns-clause-timeline
returns-clause-timeline c =
    all-times c.args.snapshot.now c.args.car c.args.tour.now c.stops-stop-items.result.now c.loop-stop.stop-index c.loop-stop.times.items
    c.stops-stop-items.ensures c.loop-stop-test.false c.loop-stop.invariant.times

pub returns-clause-each_stop : goal.returns-clause-each_stop
returns-clause-each_stop c =
    let all = all-times c.args.snapshot.now c.args.car c.args.tour.now c.stops-stop-items.result.now c.loop-stop.stop-index c.loop-stop.times.items
    c.stops-stop-items.ensures c.loop-stop-test.false c.loop-stop.invariant.times in
    subst (TellsEachStop c.args.snapshot.now c.args.car c.args.tour.now) (sym all) (timeline_tells c.args.snapshot.now c.args.car c.args.tour.now)

pub returns-clause-early : goal.returns-clause-early
returns-clause-early c =
    let s = c.args.snapshot.now in
    let car = c.args.car in
    let tour = c.args.tour.now in
    let start = c.start-walker.ensures.start in
    let leaves = subst (λ (n : ℕ). n ≤ 1100000000) start.leaves c.start-walker.ensures.early in
    let floor = subst (λ (n : ℕ). n < floor_count s.building) start.place.floor c.start-walker.ensures.floor in
    let all = all-times s car tour c.stops-stop-items.result.now c.loop-stop.stop-index c.loop-stop.times.items c.stops-stop-items.ensures
    c.loop-stop-test.false c.loop-stop.invariant.times in
    subst (λ (l : List Times). All (λ (t : Times). t.leaves < 10000000000) l) (sym all)
    (tour_early s car tour c.start-walker.ensures.accepted c.requires.car leaves floor c.requires.feasible)
