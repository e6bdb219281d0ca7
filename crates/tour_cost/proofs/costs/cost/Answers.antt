use Rattle.std.proofs.Common.{◌∙◌, ◌≤◌, ap, arith}
use Rattle.elevator_model.specs.Costs.{settled_cost}
use Rattle.tour_cost.proofs.ShortForm.{short_form}
use Rattle.tour_cost.proofs.Walked.{IsWalked-start, IsSettled-start, here-stop, here-calls, here-boards, here-early, makes_stop, next-walked, next-settled}
use Rattle.tour_cost.proofs.Walked.{next-small, settled-small, settled-served, progress-all}
use Rattle.tour_cost.proofs.costs.cost.Goals as goal

pub loop-stop-init : goal.loop-stop-init
loop-stop-init c = record {
  walked = IsWalked-start c.args.snapshot.now c.args.car c.args.tour.now c.start-walker.result c.requires.feasible c.start-walker.ensures.start
      c.start-walker.ensures.floor c.start-walker.ensures.early;
  settled = IsSettled-start c.args.snapshot.now c.args.car c.no_moments-boarded.result c.start-walker.ensures.accepted c.no_moments-boarded.ensures;
}

pub make_stop-next-requires-clause-early : goal.make_stop-next-requires-clause-early
make_stop-next-requires-clause-early c =
    let early = here-early c.args.snapshot.now c.args.car c.args.tour.now c.stops-stop-items.result.now c.loop-stop.stop-index c.loop-stop.walker
    c.start-walker.ensures.accepted c.requires.car c.requires.feasible c.loop-stop.invariant.walked c.stops-stop-items.ensures c.loop-stop-test.true in
    omega (arith, early)

pub make_stop-next-requires-clause-to : goal.make_stop-next-requires-clause-to
make_stop-next-requires-clause-to c =
    (here-stop c.args.snapshot.now c.args.car c.args.tour.now c.stops-stop-items.result.now c.loop-stop.stop-index c.loop-stop.walker c.stop-item.result
    c.loop-stop.invariant.walked c.stops-stop-items.ensures c.loop-stop-test.true c.stop-item.is).floor

pub cost_of_leaving-cost-requires-clause-early : goal.cost_of_leaving-cost-requires-clause-early
cost_of_leaving-cost-requires-clause-early c =
    let early = here-early c.args.snapshot.now c.args.car c.args.tour.now c.stops-stop-items.result.now c.loop-stop.stop-index c.loop-stop.walker
    c.start-walker.ensures.accepted c.requires.car c.requires.feasible c.loop-stop.invariant.walked c.stops-stop-items.ensures c.loop-stop-test.true in
    omega (arith, early, c.make_stop-next.ensures.opened, c.make_stop-next.ensures.late)

pub overflow_add-cost : goal.overflow_add-cost
overflow_add-cost c =
    let early = here-early c.args.snapshot.now c.args.car c.args.tour.now c.stops-stop-items.result.now c.loop-stop.stop-index c.loop-stop.walker
    c.start-walker.ensures.accepted c.requires.car c.requires.feasible c.loop-stop.invariant.walked c.stops-stop-items.ensures c.loop-stop-test.true in
    let opened : c.make_stop-next.result.opened ≤ 100000000000 = omega (arith, early, c.make_stop-next.ensures.opened, c.make_stop-next.ensures.late) in
    let boards_are = here-boards c.stop-item.result c.as_slice.result.now c.calls_at-boards.result c.as_slice.ensures c.calls_at-boards.ensures in
    let stops = makes_stop c.args.snapshot.now c.args.car c.loop-stop.walker c.make_stop-next.result c.stop-item.result c.calls_at-boards.result
    c.make_stop-next.ensures.stops boards_are in
    let small = next-small c.args.snapshot.now c.args.car c.args.tour.now c.stops-stop-items.result.now c.loop-stop.stop-index c.loop-stop.walker
    c.make_stop-next.result c.stop-item.result c.loop-stop.boarded c.loop-stop.cost c.cost_of_leaving-cost.result c.start-walker.ensures.accepted
    c.requires.car c.loop-stop.invariant.walked c.stops-stop-items.ensures c.loop-stop-test.true c.stop-item.is stops opened c.loop-stop.invariant.settled
    c.cost_of_leaving-cost.ensures.cost in
    omega (arith, small)

pub calls_at-boards-requires : goal.calls_at-boards-requires
calls_at-boards-requires c =
    here-calls c.args.snapshot.now c.stop-item.result c.as_slice.result.now c.start-walker.ensures.accepted
    (here-stop c.args.snapshot.now c.args.car c.args.tour.now c.stops-stop-items.result.now c.loop-stop.stop-index c.loop-stop.walker c.stop-item.result
    c.loop-stop.invariant.walked c.stops-stop-items.ensures c.loop-stop-test.true c.stop-item.is) c.as_slice.ensures

pub loop-stop-preserved : goal.loop-stop-preserved
loop-stop-preserved c =
    let early = here-early c.args.snapshot.now c.args.car c.args.tour.now c.stops-stop-items.result.now c.loop-stop.stop-index c.loop-stop.walker
    c.start-walker.ensures.accepted c.requires.car c.requires.feasible c.loop-stop.invariant.walked c.stops-stop-items.ensures c.loop-stop-test.true in
    let opened : c.make_stop-next.result.opened ≤ 100000000000 = omega (arith, early, c.make_stop-next.ensures.opened, c.make_stop-next.ensures.late) in
    let boards_are = here-boards c.stop-item.result c.as_slice.result.now c.calls_at-boards.result c.as_slice.ensures c.calls_at-boards.ensures in
    let stops = makes_stop c.args.snapshot.now c.args.car c.loop-stop.walker c.make_stop-next.result c.stop-item.result c.calls_at-boards.result
    c.make_stop-next.ensures.stops boards_are in
    record {
      walked = next-walked c.args.snapshot.now c.args.car c.args.tour.now c.stops-stop-items.result.now c.loop-stop.stop-index c.loop-stop.walker
          c.make_stop-next.result c.stop-item.result c.loop-stop.invariant.walked c.stops-stop-items.ensures c.loop-stop-test.true c.stop-item.is stops
          c.make_stop-next.ensures.floor c.make_stop-next.ensures.late;
      settled = next-settled c.args.snapshot.now c.args.car c.args.tour.now c.stops-stop-items.result.now c.loop-stop.stop-index c.loop-stop.walker
          c.make_stop-next.result c.stop-item.result c.loop-stop.boarded c.note_boarding.new.boarded c.loop-stop.cost c.cost_of_leaving-cost.result
          c.calls_at-boards.result c.start-walker.ensures.accepted c.loop-stop.invariant.walked c.stops-stop-items.ensures c.loop-stop-test.true c.stop-item.is
          stops opened c.loop-stop.invariant.settled boards_are (record { each = c.note_boarding.ensures }) c.cost_of_leaving-cost.ensures.cost;
    }

pub returns-clause-bounded : goal.returns-clause-bounded
returns-clause-bounded c =
    let small = settled-small c.args.snapshot.now c.args.car _ _ c.loop-stop.cost c.start-walker.ensures.accepted c.requires.car
    c.loop-stop.invariant.settled in
    omega (arith, small)

pub returns-clause-per_call : goal.returns-clause-per_call
returns-clause-per_call c =
    settled-served c.args.snapshot.now c.args.car c.args.tour.now c.stops-stop-items.result.now c.loop-stop.stop-index c.loop-stop.boarded c.loop-stop.cost
    c.start-walker.ensures.accepted c.requires.car c.stops-stop-items.ensures c.loop-stop-test.false c.loop-stop.invariant.settled

pub returns-clause-short : goal.returns-clause-short
returns-clause-short c = λ first.
    let s = c.args.snapshot.now in
    let tour = c.args.tour.now in
    let whole = progress-all s c.args.car tour c.stops-stop-items.result.now c.loop-stop.stop-index c.stops-stop-items.ensures c.loop-stop-test.false in
    c.loop-stop.invariant.settled.settled ∙ ap (settled_cost s c.args.car) whole ∙ short_form s c.args.car tour c.start-walker.ensures.accepted.building first
