use Rattle.std.proofs.Common.{◌+◌, ◌∙◌, sym, ap, refl, arith, drop, Option}
use Rattle.elevator_model.specs.declared.Rule.{Rule}
use Rattle.call_sets.specs.Counting.{has}
use Rattle.elevator_model.specs.Tours.{start_of, make_stop, broken_or, first_broken_from, boards_at}
use Rattle.tour_rules.proofs.Stops.{listed_boards, fine_floor, stop_falls, stops_few, judge_step}
use Rattle.tour_rules.proofs.Taken.{stop_alone}
use Rattle.tour_rules.proofs.Riders.{boards_set}
use Rattle.tour_rules.proofs.judging.judge_after.Goals as goal

pub loop-stop-init : goal.loop-stop-init
loop-stop-init c =
    let s = c.args.snapshot.now in
    let few = stops_few s c.args.car c.calls-accepted.ensures.accepted c.requires in
    (start_of s c.args.car, c.at_start-place.ensures, refl, omega (arith, few))

pub returns-in-Some : goal.returns-in-Some
returns-in-Some c =
    let s = c.args.snapshot.now in
    let car = c.args.car in
    let taken = has c.args.taken in
    let iv = c.loop-stop.invariant in
    let p = iv.0 in
    let st = c.stop-item.result in
    let found = sym (c.broken_at.ensures p iv.1) ∙ c.in-Some.is in
    ap (first_broken_from s car taken (start_of s car) 1) (sym c.stops-stop-items.ensures) ∙ sym iv.2
    ∙ judge_step s car taken p c.loop-stop.number c.stops-stop-items.result.now c.loop-stop.stop-index st c.loop-stop-test.true c.stop-item.is
    ∙ ap (λ (o : Option Rule).
    broken_or o c.loop-stop.number
    (first_broken_from s car taken (make_stop s car p st) (c.loop-stop.number + 1) (drop (c.loop-stop.stop-index + 1) c.stops-stop-items.result.now))) found

pub after_stop-place-requires : goal.after_stop-place-requires
after_stop-place-requires c =
    let s = c.args.snapshot.now in
    let iv = c.loop-stop.invariant in
    let clear = sym (c.broken_at.ensures iv.0 iv.1) ∙ c.in-None.is in
    let floor = fine_floor s c.args.car (has c.args.taken) iv.0 c.stop-item.result clear in
    let most = c.calls-accepted.ensures.accepted.building.floors_high in
    omega (arith, floor, most)

pub broken_at-requires-clause-boards : goal.broken_at-requires-clause-boards
broken_at-requires-clause-boards c =
    listed_boards c.args.snapshot.now c.of_list-boards.result c.stop-item.result c.as_slice.result.now c.calls-accepted.ensures.accepted c.as_slice.ensures
    c.of_list-boards.ensures

pub loop-stop-preserved : goal.loop-stop-preserved
loop-stop-preserved c =
    let s = c.args.snapshot.now in
    let car = c.args.car in
    let taken = has c.args.taken in
    let iv = c.loop-stop.invariant in
    let p = iv.0 in
    let st = c.stop-item.result in
    let xs = c.stops-stop-items.result.now in
    let clear = sym (c.broken_at.ensures p iv.1) ∙ c.in-None.is in
    let step = judge_step s car taken p c.loop-stop.number xs c.loop-stop.stop-index st c.loop-stop-test.true c.stop-item.is
    ∙ ap (λ (o : Option Rule).
    broken_or o c.loop-stop.number (first_broken_from s car taken (make_stop s car p st) (c.loop-stop.number + 1) (drop (c.loop-stop.stop-index + 1) xs)))
    clear in
    let falls = stop_falls s car p st (stop_alone s car taken p st clear) in
    let room = iv.3 in (
      make_stop s car p st,
      c.after_stop-place.ensures.stops car p (boards_at s st) iv.1
          (boards_set s c.of_list-boards.result st
          (listed_boards c.args.snapshot.now c.of_list-boards.result c.stop-item.result c.as_slice.result.now c.calls-accepted.ensures.accepted
          c.as_slice.ensures c.of_list-boards.ensures)),
      sym step ∙ iv.2,
      omega (arith, falls, room),
    )
