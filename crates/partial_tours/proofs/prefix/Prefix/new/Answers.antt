use Rattle.std.proofs.Common.{◌<◌, subst, arith}
use Rattle.elevator_model.specs.Snapshot.{IsAccepted, car_count}
use Rattle.car_layout.specs.Layouts.{LaidOut}
use Rattle.partial_tours.proofs.Prefixes.{IsPrefix-new}
use Rattle.partial_tours.proofs.Tallied.{IsTallied-new}
use Rattle.partial_tours.proofs.prefix.Prefix.new.Goals as goal

pub invariant_of-result : goal.invariant_of-result
invariant_of-result c =
    let layout = c.in_ok-layout.layout in
    let s = layout.snapshot in
    let car = layout.car in
    let step = c.start.result in
    let prefix = IsPrefix-new s car _ _ _ step (subst (λ (l : LaidOut). IsAccepted l.snapshot) c.layout.view_is c.layout.invariant.0)
    (subst (λ (l : LaidOut). l.car < car_count l.snapshot) c.layout.view_is c.layout.invariant.5.car) c.start.ensures.point c.in_ok-moves.ensures.items
    c.in_ok-steps.ensures.items c.push_reserved.ensures.items in
    let tallied = IsTallied-new s car _ _ _ step _ c.start.ensures.tally c.in_ok-moves.ensures.items c.in_ok-steps.ensures.items c.push_reserved.ensures.items
    c.in_ok-moments.ensures.items in
    (prefix, omega (arith, c.in_ok-moves.ensures.capacity), omega (arith, c.in_ok-steps.ensures.capacity, c.push_reserved.ensures.capacity), tallied)
