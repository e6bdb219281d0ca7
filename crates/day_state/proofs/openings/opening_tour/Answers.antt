use Rattle.std.proofs.Common.{◌≡◌, ◌∙◌, sym, subst, arith}
use Rattle.elevator_model.specs.declared.CarState.TheVariants.{Moving}
use Rattle.elevator_model.specs.Snapshot.{IsTimely, state_of}
use Rattle.day_state.proofs.OpeningLaws.{rises-within, falls-within}
use Rattle.day_state.proofs.openings.opening_tour.Goals as goal

pub overflow_add-from : goal.overflow_add-from
overflow_add-from c =
    let s = c.args.snapshot.now in
    let a = c.car-state.ensures.accepted in
    let is : state_of s c.args.car ≡ Moving c.in-Moving.from c.in-Moving.up c.in-Moving.left = sym c.car-state.ensures.value ∙ c.in-Moving.is in
    let some = (subst (IsTimely s c.args.car) is (a.placed c.args.car c.requires).timely).1 in
    let within = rises-within s c.args.car c.in-Moving.from c.in-Moving.up c.in-Moving.left some c.if-up.true in
    let high = a.building.floors_high in
    omega (arith, within, high, c.floors_to_open-floors.ensures)

pub overflow_sub-from : goal.overflow_sub-from
overflow_sub-from c =
    let s = c.args.snapshot.now in
    let a = c.car-state.ensures.accepted in
    let is : state_of s c.args.car ≡ Moving c.in-Moving.from c.in-Moving.up c.in-Moving.left = sym c.car-state.ensures.value ∙ c.in-Moving.is in
    let some = (subst (IsTimely s c.args.car) is (a.placed c.args.car c.requires).timely).1 in
    let within = falls-within s c.args.car c.in-Moving.from c.in-Moving.up c.in-Moving.left some c.if-up.false in
    omega (arith, within, c.floors_to_open-floors.ensures)
