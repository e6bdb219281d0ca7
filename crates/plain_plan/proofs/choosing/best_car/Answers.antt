use Rattle.std.proofs.Common.{◌≡◌, ◌∙◌, ◌+◌, ℕ, length, sym, ap, subst, arith}
use Rattle.elevator_model.specs.Building.{Building}
use Rattle.elevator_model.specs.Snapshot.{call_of, car_count, is_possible}
use Rattle.plain_plan.specs.Openings.{IsFound}
use Rattle.plain_plan.proofs.Found.{found_before, found_either, found_none}
use Rattle.plain_plan.proofs.choosing.best_car.Goals as goal
use Rattle.plain_plan.proofs.choosing.best_car.Goals.{then-is_possible, else-is_possible}

pub loop-car-preserved : goal.loop-car-preserved
loop-car-preserved c =
    let s = c.args.snapshot.now in
    let test = (λ (car : ℕ). is_possible s car (call_of s c.args.call)) in
    let n = c.loop-car.car in
    elim c.if-is_possible.branch [
      | then-is_possible w ↦
          subst (IsFound test (n + 1)) (sym w.best-is)
          (found_either test n w.less_loaded.result c.loop-car.best c.loop-car.invariant
          (sym c.is_possible.ensures ∙ w.if-is_possible.true) w.less_loaded.ensures)
      | else-is_possible w ↦
          subst (IsFound test (n + 1)) (sym w.best-is)
          (found_before test n c.loop-car.best c.loop-car.invariant (sym c.is_possible.ensures ∙ w.if-is_possible.false))
    ]

pub unreachable-requires : goal.unreachable-requires
unreachable-requires c =
    let s = c.args.snapshot.now in
    let counted : c.loop-car.car ≡ length c.cars.result.now = omega arith in
    found_none (λ car. is_possible s car (call_of s c.args.call)) c.loop-car.car (car_count s) c.loop-car.best c.loop-car.invariant c.in-None.is
    (counted ∙ ap length c.cars.ensures.value ∙ ap (λ (b : Building). length b.cars) c.building.ensures.value)
    (c.building.ensures.accepted.calls c.args.call c.requires).possible
