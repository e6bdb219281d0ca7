use Rattle.std.proofs.Common.{◌≡◌, ◌++◌, ◌∙◌, ℕ, length, ap, subst, arith}
use Rattle.elevator_model.specs.Building.{Building}
use Rattle.elevator_model.specs.Snapshot.{car_count}
use Rattle.case_commands.specs.WhatIfOutcome.{car_lines}
use Rattle.case_commands.proofs.ExtraTextLemmas.{more_lines, no_lines}
use Rattle.case_commands.proofs.extra_writing.put_cars.Goals as goal

pub loop-car-init : goal.loop-car-init
loop-car-init c = no_lines c.args.snapshot.now c.args.extras.now c.args.out.now.items

pub loop-car-preserved : goal.loop-car-preserved
loop-car-preserved c =
    more_lines c.args.snapshot.now c.args.extras.now c.loop-car.car c.args.out.now.items c.loop-car.out.items c.put_car.new.out.items c.loop-car.invariant
    (rw c.extra_at.ensures at c.in_ok-put_car.ensures)

pub returns : goal.returns
returns c =
    let counted = ap length c.cars.ensures.value ∙ ap (λ (b : Building). length b.cars) c.building.ensures.value in
    let all : c.loop-car.car ≡ car_count c.args.snapshot.now = omega (arith, counted, c.loop-car-test.false, c.loop-car.auto.car-end) in
    subst (λ (n : ℕ). c.loop-car.out.items ≡ c.args.out.now.items ++ car_lines c.args.snapshot.now c.args.extras.now n) all c.loop-car.invariant
