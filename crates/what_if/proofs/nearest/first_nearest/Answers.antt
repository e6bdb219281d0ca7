use Rattle.std.proofs.Common.{◌≡◌, ◌∙◌, ◌+◌, ℕ, length, ap, subst, sym, arith}
use Rattle.elevator_model.specs.Building.{Building}
use Rattle.elevator_model.specs.Snapshot.{car_count}
use Rattle.what_if.specs.WhatIf.{takes_asked}
use Rattle.what_if.specs.Ends.{IsFirstLeast, distance_key}
use Rattle.what_if.proofs.FirstLeast.{first-kept, first-taken}
use Rattle.what_if.proofs.nearest.first_nearest.Goals as goal
use Rattle.what_if.proofs.nearest.first_nearest.Goals.{then-is_next_nearest, else-is_next_nearest}

pub loop-car-preserved : goal.loop-car-preserved
loop-car-preserved c =
    let s = c.args.snapshot.now in
    let car = c.loop-car.car in
    let best = c.loop-car.nearest in
    let so_far = c.loop-car.invariant in
    let Is = IsFirstLeast (takes_asked s) (distance_key s) (car + 1) in
    elim c.if-is_next_nearest.branch [
      | then-is_next_nearest w ↦
          subst Is (sym w.nearest-is) (first-taken (takes_asked s) (distance_key s) car best (sym c.is_next_nearest.ensures ∙ w.if-is_next_nearest.true) so_far)
      | else-is_next_nearest w ↦
          subst Is (sym w.nearest-is) (first-kept (takes_asked s) (distance_key s) car best (sym c.is_next_nearest.ensures ∙ w.if-is_next_nearest.false) so_far)
    ]

pub returns-clause-first : goal.returns-clause-first
returns-clause-first c =
    let s = c.args.snapshot.now in
    let counted = ap length c.cars.ensures.value ∙ ap (λ (b : Building). length b.cars) c.building.ensures.value in
    let all : c.loop-car.car ≡ car_count s = omega (arith, counted, c.loop-car-test.false, c.loop-car.auto.car-end) in
    subst (λ (n : ℕ). IsFirstLeast (takes_asked s) (distance_key s) n c.loop-car.nearest) all c.loop-car.invariant
