use Rattle.std.proofs.Common.{◌≡◌, ◌<◌, ◌+◌, ◌∙◌, ℕ, List, get_or, length, sym, ap, subst, arith}
use Rattle.elevator_model.specs.Building.{Building}
use Rattle.elevator_model.specs.Snapshot.{car_count}
use Rattle.plain_solver.specs.declared.choices.Choices.{Choices}
use Rattle.plain_solver.specs.Rests.{AreChoices}
use Rattle.plain_solver.proofs.RestLemmas.{choices_from, choices_pushed}
use Rattle.plain_solver.proofs.plans.all_choices.Goals as goal

pub loop-car-preserved : goal.loop-car-preserved
loop-car-preserved c =
    let more = choices_pushed c.args.snapshot.now c.loop-car.choices.items c.in_ok-new.field-0 c.loop-car.car c.loop-car.invariant.counted
    c.loop-car.invariant.each c.in_ok-new.ensures in
    let is = c.in_ok-push.ensures.items in
    record {
      counted = ap length is ∙ more.0;
      each = subst (λ (l : List Choices). (k : ℕ) (d : Choices) → k < c.loop-car.car + 1
          → AreChoices c.args.snapshot.now k (get_or l k d).tours.items (get_or l k d).sums.items) (sym is) more.1;
    }

pub returns-clause-choices : goal.returns-clause-choices
returns-clause-choices c =
    let s = c.args.snapshot.now in
    let same = ap length c.cars-car-end.ensures.value in
    let cars = ap (λ (b : Building). length b.cars) c.building.ensures.value in
    let all : c.loop-car.car ≡ car_count s = omega (arith, same, cars, c.loop-car-test.false, c.loop-car.auto.car-end) in
    let counted = c.loop-car.invariant.counted in
    choices_from s 0 c.loop-car.choices.items (omega (arith, all, counted))
    (λ i d lt. let at : i ≡ 0 + i = omega arith in
    subst (λ (k : ℕ). AreChoices s k (get_or c.loop-car.choices.items i d).tours.items (get_or c.loop-car.choices.items i d).sums.items) at
    (c.loop-car.invariant.each i d (omega (arith, lt, counted))))
