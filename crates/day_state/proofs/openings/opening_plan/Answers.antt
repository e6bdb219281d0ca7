use Rattle.std.proofs.Common.{◌≡◌, ◌∙◌, ◌++◌, ◌∷◌, [], ◌+◌, List, ℕ, map, sym, ap, subst, length, arith}
use Rattle.std.specs.List.{range_with_len}
use Rattle.std.proofs.lemmas.List.FromFn.{map-range_with_len_more}
use Rattle.elevator_model.specs.declared.Stop.{Stop}
use Rattle.elevator_model.specs.declared.CarSpec.{CarSpec}
use Rattle.elevator_model.specs.Building.{Building}
use Rattle.elevator_model.specs.Snapshot.{car_count, state_of}
use Rattle.elevator_model.specs.Plans.{IsFeasiblePlan}
use Rattle.search_model.specs.Days.{opening_tour}
use Rattle.day_state.proofs.OpeningLaws.{opening-feasible}
use Rattle.day_state.proofs.openings.opening_plan.Goals as goal

pub loop-car-preserved : goal.loop-car-preserved
loop-car-preserved c =
    let s = c.args.snapshot.now in
    let tour : ℕ → List Stop = λ d. opening_tour s d (state_of s d) in
    let car = c.loop-car.car in
    let e : 0 + car ≡ car = omega arith in
    c.in_ok-push.ensures.ok ∙ ap (λ (xs : List (List Stop)). xs ++ c.in_ok-opening_tour.field-0 ∷ []) c.loop-car.invariant
    ∙ ap (λ (x : List Stop). map tour (range_with_len 0 car) ++ x ∷ []) c.in_ok-opening_tour.ensures ∙ sym (map-range_with_len_more tour 0 car car e)

pub returns-clause-feasible : goal.returns-clause-feasible
returns-clause-feasible c =
    let s = c.args.snapshot.now in
    let tour : ℕ → List Stop = λ d. opening_tour s d (state_of s d) in
    let cars = ap (λ (xs : List CarSpec). length xs) c.cars.ensures.value ∙ ap (λ (b : Building). length b.cars) c.building.ensures.value in
    let all : c.loop-car.car ≡ car_count s = omega (arith, cars, c.loop-car-test.false, c.loop-car.auto.car-end) in
    subst (IsFeasiblePlan s) (sym (c.loop-car.invariant ∙ ap (λ (n : ℕ). map tour (range_with_len 0 n)) all))
    (opening-feasible s c.building.ensures.accepted c.requires)
