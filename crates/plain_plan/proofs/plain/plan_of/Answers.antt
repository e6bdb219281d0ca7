use Rattle.std.proofs.Common.{◌∙◌, ◌≡◌, ◌+◌, ◌<◌, ℕ, List, length, slice_index, sym, ap, subst, arith}
use Rattle.elevator_model.specs.declared.Stop.{Stop}
use Rattle.elevator_model.specs.Building.{Building}
use Rattle.elevator_model.specs.Plans.{tour_of, IsFeasiblePlan}
use Rattle.elevator_model.specs.Snapshot.{car_count}
use Rattle.plain_plan.specs.Openings.{IsPlainTour}
use Rattle.plain_plan.specs.PlainPlans.{IsPlainPlan, calls_for}
use Rattle.plain_plan.proofs.Found.{tours_more}
use Rattle.plain_plan.proofs.Orders.{calls_below}
use Rattle.plain_plan.proofs.PlainPlan.{plain_feasible}
use Rattle.plain_plan.proofs.plain.plan_of.Goals as goal

pub plain_tour-requires-clause-calls : goal.plain_tour-requires-clause-calls
plain_tour-requires-clause-calls c =
    let s = c.args.snapshot.now in
    let order = c.as_slice.ensures.value ∙ c.in_ok-order.ensures.order in
    let calls = c.as_slice-in-loop-car-2.ensures.value ∙ c.in_ok-calls.ensures in
    calls_below s _ c.loop-car.car _ _ calls order

pub loop-car-preserved : goal.loop-car-preserved
loop-car-preserved c =
    let s = c.args.snapshot.now in
    let n = c.loop-car.car in
    let chosen = slice_index c.in_ok-cars.cars.items in
    let order = c.in_ok-order.order.items in
    let tour = c.in_ok-plain_tour.field-0 in
    let calls : c.as_slice-in-loop-car-2.result.now ≡ calls_for chosen n order = c.as_slice-in-loop-car-2.ensures.value ∙ c.in_ok-calls.ensures
    ∙ ap (λ (l : List ℕ). calls_for (slice_index l) n c.as_slice.result.now) c.as_slice-in-loop-car.ensures.value
    ∙ ap (calls_for chosen n) c.as_slice.ensures.value in
    let here = subst (λ (l : List ℕ). IsPlainTour s n l tour) calls c.in_ok-plain_tour.ensures in
    let counted : length c.loop-car.tours.items ≡ n = omega (arith, c.loop-car.tours.ok.0) in
    let more = tours_more s chosen order c.loop-car.tours.items n tour counted c.loop-car.invariant.plain here in
    record {
      counted = omega (arith, c.in_ok-push.ensures.len);
      plain = subst (λ (l : List (List Stop)). (k : ℕ) → k < n + 1 → IsPlainTour s k (calls_for chosen k order) (tour_of l k))
          (sym c.in_ok-push.ensures.items) more;
    }

pub returns : goal.returns
returns c =
    let s = c.args.snapshot.now in
    let chosen = slice_index c.in_ok-cars.cars.items in
    let tours = c.loop-car.tours.items in
    let order = c.in_ok-order.ensures.order in
    let cars : car_count s ≡ length c.cars.result.now = sym (ap length c.cars.ensures.value ∙ ap (λ (b : Building). length b.cars) c.building.ensures.value) in
    let counted : length tours ≡ car_count s = omega (arith, cars, c.loop-car.tours.ok.0) in
    let plain : IsPlainPlan s chosen tours =
    record {
      cars = counted;
      tours =
          λ k below. subst (λ (l : List ℕ). IsPlainTour s k (calls_for chosen k l) (tour_of tours k)) order
          (c.loop-car.invariant.plain k (omega (arith, cars)));
    } in
    subst (IsFeasiblePlan s) (sym c.from_vec.ensures) (plain_feasible s chosen tours c.building.ensures.accepted c.in_ok-cars.ensures.chosen plain)
