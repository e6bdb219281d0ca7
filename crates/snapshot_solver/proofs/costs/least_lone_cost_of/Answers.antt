use Rattle.std.proofs.Common.{◌≡◌, ◌∙◌, ◌<◌, ◌≤◌, ℕ, Bool, length, ap, subst, sym, arith, Option, Some}
use Rattle.std.specs.Prelude.{unwrap_or}
use Rattle.elevator_model.specs.Building.{Building}
use Rattle.elevator_model.specs.Snapshot.{call_of, car_count, is_possible, moment_of, state_of}
use Rattle.search_model.specs.Bounds.{cost_if_alone}
use Rattle.search_model.specs.Sums.{least_where, lesser_of}
use Rattle.snapshot_solver.proofs.LeastLemmas.{least-skipped, least-taken, lesser-within}
use Rattle.snapshot_solver.proofs.costs.least_lone_cost_of.Goals as goal
use Rattle.snapshot_solver.proofs.costs.least_lone_cost_of.Goals.{then-contains, else-contains}

pub loop-car-preserved : goal.loop-car-preserved
loop-car-preserved c =
    let s = c.args.snapshot.now in
    let n = c.loop-car.car in
    let possible : ℕ → Bool = λ car. is_possible s car (call_of s c.args.call) in
    let cost : ℕ → ℕ = λ car. cost_if_alone s c.args.call (moment_of (state_of s car)) in
    let counted = ap length c.cars.ensures.value ∙ ap (λ (b : Building). length b.cars) c.building.ensures.value in
    let below : n < car_count s = omega (arith, counted, c.loop-car-test.true) in
    let here = sym (c.possible-possible.ensures.cars.possible n below) ∙ sym c.contains.ensures in
    let so_far = c.loop-car.invariant in
    elim c.if-contains.branch [
      | then-contains w ↦
          (let least = w.lesser.ensures ∙ ap (lesser_of c.loop-car.least) w.lone_cost_of.ensures.cost in
          record {
            least_is = w.least-is ∙ ap (λ (m : ℕ). Some m) least
                ∙ least-taken n possible cost c.loop-car.least so_far.least_is (here ∙ w.if-contains.true);
            bounded =
                subst (λ (o : Option ℕ). unwrap_or o 0 ≤ 2400000000000000) (sym w.least-is)
                (subst (λ (m : ℕ). m ≤ 2400000000000000) (sym w.lesser.ensures)
                (lesser-within c.loop-car.least w.lone_cost_of.result 2400000000000000 so_far.bounded w.lone_cost_of.ensures.bounded));
          })
      | else-contains w ↦
          record {
            least_is = w.least-is
                ∙ least-skipped n possible cost c.loop-car.least so_far.least_is (here ∙ w.if-contains.false);
            bounded =
                subst (λ (o : Option ℕ). unwrap_or o 0 ≤ 2400000000000000) (sym w.least-is) so_far.bounded;
          }
    ]

pub returns-clause-cost : goal.returns-clause-cost
returns-clause-cost c =
    let s = c.args.snapshot.now in
    let counted = ap length c.cars.ensures.value ∙ ap (λ (b : Building). length b.cars) c.building.ensures.value in
    let all : c.loop-car.car ≡ car_count s = omega (arith, counted, c.loop-car-test.false, c.loop-car.auto.car-end) in
    c.unwrap_or.ensures ∙ ap (λ (o : Option ℕ). unwrap_or o 0) c.loop-car.invariant.least_is
    ∙ ap (λ (n : ℕ). unwrap_or
    (least_where n (λ car. is_possible s car (call_of s c.args.call)) (λ car. cost_if_alone s c.args.call (moment_of (state_of s car)))) 0) all
