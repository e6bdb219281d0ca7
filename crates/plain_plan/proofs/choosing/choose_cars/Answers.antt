use Rattle.std.proofs.Common.{◌≡◌, ◌+◌, ◌<◌, ℕ, List, true, get_or, length, sym, subst, arith}
use Rattle.elevator_model.specs.Snapshot.{call_of, car_count, is_possible}
use Rattle.plain_plan.proofs.Found.{chosen_more}
use Rattle.plain_plan.proofs.choosing.choose_cars.Goals as goal

pub loop-call-preserved : goal.loop-call-preserved
loop-call-preserved c =
    let s = c.args.snapshot.now in
    let n = c.loop-call.call in
    let counted : length c.loop-call.cars.items ≡ n = omega (arith, c.loop-call.cars.ok.0) in
    let more = chosen_more s c.loop-call.cars.items n c.best_car-car.result counted c.loop-call.invariant.chosen
    (c.best_car-car.ensures.car, c.best_car-car.ensures.possible) in
    record {
      counted = omega (arith, c.in_ok-push.ensures.len);
      chosen = subst (λ (l : List ℕ). (j : ℕ) → j < n + 1 → (get_or l j 0 < car_count s) × (is_possible s (get_or l j 0) (call_of s j) ≡ true))
          (sym c.in_ok-push.ensures.items) more;
    }
