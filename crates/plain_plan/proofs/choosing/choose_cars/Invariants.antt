-- Each call so far has one of its possible cars.
use Rattle.std.proofs.Common.{◌≡◌, ◌<◌, ℕ, true, vec_len, get_or}
use Rattle.elevator_model.specs.Snapshot.{call_of, car_count, is_possible}
use Rattle.plain_plan.proofs.choosing.choose_cars.Given as goal

abbrev pub invariant-loop-call : goal.invariant-loop-call
invariant-loop-call l = record {
  counted : vec_len l.cars ≡ l.call;
  chosen : (j : ℕ) → j < l.call → (get_or l.cars.items j 0 < car_count l.snapshot)
      × (is_possible l.snapshot (get_or l.cars.items j 0) (call_of l.snapshot j) ≡ true);
}
