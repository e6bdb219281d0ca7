-- Tours of the cars from one on that complete what the cars before take.
use Rattle.std.specs.Prelude.{◌≡◌, ℕ, ◌+◌, ◌<◌, ◌||◌, List, [], ◌∷◌, Bool, true, false}
use Rattle.elevator_model.specs.declared.Stop.{Stop}
use Rattle.elevator_model.specs.Snapshot.{Snapshot, car_count, call_count}
use Rattle.elevator_model.specs.Tours.{IsFeasible}
use Rattle.elevator_model.specs.Costs.{cost_of}
use Rattle.elevator_model.specs.Plans.{is_boarded_in}

-- the calls taken with those of one tour more
abbrev pub with_calls_of : (ℕ → Bool) → List Stop → ℕ → Bool
with_calls_of taken tour j = taken j || is_boarded_in tour j

-- The tours, one for each car from c on, are feasible, and each call that is not taken boards in one of
-- them.
abbrev pub Completes : Snapshot → (taken : ℕ → Bool) → ℕ → List (List Stop) → Type 0
Completes s taken c [] = (c ≡ car_count s) × ((j : ℕ) → j < call_count s → taken j ≡ true)
Completes s taken c (tour ∷ rest) = IsFeasible s c tour × ((j : ℕ) → is_boarded_in tour j ≡ true → taken j ≡ false)
    × Completes s (with_calls_of taken tour) (c + 1) rest

abbrev pub rest_cost : Snapshot → ℕ → List (List Stop) → ℕ
rest_cost s c [] = 0
rest_cost s c (tour ∷ rest) = cost_of s c tour + rest_cost s (c + 1) rest
