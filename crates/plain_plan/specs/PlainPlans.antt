-- Plain plans: each call goes to one car, and each car has a plain tour.
use Rattle.std.specs.Prelude.{◌≡◌, ℕ, zero, suc, ◌<◌, ◌==◌, List, [], ◌∷◌, length, true, if◌then◌else◌}
use Rattle.std.specs.List.{filter}
use Rattle.elevator_model.specs.declared.Stop.{Stop}
use Rattle.elevator_model.specs.Snapshot.{Snapshot, call_count, call_of, car_count, is_possible}
use Rattle.elevator_model.specs.Tours.{is_later}
use Rattle.elevator_model.specs.Plans.{tour_of}
use Rattle.plain_plan.specs.Openings.{IsPlainTour}

-- the call is put before the first one that is later
abbrev pub with_call : Snapshot → ℕ → List ℕ → List ℕ
with_call s j [] = j ∷ []
with_call s j (i ∷ is) = if is_later (call_of s i) (call_of s j) then j ∷ i ∷ is else i ∷ with_call s j is

-- the first n calls in order of `released`, then id
abbrev pub order_of : Snapshot → ℕ → List ℕ
order_of s zero = []
order_of s (suc n) = with_call s n (order_of s n)

-- The car to which each call goes is one of its possible cars.
abbrev pub AreChosen : Snapshot → (car_of_call : ℕ → ℕ) → Type 0
AreChosen s car_of_call =
    (j : ℕ) → j < call_count s → (car_of_call j < car_count s) × (is_possible s (car_of_call j) (call_of s j) ≡ true)

-- the calls of a list that go to the car
abbrev pub calls_for : (car_of_call : ℕ → ℕ) → ℕ → List ℕ → List ℕ
calls_for car_of_call c js = filter (λ j. car_of_call j == c) js

pub record IsPlainPlan (s : Snapshot) (car_of_call : ℕ → ℕ) (plan : List (List Stop)) : Type 0 where
  pub cars : length plan ≡ car_count s
  pub tours : (c : ℕ) → c < car_count s → IsPlainTour s c (calls_for car_of_call c (order_of s (call_count s))) (tour_of plan c)
