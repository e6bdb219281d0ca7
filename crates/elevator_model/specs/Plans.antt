-- Plans: one tour per car, each open call in exactly one of them.
use Rattle.std.specs.Prelude.{◌≡◌, ℕ, zero, suc, ◌+◌, ◌≤◌, ◌<◌, ◌||◌, List, [], ◌∷◌, length, Bool, if◌then◌else◌, Option, Some, None, slice_index_or}
use Rattle.std.specs.List.{list_any}
use Rattle.elevator_model.specs.declared.Stop.{Stop}
use Rattle.elevator_model.specs.declared.Broken.{Broken}
use Rattle.elevator_model.specs.declared.BadPlan.{BadPlan}
use Rattle.elevator_model.specs.declared.Rule.TheVariants.{Unserved}
use Rattle.call_sets.specs.Counting.{sum_below, sum_where, is_among}
use Rattle.elevator_model.specs.Snapshot.{Snapshot, call_count, car_count}
use Rattle.elevator_model.specs.Tours.{IsFeasible, first_broken_from, start_of, none_taken}
use Rattle.elevator_model.specs.Costs.{cost_of}

-- the call boards at some stop of the tour
abbrev pub is_boarded_in : List Stop → ℕ → Bool
is_boarded_in tour j = list_any (λ (stop : Stop). is_among j stop.boards) tour

-- the tour of a car
abbrev pub tour_of : List (List Stop) → ℕ → List Stop
tour_of plan c = slice_index_or plan c []

-- in how many of the plan's tours the call boards
abbrev pub times_served : List (List Stop) → ℕ → ℕ
times_served plan j = sum_where (length plan) (λ c. is_boarded_in (tour_of plan c) j) (λ _. 1)

pub record IsFeasiblePlan (s : Snapshot) (plan : List (List Stop)) : Type 0 where
  pub cars : length plan ≡ car_count s
  pub tours : (c : ℕ) → c < car_count s → IsFeasible s c (tour_of plan c)
  pub serves_once : (j : ℕ) → j < call_count s → times_served plan j ≡ 1

-- the cost of a feasible plan
abbrev pub plan_cost_of : Snapshot → List (List Stop) → ℕ
plan_cost_of s plan = sum_below (car_count s) (λ c. cost_of s c (tour_of plan c))

-- no feasible plan costs less
abbrev pub IsBound : Snapshot → ℕ → Type 0
IsBound s b = (plan : List (List Stop)) → IsFeasiblePlan s plan → b ≤ plan_cost_of s plan

-- a feasible plan, and no feasible plan costs less
pub record IsOptimal (s : Snapshot) (plan : List (List Stop)) : Type 0 where
  pub feasible : IsFeasiblePlan s plan
  pub least : IsBound s (plan_cost_of s plan)

abbrev pub first_of : {X : Type 0} → Option X → Option X → Option X
first_of None later = later
first_of (Some x) later = Some x

-- the lowest of the first n calls that no tour boards
abbrev pub first_unserved : List (List Stop) → ℕ → Option ℕ
first_unserved plan zero = None
first_unserved plan (suc n) = first_of (first_unserved plan n) (if list_any (λ (tour : List Stop). is_boarded_in tour n) plan then None else Some n)

abbrev pub broken_of_car : ℕ → Option Broken → Option BadPlan
broken_of_car c None = None
broken_of_car c (Some b) = Some (record { car = c; stop = b.stop; rule = b.rule })

-- The first bad place of the tours of the cars from c on; the calls of earlier cars are taken.
abbrev pub first_bad_tour : Snapshot → (taken : ℕ → Bool) → ℕ → List (List Stop) → Option BadPlan
first_bad_tour s taken c [] = None
first_bad_tour s taken c (tour ∷ tours) =
    first_of (broken_of_car c (first_broken_from s c taken (start_of s c) 1 tour)) (first_bad_tour s (λ j. taken j || is_boarded_in tour j) (c + 1) tours)

abbrev pub unserved_of : Snapshot → Option ℕ → Option BadPlan
unserved_of s None = None
unserved_of s (Some j) = Some (record { car = car_count s; stop = j; rule = Unserved })

-- The first bad place of a plan: through the cars in order, and a call that no tour boards last.
abbrev pub first_bad : Snapshot → List (List Stop) → Option BadPlan
first_bad s plan = first_of (first_bad_tour s none_taken 0 plan) (unserved_of s (first_unserved plan (call_count s)))
