-- Pools of tours, and the plans that are made of them.
use Rattle.std.specs.Prelude.{◌≡◌, ℕ, ◌+◌, ◌*◌, ◌<◌, ◌≤◌, List, [], ◌∷◌, length, false, slice_index_or, slice_set, Option, Some, None}
use Rattle.std.specs.List.{All, AllPairs, Contains}
use Rattle.elevator_model.specs.declared.Stop.{Stop}
use Rattle.elevator_model.specs.Snapshot.{Snapshot, IsAccepted, car_count}
use Rattle.elevator_model.specs.Tours.{IsFeasible}
use Rattle.elevator_model.specs.Plans.{IsFeasiblePlan, tour_of, plan_cost_of}
use Rattle.restricted_master.specs.declared.columns.Column.{Column}
use Rattle.restricted_master.specs.Columns.{IsColumn, AreDistinct, columns_of, same_tour, with_tour}

-- a snapshot and, for each of its cars, tours of it, the oldest first
pub record TourPool : Type 0 where
  pub snapshot : Snapshot
  pub tours : List (List (List Stop))

abbrev pub tours_of_car : TourPool → ℕ → List (List Stop)
tours_of_car pool c = slice_index_or pool.tours c []

-- no tours
pub record IsEmptyPool (s : Snapshot) (pool : TourPool) : Type 0 where
  pub snapshot : pool.snapshot ≡ s
  pub cars : length pool.tours ≡ car_count s
  pub tours : (c : ℕ) → tours_of_car pool c ≡ []

-- one more tour of a car, as the newest
abbrev pub with_tour_of_car : TourPool → ℕ → List Stop → TourPool
with_tour_of_car pool c tour = record { snapshot = pool.snapshot; tours = slice_set pool.tours c (with_tour (tours_of_car pool c) tour) }

-- What holds of every pool.
pub record IsPool (pool : TourPool) : Type 0 where
  pub accepted : IsAccepted pool.snapshot
  pub cars : length pool.tours ≡ car_count pool.snapshot
  pub feasible : (c : ℕ) → c < car_count pool.snapshot → All (IsFeasible pool.snapshot c) (tours_of_car pool c)
  pub few : (c : ℕ) → length (tours_of_car pool c) ≤ 32
  pub distinct : (c : ℕ) → AllPairs (λ (t u : List Stop). same_tour t u ≡ false) (tours_of_car pool c)

-- the same, of the columns that a pool keeps
pub record AreColumns (s : Snapshot) (columns : List (List Column)) : Type 0 where
  pub cars : length columns ≡ car_count s
  pub each : (c : ℕ) → c < car_count s → All (IsColumn s c) (columns_of columns c)
  pub few : (c : ℕ) → length (columns_of columns c) ≤ 32
  pub distinct : (c : ℕ) → AreDistinct (columns_of columns c)

-- a feasible plan of tours of the pool
pub record IsMadeOf (pool : TourPool) (plan : List (List Stop)) : Type 0 where
  pub feasible : IsFeasiblePlan pool.snapshot plan
  pub pooled : (c : ℕ) → c < car_count pool.snapshot → Contains (tours_of_car pool c) (tour_of plan c)

-- How many partial selections there are: no tour, or one of the first car's and a partial selection of the
-- other cars' tours.
abbrev pub selection_count : List (List (List Stop)) → ℕ
selection_count [] = 1
selection_count (tours ∷ cars) = 1 + length tours * selection_count cars

-- a plan that is made of tours of the pool, and no cheaper one is
pub record IsCheapestPlan (pool : TourPool) (plan : List (List Stop)) : Type 0 where
  pub made : IsMadeOf pool plan
  pub least : (other : List (List Stop)) → IsMadeOf pool other → plan_cost_of pool.snapshot plan ≤ plan_cost_of pool.snapshot other

-- a cheapest plan that is made of tours of the pool, and None where there is none
abbrev pub IsCheapest : TourPool → Option (List (List Stop)) → Type 0
IsCheapest pool None = (plan : List (List Stop)) → IsMadeOf pool plan → ⊥
IsCheapest pool (Some plan) = IsCheapestPlan pool plan

-- a cheapest plan that is made of tours of the pool, and None where each costs this or more
abbrev pub IsCheapestBelow : TourPool → (below : ℕ) → Option (List (List Stop)) → Type 0
IsCheapestBelow pool below None = (plan : List (List Stop)) → IsMadeOf pool plan → below ≤ plan_cost_of pool.snapshot plan
IsCheapestBelow pool below (Some plan) = IsCheapestPlan pool plan

abbrev pub cost_of_choice : Snapshot → Option (List (List Stop)) → ℕ
cost_of_choice s None = 0
cost_of_choice s (Some plan) = plan_cost_of s plan
