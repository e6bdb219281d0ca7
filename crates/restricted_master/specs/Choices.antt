-- The candidates of the cars, against the tours of a pool.
use Rattle.std.specs.Prelude.{◌≡◌, ℕ, ◌<◌, ◌≤◌, List, [], length, slice_index_or, Option, Some, None}
use Rattle.call_sets.specs.Counting.{has}
use Rattle.elevator_model.specs.declared.Stop.{Stop}
use Rattle.elevator_model.specs.Snapshot.{Snapshot, car_count}
use Rattle.elevator_model.specs.Tours.{IsFeasible}
use Rattle.elevator_model.specs.Costs.{cost_of}
use Rattle.elevator_model.specs.Plans.{is_boarded_in, tour_of, plan_cost_of}
use Rattle.car_search.specs.declared.selections.Selection.{Selection}
use Rattle.car_search.specs.Choosing.{picks}
use Rattle.restricted_master.specs.Choosing.{PlacedColumn, CarColumns, candidate_at}
use Rattle.restricted_master.specs.Pools.{TourPool, tours_of_car, IsMadeOf}

abbrev pub tour_at : List (List Stop) → ℕ → List Stop
tour_at tours k = slice_index_or tours k []

-- the tour at the candidate's place, what it costs and takes
pub record IsCandidate (s : Snapshot) (c : ℕ) (tours : List (List Stop)) (x : PlacedColumn) : Type 0 where
  pub within : x.item < length tours
  pub feasible : IsFeasible s c (tour_at tours x.item)
  pub cost : x.cost ≡ cost_of s c (tour_at tours x.item)
  pub small : x.cost ≤ 1000000000000000000
  pub calls : (j : ℕ) → has x.calls j ≡ is_boarded_in (tour_at tours x.item) j

-- each of the tours is a candidate once
pub record AreCandidates (s : Snapshot) (c : ℕ) (tours : List (List Stop)) (xs : List PlacedColumn) : Type 0 where
  pub counted : length xs ≡ length tours
  pub each : (i : ℕ) → i < length xs → IsCandidate s c tours (candidate_at xs i)
  pub all : (k : ℕ) → k < length tours → (i : ℕ) × (i < length xs) × ((candidate_at xs i).item ≡ k)

-- the candidates of all cars
pub record AreChoices (pool : TourPool) (choices : List CarColumns) : Type 0 where
  pub cars : length choices ≡ car_count pool.snapshot
  pub each : (c : ℕ) (d : CarColumns) → c < car_count pool.snapshot
      → AreCandidates pool.snapshot c (tours_of_car pool c) (slice_index_or choices c d).candidates.items

-- each pick is a candidate, and its place has a tour
pub record CanPick (pool : TourPool) (choices : List CarColumns) (pick : ℕ → ℕ) : Type 0 where
  pub within : (c : ℕ) (d : CarColumns) → c < length choices → pick c < length (slice_index_or choices c d).candidates.items
  pub place : (c : ℕ) (d : CarColumns) → c < length choices
      → (candidate_at (slice_index_or choices c d).candidates.items (pick c)).item < length (tours_of_car pool c)

-- the plan has the tours that were picked
pub record IsPicked (pool : TourPool) (choices : List CarColumns) (pick : ℕ → ℕ) (plan : List (List Stop)) : Type 0 where
  pub cars : length plan ≡ length choices
  pub tours : (c : ℕ) (d : CarColumns) → c < length choices
      → tour_of plan c ≡ tour_at (tours_of_car pool c) (candidate_at (slice_index_or choices c d).candidates.items (pick c)).item

-- The picks make a feasible plan, which has their cost.
pub record IsPlanPick (pool : TourPool) (choices : List CarColumns) (x : Selection) : Type 0 where
  pub can : CanPick pool choices (picks x)
  pub made : (plan : List (List Stop)) → IsPicked pool choices (picks x) plan → IsMadeOf pool plan
  pub cost : (plan : List (List Stop)) → IsPicked pool choices (picks x) plan → x.cost ≡ plan_cost_of pool.snapshot plan

-- no plan that is made of tours of the pool costs less than the picks
abbrev pub IsLeastPick : TourPool → Selection → Type 0
IsLeastPick pool x = (plan : List (List Stop)) → IsMadeOf pool plan → x.cost ≤ plan_cost_of pool.snapshot plan

-- no plan that is made of tours of the pool costs less than the picks, and without picks there is none
abbrev pub IsCheapestPick : TourPool → Option Selection → Type 0
IsCheapestPick pool None = (plan : List (List Stop)) → IsMadeOf pool plan → ⊥
IsCheapestPick pool (Some x) = IsLeastPick pool x

-- no plan that is made of tours of the pool costs less than the picks, and without picks none costs less than this
abbrev pub IsLeastBelow : TourPool → (beat : ℕ) → Option Selection → Type 0
IsLeastBelow pool beat None = (plan : List (List Stop)) → IsMadeOf pool plan → beat ≤ plan_cost_of pool.snapshot plan
IsLeastBelow pool beat (Some x) = IsLeastPick pool x

-- the plan costs what the picks cost, and there is none without picks
abbrev pub HasPicked : Snapshot → Option Selection → Option (List (List Stop)) → Type 0
HasPicked s None None = Unit {0}
HasPicked s None (Some plan) = ⊥
HasPicked s (Some x) None = ⊥
HasPicked s (Some x) (Some plan) = x.cost ≡ plan_cost_of s plan
