-- The cheapest tours of the cars from one on.
use Rattle.std.specs.Prelude.{◌≡◌, ℕ, ◌+◌, ◌*◌, ◌<◌, ◌≤◌, List, [], ◌∷◌, length, Bool, nat_le, slice_index_or, if◌then◌else◌, Option, Some, None}
use Rattle.elevator_model.specs.declared.Stop.{Stop}
use Rattle.call_sets.specs.Counting.{has}
use Rattle.elevator_model.specs.Snapshot.{Snapshot, car_count, call_count}
use Rattle.elevator_model.specs.Costs.{cost_of}
use Rattle.elevator_model.specs.Plans.{is_boarded_in}
use Rattle.tour_cost.specs.Completing.{Completes, rest_cost}
use Rattle.partial_tours.specs.Listed.{tour_at, AreAllTours}
use Rattle.plain_solver.specs.declared.choices.Sums.{Sums}
use Rattle.plain_solver.specs.declared.choices.Choices.{Choices}

-- tours and their cost
pub record Chosen : Type 0 where
  pub tours : List (List Stop)
  pub cost : ℕ

-- tours that complete what is taken, and none that do cost less
pub record IsLeast (s : Snapshot) (taken : ℕ → Bool) (c : ℕ) (x : Chosen) : Type 0 where
  pub completes : Completes s taken c x.tours
  pub cost : x.cost ≡ rest_cost s c x.tours
  pub least : (rest : List (List Stop)) → Completes s taken c rest → x.cost ≤ rest_cost s c rest

abbrev pub IsCheapest : Snapshot → (taken : ℕ → Bool) → ℕ → Option Chosen → Type 0
IsCheapest s taken c None = (rest : List (List Stop)) → Completes s taken c rest → ⊥
IsCheapest s taken c (Some x) = IsLeast s taken c x

-- the same among those that begin with one of the first n tours of a list
pub record IsLeastOf (s : Snapshot) (taken : ℕ → Bool) (c : ℕ) (tours : List (List Stop)) (n : ℕ) (x : Chosen) : Type 0 where
  pub completes : Completes s taken c x.tours
  pub cost : x.cost ≡ rest_cost s c x.tours
  pub least : (k : ℕ) (rest : List (List Stop)) → k < n → Completes s taken c (tour_at tours k ∷ rest) → x.cost ≤ rest_cost s c (tour_at tours k ∷ rest)

abbrev pub IsCheapestOf : Snapshot → (taken : ℕ → Bool) → ℕ → List (List Stop) → ℕ → Option Chosen → Type 0
IsCheapestOf s taken c tours n None = (k : ℕ) (rest : List (List Stop)) → k < n → Completes s taken c (tour_at tours k ∷ rest) → ⊥
IsCheapestOf s taken c tours n (Some x) = IsLeastOf s taken c tours n x

abbrev pub begun_with : List Stop → ℕ → Chosen → Chosen
begun_with tour cost rest = record { tours = tour ∷ rest.tours; cost = cost + rest.cost }

-- the cheaper one of the best so far and a tour with the rest
abbrev pub better_of : Option Chosen → List Stop → ℕ → Option Chosen → Option Chosen
better_of best tour cost None = best
better_of None tour cost (Some rest) = Some (begun_with tour cost rest)
better_of (Some best) tour cost (Some rest) = if nat_le best.cost (cost + rest.cost) then Some best else Some (begun_with tour cost rest)

abbrev pub no_sums : Sums
no_sums = record { cost = 0; calls = 0 }

abbrev pub sums_at : List Sums → ℕ → Sums
sums_at sums k = slice_index_or sums k no_sums

-- all tours of a car, with what each costs and the calls that it takes
pub record AreChoices (s : Snapshot) (c : ℕ) (tours : List (List Stop)) (sums : List Sums) : Type 0 where
  pub all : AreAllTours s c tours
  pub few : call_count s ≤ 128
  pub counted : length sums ≡ length tours
  pub cost : (k : ℕ) → k < length tours → (sums_at sums k).cost ≡ cost_of s c (tour_at tours k)
  pub small : (k : ℕ) → k < length tours → (sums_at sums k).cost ≤ 1000000000000000000
  pub calls : (k j : ℕ) → k < length tours → has (sums_at sums k).calls j ≡ is_boarded_in (tour_at tours k) j

-- the choices of the cars from c on
abbrev pub AreChoicesFrom : Snapshot → ℕ → List Choices → Type 0
AreChoicesFrom s c [] = c ≡ car_count s
AreChoicesFrom s c (x ∷ choices) = (c < car_count s) × AreChoices s c x.tours.items x.sums.items × AreChoicesFrom s (c + 1) choices

-- the tours of this many cars cost at most 10^18 each
abbrev pub IsSmallCost : ℕ → Option Chosen → Type 0
IsSmallCost cars None = Unit {0}
IsSmallCost cars (Some x) = x.cost ≤ 1000000000000000000 * cars
