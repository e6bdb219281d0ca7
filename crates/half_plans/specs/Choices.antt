-- The candidates of the cars, against lists of tours.
use Rattle.std.specs.Prelude.{◌≡◌, ℕ, ◌<◌, List, [], length, map, slice_index_or, Option, Some, None}
use Rattle.elevator_model.specs.declared.Stop.{Stop}
use Rattle.elevator_model.specs.Snapshot.{Snapshot, car_count}
use Rattle.half_plans.specs.declared.Pair.{Pair}
use Rattle.car_search.specs.declared.selections.Selection.{Selection}
use Rattle.car_search.specs.Choosing.{picks}
use Rattle.half_plans.specs.Choosing.{PairCandidate, CarPairs, candidate_at, times_of}
use Rattle.half_plans.specs.PairPlans.{list_of, IsPairBelow, boards_of_pair, cost_of_pair, IsPairPlan, pair_plan_cost, pair_count}

-- a pair of places of the list, what it costs and takes
pub record IsCandidate (s : Snapshot) (c : ℕ) (tours : List (List Stop)) (x : PairCandidate) : Type 0 where
  pub places : IsPairBelow (length tours) x.item
  pub cost : x.cost ≡ cost_of_pair s c tours x.item
  pub times : (j : ℕ) → times_of x.calls j ≡ boards_of_pair tours x.item j

-- each pair of places is a candidate once
pub record AreCandidates (s : Snapshot) (c : ℕ) (tours : List (List Stop)) (xs : List PairCandidate) : Type 0 where
  pub counted : length xs ≡ pair_count (length tours)
  pub each : (i : ℕ) → i < length xs → IsCandidate s c tours (candidate_at xs i)
  pub all : (pair : Pair) → IsPairBelow (length tours) pair → (i : ℕ) × (i < length xs) × ((candidate_at xs i).item ≡ pair)

-- the candidates of a car
abbrev pub candidates_of : List CarPairs → ℕ → List PairCandidate
candidates_of choices c = slice_index_or (map (λ (x : CarPairs). x.candidates.items) choices) c []

-- the candidates of all cars
pub record AreChoices (s : Snapshot) (lists : List (List (List Stop))) (choices : List CarPairs) : Type 0 where
  pub cars : length choices ≡ car_count s
  pub each : (c : ℕ) → c < car_count s → AreCandidates s c (list_of lists c) (candidates_of choices c)

-- the pairs that were picked
abbrev pub pairs_of : List CarPairs → (pick : ℕ → ℕ) → ℕ → Pair
pairs_of choices pick c = (candidate_at (candidates_of choices c) (pick c)).item

-- The picks make a pair plan, which has their cost.
pub record IsPlanPick (s : Snapshot) (lists : List (List (List Stop))) (choices : List CarPairs) (x : Selection) : Type 0 where
  pub within : (c : ℕ) → c < length choices → picks x c < length (candidates_of choices c)
  pub plan : IsPairPlan s lists (pairs_of choices (picks x))
  pub cost : x.cost ≡ pair_plan_cost s lists (pairs_of choices (picks x))

abbrev pub cost_of_picked : Option Selection → ℕ
cost_of_picked None = 0
cost_of_picked (Some x) = x.cost
