-- Pair plans: two tours of each car from its list, such that each call boards twice.
use Rattle.std.specs.Prelude.{◌≡◌, ℕ, zero, suc, ◌+◌, ◌*◌, ◌<◌, ◌≤◌, ◌==◌, List, [], ◌∷◌, ◌++◌, length, All, if◌then◌else◌, slice_index_or, Option, Some, None}
use Rattle.call_sets.specs.Counting.{sum_below}
use Rattle.elevator_model.specs.declared.Stop.{Stop}
use Rattle.elevator_model.specs.Snapshot.{Snapshot, call_count, car_count}
use Rattle.elevator_model.specs.Tours.{IsFeasible}
use Rattle.elevator_model.specs.Costs.{cost_of}
use Rattle.elevator_model.specs.Plans.{is_boarded_in}
use Rattle.car_search.specs.Counts.{one_if}
use Rattle.half_plans.specs.declared.Share.{Share}
use Rattle.half_plans.specs.declared.Pair.{Pair}
use Rattle.half_plans.specs.Mixtures.{IsMixture}

-- the list of a car, and the tour at a place of it
abbrev pub list_of : List (List (List Stop)) → ℕ → List (List Stop)
list_of lists c = slice_index_or lists c []

abbrev pub tour_at : List (List Stop) → ℕ → List Stop
tour_at tours k = slice_index_or tours k []

-- for each car a list of feasible tours
pub record AreTourLists (s : Snapshot) (lists : List (List (List Stop))) : Type 0 where
  pub cars : length lists ≡ car_count s
  pub feasible : (c : ℕ) → c < car_count s → All (IsFeasible s c) (list_of lists c)

-- an unordered pair of places below n, perhaps one place twice
pub record IsPairBelow (n : ℕ) (pair : Pair) : Type 0 where
  pub ordered : pair.first ≤ pair.second
  pub within : pair.second < n

-- how often the call boards in the two tours
abbrev pub boards_of_pair : List (List Stop) → Pair → ℕ → ℕ
boards_of_pair tours pair j = one_if (is_boarded_in (tour_at tours pair.first) j) + one_if (is_boarded_in (tour_at tours pair.second) j)

abbrev pub cost_of_pair : Snapshot → ℕ → List (List Stop) → Pair → ℕ
cost_of_pair s c tours pair = cost_of s c (tour_at tours pair.first) + cost_of s c (tour_at tours pair.second)

-- how often the call boards in the pairs of all cars
abbrev pub times_boarded : Snapshot → List (List (List Stop)) → (pairs : ℕ → Pair) → ℕ → ℕ
times_boarded s lists pairs j = sum_below (car_count s) (λ c. boards_of_pair (list_of lists c) (pairs c) j)

-- A pair plan: a pair of places for each car, such that each call boards twice in the tours.
pub record IsPairPlan (s : Snapshot) (lists : List (List (List Stop))) (pairs : ℕ → Pair) : Type 0 where
  pub places : (c : ℕ) → c < car_count s → IsPairBelow (length (list_of lists c)) (pairs c)
  pub twice : (j : ℕ) → j < call_count s → times_boarded s lists pairs j ≡ 2

abbrev pub pair_plan_cost : Snapshot → List (List (List Stop)) → (pairs : ℕ → Pair) → ℕ
pair_plan_cost s lists pairs = sum_below (car_count s) (λ c. cost_of_pair s c (list_of lists c) (pairs c))

-- the shares of a pair: one that weighs 2, or two that weigh 1
abbrev pub share_of : (car weight : ℕ) → List Stop → Share
share_of car weight tour = record { car = car; weight = weight; tour = tour }

abbrev pub shares_of_pair : ℕ → List (List Stop) → Pair → List Share
shares_of_pair c tours pair =
    if pair.first == pair.second then share_of c 2 (tour_at tours pair.first) ∷ [] else share_of c 1 (tour_at tours pair.first)
    ∷ share_of c 1 (tour_at tours pair.second) ∷ []

-- the shares of the first n cars, in the order of the cars
abbrev pub shares_below : List (List (List Stop)) → (pairs : ℕ → Pair) → ℕ → List Share
shares_below lists pairs zero = []
shares_below lists pairs (suc n) = shares_below lists pairs n ++ shares_of_pair n (list_of lists n) (pairs n)

abbrev pub shares_of : Snapshot → List (List (List Stop)) → (pairs : ℕ → Pair) → List Share
shares_of s lists pairs = shares_below lists pairs (car_count s)

-- A pair plan is a mixture of halves.
abbrev pub HalvesLaw : Type 0
HalvesLaw =
    (s : Snapshot) (lists : List (List (List Stop))) (pairs : ℕ → Pair) → AreTourLists s lists → IsPairPlan s lists pairs
    → IsMixture s (shares_of s lists pairs) 2 (pair_plan_cost s lists pairs)

-- how many unordered pairs of places below n there are, those of one place twice among them
abbrev pub pair_count : ℕ → ℕ
pair_count zero = 0
pair_count (suc n) = pair_count n + suc n

-- How many partial pairings there are: the one of no car, and those of a pair of the first car's places and a
-- partial pairing of the other cars' lists.
abbrev pub pairing_count : List (List (List Stop)) → ℕ
pairing_count [] = 1
pairing_count (tours ∷ lists) = 1 + pair_count (length tours) * pairing_count lists

-- the shares are those of a pair plan of the lists, which has this cost
pub record ArePairShares (s : Snapshot) (lists : List (List (List Stop))) (shares : List Share) (total : ℕ) : Type 0 where
  pub pairs : ℕ → Pair
  pub plan : IsPairPlan s lists pairs
  pub is : shares ≡ shares_of s lists pairs
  pub cost : total ≡ pair_plan_cost s lists pairs

-- no pair plan of the lists costs less, and without a plan there is none
abbrev pub IsCheapestPairing : {X : Type 0} → Snapshot → List (List (List Stop)) → Option X → (cost : ℕ) → Type 0
IsCheapestPairing s lists None cost = (pairs : ℕ → Pair) → IsPairPlan s lists pairs → ⊥
IsCheapestPairing s lists (Some x) cost = (pairs : ℕ → Pair) → IsPairPlan s lists pairs → cost ≤ pair_plan_cost s lists pairs
