-- Reduced costs of candidates at prices. Prices and reduced costs are in thousandths of a cost unit.
use Rattle.std.specs.Prelude.{◌≡◌, ℕ, ◌+◌, ◌*◌, ◌^◌, ◌<◌, ◌≤◌, ℤ, pos, neg_ℤ, ◌+ℤ◌, ◌-ℤ◌, ◌≤ℤ◌, List, length, All, slice_index_or}
use Rattle.call_sets.specs.Counting.{has}
use Rattle.elevator_model.specs.declared.Stop.{Stop}
use Rattle.elevator_model.specs.Snapshot.{Snapshot}
use Rattle.elevator_model.specs.Costs.{cost_of}
use Rattle.elevator_model.specs.Plans.{is_boarded_in}
use Rattle.search_model.specs.Prices.{scaled}
use Rattle.restricted_master.specs.Priced.{prices_in, reduced_cost_of}
use Rattle.half_plans.specs.declared.candidates.PricedTour.{PricedTour}
use Rattle.half_plans.specs.declared.Pair.{Pair}
use Rattle.half_plans.specs.PairPlans.{tour_at, IsPairBelow, pair_count}
use Rattle.half_plans.specs.Choosing.{PairCandidate, CarPairs, candidate_at}
use Rattle.car_search.specs.Choosing.{IsSmall}

-- what both tours cost without the prices of their calls
abbrev pub reduced_cost_of_pair : List ℤ → PairCandidate → ℤ
reduced_cost_of_pair prices x = scaled x.cost -ℤ (prices_in prices x.calls.first +ℤ prices_in prices x.calls.second)

-- The least reduced cost of a car's candidates, and how much that of each lies above it.
pub record IsPriced (prices : List ℤ) (x : CarPairs) : Type 0 where
  pub low : neg_ℤ (pos (4 * 10 ^ 26)) ≤ℤ x.least
  pub high : x.least ≤ℤ pos (4 * 10 ^ 26)
  pub excess : (i : ℕ) → i < length x.candidates.items
      → (candidate_at x.candidates.items i).excess ≡ reduced_cost_of_pair prices (candidate_at x.candidates.items i) -ℤ x.least
  pub small : All IsSmall x.candidates.items

-- a cost and a reduced cost that leave room for the sums of pairs and of plans
pub record IsNear (x : PricedTour) : Type 0 where
  pub cost : x.cost ≤ 5 * 10 ^ 17
  pub low : neg_ℤ (pos (2 * 10 ^ 26)) ≤ℤ x.reduced
  pub high : x.reduced ≤ℤ pos (2 * 10 ^ 26)

-- so are all of them, and none has a lesser reduced cost
pub record AreNear (least : ℤ) (xs : List PricedTour) : Type 0 where
  pub each : (k : ℕ) (d : PricedTour) → k < length xs → IsNear (slice_index_or xs k d)
  pub above : (k : ℕ) (d : PricedTour) → k < length xs → least ≤ℤ (slice_index_or xs k d).reduced
  pub low : neg_ℤ (pos (2 * 10 ^ 26)) ≤ℤ least
  pub high : least ≤ℤ pos (2 * 10 ^ 26)

-- the cost, the calls and the reduced cost of a tour
pub record IsPricedTour (s : Snapshot) (c : ℕ) (prices : List ℤ) (tour : List Stop) (x : PricedTour) : Type 0 where
  pub cost : x.cost ≡ cost_of s c tour
  pub calls : (j : ℕ) → has x.calls j ≡ is_boarded_in tour j
  pub reduced : x.reduced ≡ reduced_cost_of prices x.cost x.calls
  pub near : IsNear x

-- each tour of a list
pub record ArePricedTours (s : Snapshot) (c : ℕ) (prices : List ℤ) (tours : List (List Stop)) (xs : List PricedTour) : Type 0 where
  pub counted : length xs ≡ length tours
  pub each : (k : ℕ) (d : PricedTour) → k < length xs → IsPricedTour s c prices (tour_at tours k) (slice_index_or xs k d)

abbrev pub no_tour : PricedTour
no_tour = record { cost = 0; calls = 0; reduced = pos 0 }

abbrev pub priced_at : List PricedTour → ℕ → PricedTour
priced_at xs k = slice_index_or xs k no_tour

abbrev pub candidate_of : (least : ℤ) → Pair → PricedTour → PricedTour → PairCandidate
candidate_of least pair x y =
    record { item = pair; cost = x.cost + y.cost; calls = record { first = x.calls; second = y.calls }; excess = (x.reduced -ℤ least) +ℤ (y.reduced -ℤ least) }

-- a pair of the tours as a candidate
pub record IsMade (least : ℤ) (tours : List PricedTour) (x : PairCandidate) : Type 0 where
  pub places : IsPairBelow (length tours) x.item
  pub is : x ≡ candidate_of least x.item (priced_at tours x.item.first) (priced_at tours x.item.second)

-- the place of a pair among the candidates, before they are sorted
abbrev pub place_of : Pair → ℕ
place_of pair = pair_count pair.second + pair.first

-- the first pairs, each at its place
pub record AreMade (least : ℤ) (tours : List PricedTour) (xs : List PairCandidate) : Type 0 where
  pub each : (i : ℕ) → i < length xs → IsMade least tours (candidate_at xs i)
  pub placed : (pair : Pair) → pair.first ≤ pair.second → place_of pair < length xs → (candidate_at xs (place_of pair)).item ≡ pair
