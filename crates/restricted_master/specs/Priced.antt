-- Reduced costs of candidates at prices. Prices and reduced costs are in thousandths of a cost unit.
use Rattle.std.specs.Prelude.{◌≡◌, ℕ, ◌*◌, ◌^◌, ◌<◌, ℤ, pos, neg_ℤ, ◌-ℤ◌, ◌≤ℤ◌, List, length, All}
use Rattle.call_sets.specs.Counting.{has}
use Rattle.search_model.specs.Sums.{int_sum_where}
use Rattle.search_model.specs.Prices.{scaled, price_at}
use Rattle.restricted_master.specs.declared.columns.Column.{Column}
use Rattle.car_search.specs.Choosing.{IsSmall}
use Rattle.restricted_master.specs.Choosing.{PlacedColumn, CarColumns, candidate_at}

-- the prices of the calls of a set
abbrev pub prices_in : List ℤ → ℕ → ℤ
prices_in prices calls = int_sum_where (length prices) (has calls) (price_at prices)

-- what a tour costs without the prices of its calls
abbrev pub reduced_cost_of : List ℤ → (cost calls : ℕ) → ℤ
reduced_cost_of prices cost calls = scaled cost -ℤ prices_in prices calls

abbrev pub candidate_of : List ℤ → (least : ℤ) → (place : ℕ) → Column → PlacedColumn
candidate_of prices least place x = record { item = place; cost = x.cost; calls = x.calls; excess = reduced_cost_of prices x.cost x.calls -ℤ least }

-- The least reduced cost of a car's candidates, and how much that of each lies above it.
pub record IsPriced (prices : List ℤ) (x : CarColumns) : Type 0 where
  pub low : neg_ℤ (pos (2 * 10 ^ 26)) ≤ℤ x.least
  pub high : x.least ≤ℤ pos (2 * 10 ^ 26)
  pub excess : (i : ℕ) → i < length x.candidates.items
      → (candidate_at x.candidates.items i).excess
      ≡ reduced_cost_of prices (candidate_at x.candidates.items i).cost (candidate_at x.candidates.items i).calls -ℤ x.least
  pub small : All IsSmall x.candidates.items
