-- Values of tours at prices, and worths of cars. Prices, values and worths are in thousandths of a cost
-- unit.
use Rattle.std.specs.Prelude.{ℕ, ℤ, pos, ◌*ℤ◌, ◌-ℤ◌, ◌≤ℤ◌, List, slice_index_or}
use Rattle.elevator_model.specs.declared.Stop.{Stop}
use Rattle.elevator_model.specs.Snapshot.{Snapshot, call_count}
use Rattle.elevator_model.specs.Costs.{cost_of}
use Rattle.elevator_model.specs.Plans.{is_boarded_in}
use Rattle.search_model.specs.Sums.{int_sum_where}
use Rattle.search_model.specs.Nodes.{Node, IsTourIn}

-- a cost in thousandths
abbrev pub scaled : ℕ → ℤ
scaled cost = pos 1000 *ℤ pos cost

-- the price of a call, of a list that has them in the order of the calls
abbrev pub price_at : List ℤ → ℕ → ℤ
price_at prices j = slice_index_or prices j (pos 0)

-- the prices of the calls of a tour
abbrev pub prices_of_tour : Snapshot → (price : ℕ → ℤ) → List Stop → ℤ
prices_of_tour s price tour = int_sum_where (call_count s) (is_boarded_in tour) price

-- The value of a tour: its cost without the prices of its calls.
abbrev pub value_of : Snapshot → ℕ → (price : ℕ → ℤ) → List Stop → ℤ
value_of s c price tour = scaled (cost_of s c tour) -ℤ prices_of_tour s price tour

-- A worth of a car at a node: no feasible tour of the car in the node has a value below it.
abbrev pub IsWorth : Snapshot → Node → ℕ → (price : ℕ → ℤ) → ℤ → Type 0
IsWorth s node c price worth = (tour : List Stop) → IsTourIn s node c tour → worth ≤ℤ value_of s c price tour
