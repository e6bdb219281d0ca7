-- The leaf with which a search starts.
use Rattle.std.specs.Prelude.{◌≡◌, ℕ, ◌<◌, ◌==◌, ◌≤◌, ℤ, IsTrue, List, length, map}
use Rattle.std.specs.List.{range_with_len}
use Rattle.call_sets.specs.Counting.{sum_where}
use Rattle.elevator_model.specs.Snapshot.{Snapshot, car_count, group_of}
use Rattle.elevator_model.specs.Partial.{course_start}
use Rattle.search_model.specs.declared.Leaf.{Leaf}
use Rattle.search_model.specs.Bounds.{completion_bound}
use Rattle.search_model.specs.Certificates.{claim_in, has_whole_lists, price_in, sum_of_leaf, worth_in}
use Rattle.search_model.specs.Nodes.{allows, requires_of, root_of}
use Rattle.search_model.specs.Prices.{IsWorth, price_at, scaled}
use Rattle.search_model.specs.Solving.{floor_of_bound, start_prices, straight_cost}
use Rattle.search_model.specs.Verdicts.{kept_at}
use Rattle.search_tree.specs.Sheets.{IsSizedLeaf, PriceSheet}

-- The worth of a car: the completion bound of its empty partial tour in the root, at the prices that the search
-- starts with.
abbrev pub start_worth : Snapshot → ℕ → ℤ
start_worth s c = completion_bound s c (price_at (start_prices s)) (allows (root_of s) c) (requires_of (root_of s) c) (course_start s c)

-- of the cars, in their order
abbrev pub start_worths : Snapshot → List ℤ
start_worths s = map (start_worth s) (range_with_len 0 (car_count s))

-- the prices and worths that a search starts with
abbrev pub start_sheet : Snapshot → PriceSheet
start_sheet s = record { prices = start_prices s; worths = start_worths s }

-- The leaf that states these prices and worths: right in the root, where no kept list is longer than its claim, and
-- its sum is what no plan costs less than.
pub record IsStartLeaf (s : Snapshot) (leaf : Leaf) : Type 0 where
  pub whole : IsTrue (has_whole_lists s leaf)
  pub prices_are : (j : ℕ) → price_in leaf j ≡ price_at (start_prices s) j
  pub worths_are : (c : ℕ) → c < car_count s → worth_in leaf c ≡ start_worth s c
  pub worths : (c : ℕ) → c < car_count s → IsWorth s (root_of s) c (price_in leaf) (worth_in leaf c)
  pub claims : (c : ℕ) → c < car_count s → claim_in leaf c ≡ 1
  pub kept : (c : ℕ) → c < car_count s → length (kept_at s (root_of s) leaf c) ≤ 1
  pub sum : sum_of_leaf leaf ≡ scaled (floor_of_bound s)
  pub sized : IsSizedLeaf leaf

-- the cost of the groups aboard a car if it went straight to each destination
abbrev pub aboard_cost : Snapshot → ℕ → ℕ
aboard_cost s c = sum_where (length s.aboard) (λ k. (group_of s k).car == c) (straight_cost s)
