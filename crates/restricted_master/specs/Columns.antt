-- The tours of one car that a pool holds.
use Rattle.std.specs.Prelude.{◌≡◌, ℕ, ◌-◌, ◌≤◌, List, [], ◌∷◌, ◌++◌, length, filter, drop, map, Bool, false, not, slice_index_or}
use Rattle.std.specs.List.{AllPairs}
use Rattle.std.specs.Cmp.Lexicographic.{pointwise}
use Rattle.call_sets.specs.Counting.{has}
use Rattle.elevator_model.specs.declared.Stop.{Stop}
use Rattle.elevator_model.specs.Equal.{same_stop}
use Rattle.elevator_model.specs.Snapshot.{Snapshot}
use Rattle.elevator_model.specs.Tours.{IsFeasible}
use Rattle.elevator_model.specs.Costs.{cost_of}
use Rattle.elevator_model.specs.Plans.{is_boarded_in}
use Rattle.restricted_master.specs.declared.columns.Column.{Column}

-- the stops are the same, one by one
abbrev pub same_tour : List Stop → List Stop → Bool
same_tour = pointwise same_stop

-- the last n, or all where there are fewer
abbrev pub newest : {X : Type 0} → ℕ → List X → List X
newest n xs = drop (length xs - n) xs

-- The tours with one more as the newest: it is kept once, and the oldest is dropped where there are 33.
abbrev pub with_tour : List (List Stop) → List Stop → List (List Stop)
with_tour tours tour = newest 32 (filter (λ (other : List Stop). not (same_tour other tour)) tours ++ tour ∷ [])

abbrev pub tours_of : List Column → List (List Stop)
tours_of columns = map (λ (x : Column). x.tour) columns

-- the same of the columns
abbrev pub with_column : List Column → Column → List Column
with_column columns x = newest 32 (filter (λ (other : Column). not (same_tour other.tour x.tour)) columns ++ x ∷ [])

-- a feasible tour of the car with what it costs and the calls that it takes
pub record IsColumn (s : Snapshot) (c : ℕ) (x : Column) : Type 0 where
  pub feasible : IsFeasible s c x.tour
  pub cost : x.cost ≡ cost_of s c x.tour
  pub small : x.cost ≤ 1000000000000000000
  pub calls : (j : ℕ) → has x.calls j ≡ is_boarded_in x.tour j

-- the columns of a car
abbrev pub columns_of : List (List Column) → ℕ → List Column
columns_of cars c = slice_index_or cars c []

-- no two columns have the same tour
abbrev pub AreDistinct : List Column → Type 0
AreDistinct columns = AllPairs (λ (x y : Column). same_tour x.tour y.tour ≡ false) columns
