-- Which way the calls of a snapshot go, and below which floors they begin, laid out as sets.
use Rattle.std.specs.Prelude.{◌≡◌, ◌<◌, ℕ, ◌&&◌, Bool, List, length, nat_lt, slice_index}
use Rattle.call_sets.specs.Counting.{has}
use Rattle.elevator_model.specs.Snapshot.{Snapshot, call_count, call_of}
use Rattle.elevator_model.specs.Tours.{is_upward}

-- call j is an open call that goes up, or begins below floor g
abbrev pub goes_up : Snapshot → (j : ℕ) → Bool
goes_up s j = nat_lt j (call_count s) && is_upward (call_of s j)

abbrev pub begins_below : Snapshot → (g j : ℕ) → Bool
begins_below s g j = nat_lt j (call_count s) && nat_lt (call_of s j).origin g

-- for each floor below a bound the calls that begin below it
pub record AreBelowFloors (s : Snapshot) (bound : ℕ) (sets : List ℕ) : Type 0 where
  pub size : length sets ≡ bound
  pub each : (g j : ℕ) → g < bound → has (slice_index sets g) j ≡ begins_below s g j

-- the sets are those of the calls
pub record AreOrigins (s : Snapshot) (upward : ℕ) (below : List ℕ) : Type 0 where
  pub upward_are : (j : ℕ) → has upward j ≡ goes_up s j
  pub below_are : AreBelowFloors s 65 below
