-- The possible cars of a call, as a set.
use Rattle.std.specs.Prelude.{◌≡◌, ℕ, ◌≤◌, ◌<◌, ◌&&◌, not, Bool, false, List, length, slice_index, slice_index_or}
use Rattle.call_sets.specs.Counting.{has}
use Rattle.elevator_model.specs.Snapshot.{Snapshot, call_of, no_call, can_take, is_pinned_elsewhere, is_possible}
use Rattle.elevator_model.specs.Building.{Building}
use Rattle.elevator_model.specs.declared.Call.{Call}

-- the set has the cars below this one that may take the call, and nothing else
pub record HasPossible (s : Snapshot) (call cars set : ℕ) : Type 0 where
  pub possible : (c : ℕ) → c < cars → has set c ≡ is_possible s c (call_of s call)
  pub others : (c : ℕ) → cars ≤ c → has set c ≡ false

-- the car is one of the call's possible cars, in a snapshot of this building
abbrev pub may_take : Building → ℕ → Call → Bool
may_take b c call = not (is_pinned_elsewhere call.pin c) && can_take b c call

-- the set has exactly the call's possible cars
abbrev pub IsPossibleSet : Building → Call → ℕ → Type 0
IsPossibleSet b call set = (c : ℕ) → has set c ≡ may_take b c call

-- the sets of the possible cars of each call
pub record ArePossible (b : Building) (calls : List Call) (sets : List ℕ) : Type 0 where
  pub count : length sets ≡ length calls
  pub each : (j : ℕ) → j < length calls → IsPossibleSet b (slice_index_or calls j no_call) (slice_index sets j)
