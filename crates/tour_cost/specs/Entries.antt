-- A timeline tells of each stop the moments that the definition's fold has after it.
use Rattle.std.specs.Prelude.{◌≡◌, ℕ, ◌+◌, List, length, take, slice_get, Some}
use Rattle.elevator_model.specs.declared.Stop.{Stop}
use Rattle.elevator_model.specs.declared.Times.{Times}
use Rattle.elevator_model.specs.Snapshot.{Snapshot}
use Rattle.elevator_model.specs.Tours.{start_of, after_stops, arrival}

-- the moments of this stop, which comes after the first k: when the car gets there from them, and what
-- its doors and its leaving are after one stop more
pub record IsEntry (s : Snapshot) (c : ℕ) (tour : List Stop) (k : ℕ) (stop : Stop) (entry : Times) : Type 0 where
  pub arrival : entry.arrival ≡ arrival s c (after_stops s c (start_of s c) (take k tour)) stop.floor
  pub opened : entry.opened ≡ (after_stops s c (start_of s c) (take (k + 1) tour)).opened
  pub leaves : entry.leaves ≡ (after_stops s c (start_of s c) (take (k + 1) tour)).leaves

-- as many entries as stops, and each that of its stop
pub record TellsEachStop (s : Snapshot) (c : ℕ) (tour : List Stop) (times : List Times) : Type 0 where
  pub count : length times ≡ length tour
  pub each : (k : ℕ) (stop : Stop) (entry : Times) → slice_get tour k ≡ Some stop → slice_get times k ≡ Some entry → IsEntry s c tour k stop entry
