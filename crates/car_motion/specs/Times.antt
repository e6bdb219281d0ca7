-- Travel times in a list.
use Rattle.std.specs.Prelude.{◌≡◌, ℕ, ◌/◌, ◌%◌, ◌<◌, List, length, slice_index}
use Rattle.elevator_model.specs.Travel.{IsLeastTime, difference}

-- the times of the first places of the square, row after row
pub record AreTimes (heights : List ℕ) (speed accel count : ℕ) (times : List ℕ) : Type 0 where
  pub size : length times ≡ count
  pub least : (place : ℕ) → place < count
      → IsLeastTime speed accel (difference (slice_index heights (place / length heights)) (slice_index heights (place % length heights)))
      (slice_index times place)
