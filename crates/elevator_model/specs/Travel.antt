-- How long a car travels. Lengths in mm, times in ms, speed in mm/s, acceleration and braking in mm/s².
use Rattle.std.specs.Prelude.{◌≡◌, ℕ, ◌+◌, ◌-◌, ◌*◌, ◌≤◌, ◌<◌, ◌≢◌, List, length, Bool, nat_le, IsTrue, slice_index, if◌then◌else◌}

-- A car can cover the distance from rest to rest in the time t: it speeds up, and at its greatest
-- speed keeps it, and brakes.
abbrev pub covers : (speed accel t distance : ℕ) → Bool
covers v a t d =
    if nat_le (a * t) (2000 * v) then nat_le (4000000 * d) (a * t * t) else nat_le (1000 * a * d) (a * v * t - 1000 * v * v)

-- The travel time over a distance is the least whole time in which it can be covered.
pub record IsLeastTime (speed accel distance t : ℕ) : Type 0 where
  pub enough : IsTrue (covers speed accel t distance)
  pub least : (u : ℕ) → IsTrue (covers speed accel u distance) → t ≤ u

-- A car that left a floor a time t ago can still stop at a distance d from it.
abbrev pub can_stop : (speed accel t distance : ℕ) → Bool
can_stop v a t d = if nat_le (a * t) (1000 * v) then nat_le (a * t * t) (1000000 * d) else nat_le (v * t) (1000 * d)

abbrev pub difference : ℕ → ℕ → ℕ
difference x y = (x - y) + (y - x)

-- Travel times between floors: row after row, from each floor to each floor.
pub record Square : Type 0 where
  pub floors : ℕ
  pub times : List ℕ

abbrev pub time_between : Square → ℕ → ℕ → ℕ
time_between t f g = slice_index t.times (f * t.floors + g)

-- A travel square has 2 to 64 floors, is 0 from a floor to itself, 1 ms to 20,000 s between two
-- floors, and no way over a third floor is shorter.
pub record IsTravelSquare (t : Square) : Type 0 where
  pub floors_low : 2 ≤ t.floors
  pub floors_high : t.floors ≤ 64
  pub size : length t.times ≡ t.floors * t.floors
  pub at_rest : (f : ℕ) → f < t.floors → time_between t f f ≡ 0
  pub positive : (f g : ℕ) → f < t.floors → g < t.floors → f ≢ g → 1 ≤ time_between t f g
  pub bounded : (f g : ℕ) → f < t.floors → g < t.floors → time_between t f g ≤ 20000000
  pub triangle : (f g h : ℕ) → f < t.floors → g < t.floors → h < t.floors → time_between t f h ≤ time_between t f g + time_between t g h

-- The times are the least ones over the differences of the heights.
pub record IsTravelOf (heights : List ℕ) (speed accel : ℕ) (t : Square) : Type 0 where
  pub floors : t.floors ≡ length heights
  pub size : length t.times ≡ length heights * length heights
  pub least : (f g : ℕ) → f < length heights → g < length heights
      → IsLeastTime speed accel (difference (slice_index heights f) (slice_index heights g)) (time_between t f g)
