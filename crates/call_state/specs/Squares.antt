-- What is tested of travel times.
use Rattle.std.specs.Prelude.{◌≡◌, ◌≢◌, ℕ, ◌+◌, ◌≤◌, ◌<◌, List, length, slice_index}
use Rattle.elevator_model.specs.Travel.{Square, time_between}

abbrev pub square_of : ℕ → List ℕ → Square
square_of floors times = record { floors = floors; times = times }

-- the time from one floor to another is in its range
pub record IsEntry (t : Square) (f g : ℕ) : Type 0 where
  pub at_rest : f ≡ g → time_between t f g ≡ 0
  pub positive : f ≢ g → 1 ≤ time_between t f g
  pub bounded : time_between t f g ≤ 20000000

abbrev pub IsRow : Square → ℕ → Type 0
IsRow t f = (g : ℕ) → g < t.floors → IsEntry t f g

abbrev pub AreRows : Square → Type 0
AreRows t = (f : ℕ) → f < t.floors → IsRow t f

-- the way from f to h is no longer than that over g
abbrev pub IsDirect : Square → ℕ → ℕ → ℕ → Type 0
IsDirect t f g h = time_between t f h ≤ time_between t f g + time_between t g h

-- no way that begins with this leg is shorter: rest has the times from there, direct those from the start
abbrev pub IsNowhereShorter : ℕ → List ℕ → List ℕ → Type 0
IsNowhereShorter leg rest direct = (h : ℕ) → h < length direct → slice_index direct h ≤ leg + slice_index rest h

abbrev pub IsLegDirect : Square → ℕ → ℕ → Type 0
IsLegDirect t f g = (h : ℕ) → h < t.floors → IsDirect t f g h

abbrev pub IsRowDirect : Square → ℕ → Type 0
IsRowDirect t f = (g : ℕ) → g < t.floors → IsLegDirect t f g

abbrev pub AreRowsDirect : Square → Type 0
AreRowsDirect t = (f : ℕ) → f < t.floors → IsRowDirect t f
