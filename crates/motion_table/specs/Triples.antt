-- Three floors of which the way over the second is shorter than the time from the first to the third.
use Rattle.std.specs.Prelude.{◌≡◌, ℕ, ◌+◌, ◌*◌, ◌≤◌, ◌<◌, length}
use Rattle.elevator_model.specs.Travel.{Square, time_between}
use Rattle.call_state.specs.Squares.{AreRows, IsDirect, IsLegDirect, IsRowDirect}
use Rattle.motion_table.specs.declared.triples.Triple.{Triple}

-- the way from f to h over g is shorter
abbrev pub IsShorter : Square → ℕ → ℕ → ℕ → Type 0
IsShorter t f g h = time_between t f g + time_between t g h < time_between t f h

-- the first floor to which the way over g is shorter
pub record IsFirstThird (t : Square) (f g h : ℕ) : Type 0 where
  pub floor : h < t.floors
  pub shorter : IsShorter t f g h
  pub before : (k : ℕ) → k < h → IsDirect t f g k

-- the first such floors from f on
pub record IsFirstFrom (t : Square) (f : ℕ) (triple : Triple) : Type 0 where
  pub from : triple.f ≡ f
  pub floor : triple.g < t.floors
  pub third : IsFirstThird t f triple.g triple.h
  pub before : (g : ℕ) → g < triple.g → IsLegDirect t f g

-- the first such floors, in the order of the first, then the second, then the third
pub record IsFirstTriple (t : Square) (triple : Triple) : Type 0 where
  pub floor : triple.f < t.floors
  pub first : IsFirstFrom t triple.f triple
  pub before : (f : ℕ) → f < triple.f → IsRowDirect t f

-- Measured times: 0 from a floor to itself, and 1 ms to 20,000 s between two floors.
pub record IsTable (t : Square) : Type 0 where
  pub floors_low : 2 ≤ t.floors
  pub floors_high : t.floors ≤ 64
  pub size : length t.times ≡ t.floors * t.floors
  pub rows : AreRows t
