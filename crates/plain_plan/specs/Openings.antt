-- The floors where a car has to stop before it serves calls.
use Rattle.std.specs.Prelude.{◌≡◌, ℕ, zero, suc, ◌+◌, ◌-◌, ◌<◌, ◌≤◌, ◌==◌, ◌&&◌, ◌||◌, List, [], ◌∷◌, length, Bool, true, false, if◌then◌else◌, Option, Some}
use Rattle.std.specs.Prelude.{None}
use Rattle.std.specs.List.{filter, range_with_len}
use Rattle.elevator_model.specs.declared.CarState.{CarState}
use Rattle.elevator_model.specs.declared.CarState.TheVariants.{Idle, Coming, Moving}
use Rattle.elevator_model.specs.declared.Stop.{Stop}
use Rattle.elevator_model.specs.Building.{floor_count}
use Rattle.call_sets.specs.Counting.{any_below, is_among}
use Rattle.elevator_model.specs.Snapshot.{Snapshot, group_of, spec_of, state_of, is_idle, is_open, may_stop_first, serves}
use Rattle.elevator_model.specs.Tours.{Progress, start_of, has_leg, turns_with, gets_off, persons_where, rider_count, destination_of}
use Rattle.plain_plan.specs.PlainTours.{opened}

-- the way to floor g breaks no rule
pub record Reaches (s : Snapshot) (c : ℕ) (p : Progress) (g : ℕ) : Type 0 where
  pub first : p.begun ≡ false → may_stop_first s.building c s.moment (state_of s c) g ≡ true
  pub apart : p.begun ≡ true → p.floor ≡ g → ⊥
  pub no_turn : (has_leg s c p && turns_with s p p.floor g) ≡ false

-- on the way from f to g and on, h is not left behind
abbrev pub IsBeyond : (f g h : ℕ) → Type 0
IsBeyond f g h = (f < g → g ≤ h) × (g < f → h ≤ g)

-- the floors lie one after another on the way from f on
abbrev pub IsWay : ℕ → List ℕ → Type 0
IsWay f [] = Unit {0}
IsWay f (g ∷ gs) = ((h : ℕ) → is_among h (g ∷ gs) ≡ true → f ≡ h → ⊥) × ((h : ℕ) → is_among h gs ≡ true → IsBeyond f g h) × IsWay g gs

-- the car has to stop next at floor f, and after that at each of these floors for someone it carries
pub record Opens (s : Snapshot) (c : ℕ) (p : Progress) (f : ℕ) (gs : List ℕ) : Type 0 where
  pub reaches : Reaches s c p f
  pub useful : (p.begun || is_idle (state_of s c)) ≡ true → any_below (rider_count s) (gets_off s p f) ≡ true
  pub fits : persons_where s p.carried ≤ (spec_of s c).capacity
  pub served : serves s.building c f ≡ true
  pub goes : (r : ℕ) → r < rider_count s → p.carried r ≡ true → is_among (destination_of s r) (f ∷ gs) ≡ true
  pub way : IsWay f gs
  pub later_served : (h : ℕ) → is_among h gs ≡ true → serves s.building c h ≡ true
  pub later_useful : (h : ℕ) → is_among h gs ≡ true → any_below (rider_count s) (gets_off s p h) ≡ true
  pub fresh : (j : ℕ) → p.boarded j ≡ false

-- The floors where a car has to stop before it serves calls.
abbrev pub IsOpening : Snapshot → ℕ → List ℕ → Type 0
IsOpening s c [] = (is_idle (state_of s c) ≡ true) × ((r : ℕ) → r < rider_count s → (start_of s c).carried r ≡ false)
IsOpening s c (g ∷ gs) = Opens s c (start_of s c) g gs

-- the plain tour of a car, for calls in this order
abbrev pub IsPlainTour : Snapshot → ℕ → (calls : List ℕ) → List Stop → Type 0
IsPlainTour s c calls tour = (floors : List ℕ) × IsOpening s c floors × (tour ≡ opened s None floors calls)

-- ---- one way to open

-- a group aboard the car goes to the floor
abbrev pub is_destination : Snapshot → ℕ → ℕ → Bool
is_destination s c g = any_below (length s.aboard) (λ k. ((group_of s k).car == c) && ((group_of s k).destination == g))

-- the numbers below n that pass the test, falling
abbrev pub falling : (ℕ → Bool) → ℕ → List ℕ
falling test zero = []
falling test (suc n) = if test n then n ∷ falling test n else falling test n

-- m numbers from a on, those that pass the test, rising
abbrev pub rising : (ℕ → Bool) → (a m : ℕ) → List ℕ
rising test a m = filter test (range_with_len a m)

abbrev pub or_else : List ℕ → List ℕ → List ℕ
or_else [] others = others
or_else (x ∷ xs) others = x ∷ xs

abbrev pub floors_above : Snapshot → ℕ → ℕ → List ℕ
floors_above s c f = rising (is_destination s c) (f + 1) (floor_count s.building - (f + 1))

-- where those aboard go but for floor f, one after another: all are above it or all below
abbrev pub floors_aboard : Snapshot → ℕ → ℕ → List ℕ
floors_aboard s c f = or_else (floors_above s c f) (falling (is_destination s c) f)

-- the lowest number below n that passes the test, if one does
abbrev pub lowest : ℕ → (ℕ → Bool) → ℕ
lowest zero test = 0
lowest (suc n) test = if any_below n test then lowest n test else n

-- a number below n that passes the test, if one does
abbrev pub IsFound : (ℕ → Bool) → ℕ → Option ℕ → Type 0
IsFound test n None = any_below n test ≡ false
IsFound test n (Some k) = (k < n) × (test k ≡ true)

abbrev pub opening_of : Snapshot → ℕ → CarState → List ℕ
opening_of s c (Idle floor free) = floors_aboard s c floor
opening_of s c (Coming floor arrives) = floor ∷ floors_aboard s c floor
opening_of s c (Moving from up left) =
    or_else (floors_aboard s c from) (lowest (floor_count s.building) (is_open s.building c s.moment (Moving from up left)) ∷ [])
