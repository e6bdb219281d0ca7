-- Calls that take nothing off the bound any more.
use Rattle.std.specs.Prelude.{◌≡◌, ◌<◌, ◌≤ℤ◌, ℕ, ℤ, pos, ◌||◌, int_lt, Bool, true, false, List, if◌then◌else◌}
use Rattle.call_sets.specs.Counting.{has}
use Rattle.elevator_model.specs.Partial.{Course}
use Rattle.elevator_model.specs.Snapshot.{Snapshot, call_count, call_of}
use Rattle.elevator_model.specs.Tours.{Progress}
use Rattle.partial_tours.specs.Courses.{reached}
use Rattle.pricing_bound.specs.Aims.{Aim}
use Rattle.route_bound.specs.ForcedRoute.{may_still_board, next_open, opens_at, part_if_boarded, route_end, route_start}
use Rattle.route_bound.specs.Turns.{boards_first}

-- what a call adds is not nothing
abbrev pub adds : ℤ → Bool
adds part = int_lt part (pos 0) || int_lt (pos 0) part

-- the earliest moment at which the call can board: on the way for those that go along, and else after the forced stops
abbrev pub boards_along : Snapshot → ℕ → (along : ℕ → Bool) → (up : Bool) → Progress → List ℕ → (j : ℕ) → ℕ
boards_along s c along up p fs j = if along j then opens_at s c up p fs (call_of s j).origin else next_open s c (route_end s c p fs) (call_of s j).origin

-- Each allowed call that has not boarded and is not in the set takes nothing off, as early as it can board.
abbrev pub AreIdleBut : Snapshot → ℕ → (price : ℕ → ℤ) → (allowed required still : ℕ → Bool) → Progress → (waiting : ℕ) → Type 0
AreIdleBut s c price allowed required still p waiting =
    (j : ℕ) → j < call_count s → allowed j ≡ true → p.boarded j ≡ false → has waiting j ≡ false
    → pos 0 ≤ℤ part_if_boarded s c price required j (boards_first s c still p j)

-- the same from where moves lead
abbrev pub AreIdleAt : Aim → (waiting : ℕ) → Course → Type 0
AreIdleAt a waiting x =
    AreIdleBut a.snapshot a.car a.price a.allowed a.required (may_still_board x) (route_start a.snapshot a.car (reached a.snapshot a.car x)) waiting
