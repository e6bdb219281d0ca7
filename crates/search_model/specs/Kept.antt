-- Kept lists: the partial tours that a checker of a worth has to visit.
use Rattle.std.specs.Prelude.{◌≡◌, ℕ, ◌<◌, ◌&&◌, ℤ, int_lt, ◌<ℤ◌, List, Bool, Some}
use Rattle.elevator_model.specs.declared.Move.{Move}
use Rattle.elevator_model.specs.Snapshot.{Snapshot, IsAccepted, car_count}
use Rattle.elevator_model.specs.Partial.{Course, course_of}
use Rattle.search_model.specs.Orders.{ListsAll, tested_lists}
use Rattle.search_model.specs.Extending.{IsExtendable, IsDemand, can_be_extended}
use Rattle.search_model.specs.Bounds.{completion_bound}

-- a lawful partial tour that some tour of the node begins with and whose bound is below the worth
abbrev pub IsKept : Snapshot → ℕ → (price : ℕ → ℤ) → (allowed required : ℕ → Bool) → (worth : ℤ) → List Move → Type 0
IsKept s c price allowed required worth moves =
    (x : Course) × (course_of s c moves ≡ Some x) × IsExtendable s c allowed required moves × (completion_bound s c price allowed required x <ℤ worth)

abbrev pub is_kept : Snapshot → ℕ → (price : ℕ → ℤ) → (allowed required : ℕ → Bool) → (worth : ℤ) → Course → Bool
is_kept s c price allowed required worth x = can_be_extended s c allowed required x && int_lt (completion_bound s c price allowed required x) worth

-- The kept list of a car, in the order of moves, each before its extensions.
abbrev pub kept_list : Snapshot → ℕ → (price : ℕ → ℤ) → (allowed required : ℕ → Bool) → (worth : ℤ) → List (List Move)
kept_list s c price allowed required worth = tested_lists s c allowed (is_kept s c price allowed required worth)

-- It has exactly the kept partial tours, in their order.
abbrev pub KeptLaw : Type 0
KeptLaw = (s : Snapshot) (c : ℕ) (price : ℕ → ℤ) (allowed required : ℕ → Bool) (worth : ℤ) → IsAccepted s → c < car_count s → IsDemand s c allowed required
    → ListsAll (IsKept s c price allowed required worth) (kept_list s c price allowed required worth)
