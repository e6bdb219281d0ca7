-- Kept lists over any bound.
use Rattle.std.specs.Prelude.{◌≡◌, ℕ, ◌<◌, ◌&&◌, ℤ, int_lt, ◌<ℤ◌, ◌≤ℤ◌, List, Bool, true, Some}
use Rattle.elevator_model.specs.declared.Move.{Move}
use Rattle.elevator_model.specs.Snapshot.{Snapshot, IsAccepted, car_count}
use Rattle.elevator_model.specs.Partial.{Course, course_of, move_on, boards_allowed}
use Rattle.search_model.specs.Extending.{IsDemand, IsExtendable, can_be_extended}
use Rattle.search_model.specs.Orders.{AreAllowed, ListsAll, lists_from, tested_lists}

-- A lawful partial tour that some tour of the node begins with and whose bound is below the worth.
pub record IsKeptBy (s : Snapshot) (c : ℕ) (bound : Course → ℤ) (allowed required : ℕ → Bool) (worth : ℤ) (moves : List Move) : Type 0 where
  pub at : Course
  pub leads : course_of s c moves ≡ Some at
  pub extends : IsExtendable s c allowed required moves
  pub below : bound at <ℤ worth

-- the test of a kept one
abbrev pub is_kept_by : Snapshot → ℕ → (bound : Course → ℤ) → (allowed required : ℕ → Bool) → (worth : ℤ) → Course → Bool
is_kept_by s c bound allowed required worth x = can_be_extended s c allowed required x && int_lt (bound x) worth

-- the kept ones with fewer than n moves more than those that lead to x
abbrev pub kept_from : Snapshot → ℕ → (bound : Course → ℤ) → (allowed required : ℕ → Bool) → (worth : ℤ) → (n : ℕ) → List Move → Course → List (List Move)
kept_from s c bound allowed required worth n moves x = lists_from s c allowed (is_kept_by s c bound allowed required worth) n moves x

-- The kept list.
abbrev pub kept_list_by : Snapshot → ℕ → (bound : Course → ℤ) → (allowed required : ℕ → Bool) → (worth : ℤ) → List (List Move)
kept_list_by s c bound allowed required worth = tested_lists s c allowed (is_kept_by s c bound allowed required worth)

-- One move more, where boards are of allowed calls, makes the bound no smaller.
abbrev pub BoundGrows : Snapshot → ℕ → (bound : Course → ℤ) → (allowed : ℕ → Bool) → Type 0
BoundGrows s c bound allowed =
    (moves : List Move) (x y : Course) (m : Move) → AreAllowed allowed moves → boards_allowed allowed m ≡ true → course_of s c moves ≡ Some x
    → move_on s c x m ≡ Some y → bound x ≤ℤ bound y

-- Where the bound grows, the kept list has exactly the kept partial tours, in the order of moves, each once.
abbrev pub KeptByLaw : Type 0
KeptByLaw = (s : Snapshot) (c : ℕ) (bound : Course → ℤ) (allowed required : ℕ → Bool) (worth : ℤ) → IsAccepted s → c < car_count s
    → IsDemand s c allowed required → BoundGrows s c bound allowed
    → ListsAll (IsKeptBy s c bound allowed required worth) (kept_list_by s c bound allowed required worth)
