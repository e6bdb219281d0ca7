-- Worked cases of partial tours: their order, and which can be extended.
use Rattle.std.specs.Prelude.{◌≡◌, ℕ, List, [], ◌∷◌, length, Bool, true, false, nat_lt, Option, Some, None}
use Rattle.elevator_model.specs.declared.Move.{Move}
use Rattle.elevator_model.specs.declared.Move.TheVariants.{Board, Leave, End}
use Rattle.elevator_model.specs.Snapshot.{Snapshot, call_count}
use Rattle.elevator_model.specs.Partial.{Course, course_of}
use Rattle.elevator_model.specs.Worked.{one_call, two_ways, one_queue, together, shown, group, call}
use Rattle.elevator_model.specs.declared.CarState.TheVariants.{Idle, Coming}
use Rattle.search_model.specs.Orders.{comes_before, IsBefore, partial_tours, move_limit}
use Rattle.search_model.specs.Extending.{can_be_extended}
use Rattle.search_model.specs.Uneven.{uneven_pair, first_two, only}

abbrev pub all_of : Snapshot → ℕ → Bool
all_of s j = nat_lt j (call_count s)

abbrev pub none_of : ℕ → Bool
none_of j = false

abbrev pub coming_group : Snapshot
coming_group = shown 1 0 8 (Coming 1 3000) (group 9 3 1 0 ∷ []) []

pub record AreOrders : Type 0 where
  pub boards : comes_before (Board 1) (Board 2) ≡ true
  pub same : comes_before (Leave 1) (Leave 1) ≡ false
  pub board_first : comes_before (Board 9) (Leave 0) ≡ true
  pub end_last : comes_before (Leave 9) End ≡ true
  pub leaves : comes_before (Leave 2) (Leave 1) ≡ false
  -- a list comes before its extensions, and else the first move that differs decides
  pub shorter_first : IsBefore (Leave 0 ∷ []) (Leave 0 ∷ Board 0 ∷ [])
  pub differing : IsBefore (Leave 0 ∷ Board 0 ∷ Leave 3 ∷ End ∷ []) (Leave 0 ∷ Leave 1 ∷ [])
  pub not_longer_first : IsBefore (Leave 0 ∷ Board 0 ∷ []) (Leave 0 ∷ []) → ⊥
  -- all partial tours of the car, with one call from its floor to the next
  pub all :
      partial_tours one_call 0 (all_of one_call)
      ≡ []
      ∷ (Leave 0 ∷ [])
      ∷ (Leave 0 ∷ Board 0 ∷ [])
      ∷ (Leave 0 ∷ Board 0 ∷ Leave 1 ∷ [])
      ∷ (Leave 0 ∷ Board 0 ∷ Leave 1 ∷ Leave 0 ∷ [])
      ∷ (Leave 0 ∷ Board 0 ∷ Leave 1 ∷ Leave 2 ∷ [])
      ∷ (Leave 0 ∷ Board 0 ∷ Leave 1 ∷ Leave 3 ∷ [])
      ∷ (Leave 0 ∷ Board 0 ∷ Leave 1 ∷ End ∷ [])
      ∷ (Leave 1 ∷ [])
      ∷ (Leave 2 ∷ [])
      ∷ (Leave 3 ∷ [])
      ∷ (End ∷ [])
      ∷ []
  pub boards_nothing : length (partial_tours one_call 0 none_of) ≡ 6
  pub uneven : length (partial_tours uneven_pair 0 first_two) ≡ 38
  -- a coming car may stop of no use first, so three moves are the most here
  pub coming_with_a_group : length (partial_tours coming_group 0 none_of) ≡ 8
  pub limit_of_coming : move_limit coming_group 0 ≡ 3
  pub limit : move_limit uneven_pair 0 ≡ 12
  pub limit_of_the_other : move_limit uneven_pair 1 ≡ 11

abbrev pub extends_at : Snapshot → (required : ℕ → Bool) → Option Course → Bool
extends_at s required None = false
extends_at s required (Some x) = can_be_extended s 0 (all_of s) required x

abbrev pub extends : Snapshot → (required : ℕ → Bool) → List Move → Bool
extends s required moves = extends_at s required (course_of s 0 moves)

-- the later call of the queue has the lower index
abbrev pub later_first : (capacity : ℕ) → Snapshot
later_first capacity = shown 1 0 capacity (Idle 0 0) [] (call 2 0 1 1 ∷ call 1 0 1 1 ∷ [])

-- a car for two that carries one, and one queue of two persons and then one
abbrev pub one_aboard : Snapshot
one_aboard = shown 1 0 2 (Idle 0 0) (group 9 3 1 0 ∷ []) (call 1 1 2 2 ∷ call 2 1 2 1 ∷ [])

pub record AreExtendable : Type 0 where
  -- the earlier call of a queue has to board first
  pub earlier : extends one_queue (all_of one_queue) (Leave 0 ∷ Board 0 ∷ []) ≡ true
  pub later : extends one_queue (all_of one_queue) (Leave 0 ∷ Board 1 ∷ []) ≡ false
  pub optional : extends one_queue none_of (Leave 0 ∷ Board 1 ∷ []) ≡ true
  -- a call that has to be served was passed at an earlier stop
  pub passed : extends one_queue (only 0) (Leave 0 ∷ Board 1 ∷ Leave 1 ∷ []) ≡ false
  pub passed_by_none : extends one_queue (only 1) (Leave 0 ∷ Board 1 ∷ Leave 1 ∷ []) ≡ true
  -- calls board by rising index, so a lower one can board here no more
  pub skipped : extends together (only 0) (Leave 0 ∷ Board 1 ∷ []) ≡ false
  pub fits_not : extends (later_first 1) (only 1) (Leave 0 ∷ Board 0 ∷ []) ≡ false
  pub fits : extends (later_first 2) (only 1) (Leave 0 ∷ Board 0 ∷ []) ≡ true
  -- a stop is of use only if a call can board that passes none that has to be served
  pub of_use : extends one_aboard none_of (Leave 1 ∷ []) ≡ true
  pub of_no_use_then : extends one_aboard (only 0) (Leave 1 ∷ []) ≡ false
  pub of_use_then : extends one_aboard (only 1) (Leave 1 ∷ []) ≡ true
  pub both_ways : extends two_ways none_of (Leave 1 ∷ Board 0 ∷ Board 1 ∷ []) ≡ false
  pub one_way : extends two_ways (all_of two_ways) (Leave 1 ∷ Board 1 ∷ []) ≡ true
  pub of_no_use : extends one_call none_of (Leave 2 ∷ []) ≡ false
  pub ends_without : extends one_call (all_of one_call) (End ∷ []) ≡ false
  pub ends : extends one_call none_of (End ∷ []) ≡ true
