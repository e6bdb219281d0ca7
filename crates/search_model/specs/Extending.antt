-- Which partial tours some tour of a node begins with: in the subject's words, and as a test on where the
-- moves lead.
use Rattle.std.specs.Prelude.{◌≡◌, ℕ, ◌+◌, ◌<◌, ◌==◌, ◌&&◌, ◌||◌, not, List, Bool, true, false, nat_le, nat_lt, if◌then◌else◌, Option, Some, None}
use Rattle.std.specs.List.{list_all}
use Rattle.elevator_model.specs.declared.Stop.{Stop}
use Rattle.elevator_model.specs.declared.Move.{Move}
use Rattle.elevator_model.specs.declared.Rule.TheVariants.{UselessStop}
use Rattle.call_sets.specs.Counting.{any_below, sum_where}
use Rattle.elevator_model.specs.Snapshot.{Snapshot, IsAccepted, call_count, car_count, call_of, spec_of}
use Rattle.elevator_model.specs.Tours.{Progress, make_stop, breaks, none_taken, boards_at, overtakes, is_later_in_queue, is_call_for, rider_count}
use Rattle.elevator_model.specs.Tours.{destination_of, persons_where, persons_of}
use Rattle.elevator_model.specs.Partial.{Course, course_of}
use Rattle.search_model.specs.Orders.{BeginsWith, AreAllowed}
use Rattle.search_model.specs.Nodes.{IsTourWithin}

-- some feasible tour that boards each required call, and allowed calls only, begins with these moves
abbrev pub IsExtendable : Snapshot → ℕ → (allowed required : ℕ → Bool) → List Move → Type 0
IsExtendable s c allowed required moves = (tour : List Stop) × IsTourWithin s c allowed required tour × BeginsWith s tour moves

-- required calls are allowed, and allowed ones are calls of which the car is a possible car
pub record IsDemand (s : Snapshot) (c : ℕ) (allowed required : ℕ → Bool) : Type 0 where
  pub within : (j : ℕ) → required j ≡ true → allowed j ≡ true
  pub possible : (j : ℕ) → allowed j ≡ true → is_call_for s c j ≡ true

-- ---- as a test

-- the call has to board and has not
abbrev pub waits : (required : ℕ → Bool) → Progress → ℕ → Bool
waits required p j = required j && not (p.boarded j)

-- some call for which the car still has to come passes
abbrev pub any_waits : Snapshot → (required : ℕ → Bool) → Progress → Bool
any_waits s required p = any_below (call_count s) (waits required p)

-- riders who go to floors above the car, or below it
abbrev pub goes_above : Snapshot → Progress → ℕ → Bool
goes_above s p r = p.carried r && nat_lt p.floor (destination_of s r)

abbrev pub goes_below : Snapshot → Progress → ℕ → Bool
goes_below s p r = p.carried r && nat_lt (destination_of s r) p.floor

abbrev pub any_above : Snapshot → Progress → Bool
any_above s p = any_below (rider_count s) (goes_above s p)

abbrev pub any_under : Snapshot → Progress → Bool
any_under s p = any_below (rider_count s) (goes_below s p)

-- a later call of the queue of call j boards at the stop
abbrev pub is_passed_at : Snapshot → Stop → ℕ → Bool
is_passed_at s stop j = any_below (call_count s) (λ k. boards_at s stop k && is_later_in_queue (call_of s k) (call_of s j))

-- the required call has to board at this stop, since a later one of its queue does
abbrev pub has_to_board : Snapshot → (required : ℕ → Bool) → Progress → Stop → ℕ → Bool
has_to_board s required p stop j = waits required p j && is_passed_at s stop j

-- an earlier required call of the queue of call j has not boarded
abbrev pub passes_some : Snapshot → (required : ℕ → Bool) → Progress → ℕ → Bool
passes_some s required p j = any_below (call_count s) (λ i. waits required p i && is_later_in_queue (call_of s j) (call_of s i))

-- the call goes the way of all that are carried
abbrev pub goes_along : Snapshot → Progress → ℕ → Bool
goes_along s p j = if nat_lt p.floor (destination_of s j) then not (any_under s p) else not (any_above s p)

-- the call can board at a stop where nothing useful has happened; q is where the car was before the stop, p
-- where it is after it
abbrev pub gives_use : Snapshot → ℕ → (allowed required : ℕ → Bool) → (q p : Progress) → ℕ → Bool
gives_use s c allowed required q p j =
    allowed j && not (p.boarded j) && ((call_of s j).origin == p.floor) && not (overtakes s q j) && not (passes_some s required p j) && goes_along s p j
    && nat_le (persons_where s p.carried + persons_of s j) (spec_of s c).capacity

abbrev pub is_one_way : Snapshot → Progress → Bool
is_one_way s p = not (any_above s p && any_under s p)

abbrev pub none_left : Snapshot → (required : ℕ → Bool) → (q p : Progress) → Bool
none_left s required q p = not (any_below (call_count s) (λ j. waits required p j && overtakes s q j))

abbrev pub none_skipped : Snapshot → (required : ℕ → Bool) → Progress → Stop → Bool
none_skipped s required p stop = not (any_below (call_count s) (λ j. has_to_board s required p stop j && not (list_all (λ i. nat_lt i j) stop.boards)))

-- the persons of the calls that pass
abbrev pub persons_due : Snapshot → (ℕ → Bool) → ℕ
persons_due s test = sum_where (call_count s) test (persons_of s)

abbrev pub all_fit : Snapshot → ℕ → (required : ℕ → Bool) → Progress → Stop → Bool
all_fit s c required p stop = nat_le (persons_where s p.carried + persons_due s (has_to_board s required p stop)) (spec_of s c).capacity

abbrev pub has_use : Snapshot → ℕ → (allowed required : ℕ → Bool) → (q p : Progress) → Stop → Bool
has_use s c allowed required q p stop = not (breaks s c none_taken q stop UselessStop) || any_below (call_count s) (gives_use s c allowed required q p)

-- from the present stop, made after q, some tour of the node can go on
abbrev pub can_go_on : Snapshot → ℕ → (allowed required : ℕ → Bool) → Progress → Stop → Bool
can_go_on s c allowed required q stop =
    let p = make_stop s c q stop in
    is_one_way s p && none_left s required q p && none_skipped s required p stop && all_fit s c required p stop && has_use s c allowed required q p stop

abbrev pub can_go_on_at : Snapshot → ℕ → (allowed required : ℕ → Bool) → (ended : Bool) → Progress → Option Stop → Bool
can_go_on_at s c allowed required true q present = not (any_waits s required q)
can_go_on_at s c allowed required false q None = true
can_go_on_at s c allowed required false q (Some stop) = can_go_on s c allowed required q stop

-- some tour of the node begins with the moves that lead here
abbrev pub can_be_extended : Snapshot → ℕ → (allowed required : ℕ → Bool) → Course → Bool
can_be_extended s c allowed required x = can_go_on_at s c allowed required x.ended x.before x.present

-- The test says exactly which partial tours can be extended.
pub record TestsExtendable (s : Snapshot) (c : ℕ) (allowed required : ℕ → Bool) (moves : List Move) (x : Course) : Type 0 where
  pub sound : can_be_extended s c allowed required x ≡ true → IsExtendable s c allowed required moves
  pub complete : IsExtendable s c allowed required moves → can_be_extended s c allowed required x ≡ true

abbrev pub ExtendingLaw : Type 0
ExtendingLaw = (s : Snapshot) (c : ℕ) (allowed required : ℕ → Bool) (moves : List Move) (x : Course) → IsAccepted s → c < car_count s
    → IsDemand s c allowed required → AreAllowed allowed moves → course_of s c moves ≡ Some x → TestsExtendable s c allowed required moves x
