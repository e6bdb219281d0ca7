-- Completion bounds: what each feasible tour that begins with a partial tour costs at least, in thousandths
-- of a cost unit and without the prices of its calls.
use Rattle.std.specs.Prelude.{◌≡◌, ◌<◌, ◌≤ℤ◌, true, List, Some, ℕ, ◌+◌, ◌&&◌, not, ℤ, pos, ◌+ℤ◌, ◌-ℤ◌, int_lt, Bool, if◌then◌else◌}
use Rattle.call_sets.specs.Counting.{sum_where}
use Rattle.elevator_model.specs.Travel.{time_between}
use Rattle.elevator_model.specs.Snapshot.{Snapshot, IsAccepted, car_count, call_count, call_of}
use Rattle.elevator_model.specs.Tours.{Progress, rider_count, destination_of}
use Rattle.elevator_model.specs.Costs.{cost_of_rider, settled_cost}
use Rattle.elevator_model.specs.Partial.{Course, course_of, move_on, boards_allowed, progress_after, settled_of}
use Rattle.search_model.specs.Sums.{int_sum_where}
use Rattle.elevator_model.specs.declared.Move.{Move}
use Rattle.elevator_model.specs.declared.Stop.{Stop}
use Rattle.search_model.specs.Orders.{BeginsWith, AreAllowed}
use Rattle.search_model.specs.Nodes.{IsTourWithin}
use Rattle.search_model.specs.Prices.{scaled, value_of}

-- what a rider carried costs if the car went straight to the destination
abbrev pub cost_if_straight : Snapshot → Progress → ℕ → ℕ
cost_if_straight s p r =
    cost_of_rider s r (p.boarded_at r) (p.opened + time_between s.building.travel p.floor (destination_of s r))

-- what a call costs if it boarded at the moment m and rode straight to its destination
abbrev pub cost_if_alone : Snapshot → (j m : ℕ) → ℕ
cost_if_alone s j m = cost_of_rider s j m (m + time_between s.building.travel (call_of s j).origin (call_of s j).destination)

-- what a call that has not boarded adds: a call that is not required counts only where that lowers the bound
abbrev pub waiting_term : Snapshot → (price : ℕ → ℤ) → (required : ℕ → Bool) → Progress → ℕ → ℤ
waiting_term s price required p j =
    let term = scaled (cost_if_alone s j p.opened) -ℤ price j in
    if required j then term else (if int_lt term (pos 0) then term else pos 0)

-- The cost of those who got off; that of those carried, if the car went straight to each destination; and
-- for each allowed call that has not boarded what it adds; without the prices of the calls that boarded.
abbrev pub bound_after : Snapshot → ℕ → (price : ℕ → ℤ) → (allowed required : ℕ → Bool) → Progress → ℤ
bound_after s c price allowed required p =
    ((scaled (settled_cost s c p) +ℤ scaled (sum_where (rider_count s) p.carried (cost_if_straight s p))) -ℤ int_sum_where (call_count s) p.boarded price) +ℤ
    int_sum_where (call_count s) (λ j. allowed j && not (p.boarded j)) (waiting_term s price required p)

abbrev pub completion_bound : Snapshot → ℕ → (price : ℕ → ℤ) → (allowed required : ℕ → Bool) → Course → ℤ
completion_bound s c price allowed required x = bound_after s c price allowed required (progress_after s c x.before x.present)

-- ---- laws

-- It is at most the value of each feasible tour that begins with the moves, boards each required call, and
-- allowed calls only.
abbrev pub LowerLaw : Type 0
LowerLaw =
    (s : Snapshot) (c : ℕ) (price : ℕ → ℤ) (allowed required : ℕ → Bool) (moves : List Move) (x : Course) (tour : List Stop) → IsAccepted s → c < car_count s
    → course_of s c moves ≡ Some x → BeginsWith s tour moves → IsTourWithin s c allowed required tour
    → completion_bound s c price allowed required x ≤ℤ value_of s c price tour

-- One move more, where boards are of allowed calls, makes it no smaller.
abbrev pub GrowthLaw : Type 0
GrowthLaw =
    (s : Snapshot) (c : ℕ) (price : ℕ → ℤ) (allowed required : ℕ → Bool) (moves : List Move) (x y : Course) (m : Move) → IsAccepted s → c < car_count s
    → AreAllowed allowed moves → boards_allowed allowed m ≡ true → course_of s c moves ≡ Some x → move_on s c x m ≡ Some y
    → completion_bound s c price allowed required x ≤ℤ completion_bound s c price allowed required y

abbrev pub positive_part : ℤ → ℤ
positive_part z = if int_lt z (pos 0) then pos 0 else z

-- It is at least what is settled without the prices of the calls that boarded and the positive prices of the
-- other allowed calls.
abbrev pub LeastLaw : Type 0
LeastLaw =
    (s : Snapshot) (c : ℕ) (price : ℕ → ℤ) (allowed required : ℕ → Bool) (moves : List Move) (x : Course) → IsAccepted s → c < car_count s
    → AreAllowed allowed moves → course_of s c moves ≡ Some x → let p = progress_after s c x.before x.present in
    ((scaled (settled_of s c x) -ℤ int_sum_where (call_count s) p.boarded price) -ℤ int_sum_where (call_count s) (λ j. allowed j && not (p.boarded j))
    (λ j. positive_part (price j))) ≤ℤ completion_bound s c price allowed required x

-- Fewer allowed and more required calls, the required ones being allowed, make it no smaller.
abbrev pub NarrowLaw : Type 0
NarrowLaw =
    (s : Snapshot) (c : ℕ) (price : ℕ → ℤ) (allowed required allowed' required' : ℕ → Bool) (x : Course) → ((j : ℕ) → allowed' j ≡ true → allowed j ≡ true)
    → ((j : ℕ) → required j ≡ true → required' j ≡ true) → ((j : ℕ) → required' j ≡ true → allowed' j ≡ true)
    → completion_bound s c price allowed required x ≤ℤ completion_bound s c price allowed' required' x
