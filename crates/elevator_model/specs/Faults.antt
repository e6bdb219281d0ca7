-- The first fault of a building and of a snapshot. At one item the faults are tested in this order.
use Rattle.std.specs.Prelude.{◌++◌, ℕ, ◌+◌, ◌^◌, ◌==◌, ◌&&◌, ◌||◌, not, List, [], ◌∷◌, length, Bool, true, false, nat_le, nat_lt, slice_index_or, if◌then◌else◌}
use Rattle.std.specs.Prelude.{Option, Some, None, sum_by}
use Rattle.std.specs.List.{list_any}
use Rattle.elevator_model.specs.declared.CarSpec.{CarSpec}
use Rattle.elevator_model.specs.declared.CarState.{CarState}
use Rattle.elevator_model.specs.declared.CarState.TheVariants.{Idle, Coming, Moving}
use Rattle.elevator_model.specs.declared.Aboard.{Aboard}
use Rattle.elevator_model.specs.declared.Call.{Call}
use Rattle.elevator_model.specs.declared.Fault.{Fault}
use Rattle.elevator_model.specs.declared.Fault.TheVariants.{OutOfRange, NotRising, IdUsedBefore, NoSuchFloor, OriginIsDestination, NoPossibleCar, PinCannotTake}
use Rattle.elevator_model.specs.declared.Fault.TheVariants.{WrongSide, OverCapacity, MomentOutOfRange, TooManyCalls, TooManyCars, NotServed, PersonsOutOfRange}
use Rattle.elevator_model.specs.declared.Fault.TheVariants.{NoOpenFloor}
use Rattle.call_sets.specs.Counting.{has, any_below, sum_where}
use Rattle.elevator_model.specs.Building.{Building, floor_count, car_of, most_calls, most_cars}
use Rattle.elevator_model.specs.Snapshot.{Snapshot, floor_of, serves, is_open, can_take, no_state}

-- the first fault that is there, of a list of tests in their order
abbrev pub first_of_tests : List (Bool × Fault) → Option Fault
first_of_tests [] = None
first_of_tests (t ∷ ts) = if t.0 then Some t.1 else first_of_tests ts

-- Of a car, after the cars before it.
abbrev pub fault_of_spec : (floors greatest : ℕ) → List CarSpec → CarSpec → Option Fault
fault_of_spec floors greatest before car =
    first_of_tests
    ((
      not (nat_le 1 car.capacity && nat_le car.capacity 64 && nat_le car.opening 60000 && nat_le car.closing 60000 && nat_le car.boarding 60000
          && nat_le car.alighting 60000),
      OutOfRange,
    )
    ∷ (list_any (λ (x : CarSpec). x.id == car.id) before, IdUsedBefore)
    ∷ (nat_le (2 ^ floors) car.serves, NoSuchFloor)
    ∷ (nat_le greatest (length before), TooManyCars)
    ∷ (nat_lt (sum_where floors (has car.serves) (λ _. 1)) 2, NotServed)
    ∷ [])

abbrev pub is_rising : List ℕ → Bool
is_rising [] = true
is_rising (x ∷ []) = true
is_rising (x ∷ y ∷ ys) = nat_lt x y && is_rising (y ∷ ys)

abbrev pub is_within : ℕ → ℕ → ℕ → Bool
is_within low high n = nat_le low n && nat_le n high

abbrev pub in_ranges : Building → Bool
in_ranges b =
    is_within 1 3 b.version && is_within 2 64 (floor_count b) && not (list_any (λ h. nat_lt 1000000 h) b.heights) && is_within 100 20000 b.speed
    && is_within 100 5000 b.accel && nat_le b.wait_weight 1000 && nat_le b.travel_weight 1000 && nat_le b.patience 1000000000
    && nat_le b.patience_weight 1000 && (not (b.version == 1) || (b.patience + b.patience_weight == 0)) && (b.travel.floors == floor_count b)
    && nat_lt 0 (length b.cars)

-- Of the building itself.
abbrev pub fault_of_frame : Building → Option Fault
fault_of_frame b = first_of_tests ((not (in_ranges b), OutOfRange) ∷ (not (is_rising b.heights), NotRising) ∷ [])

-- a fault and the place of its item
abbrev pub Placed : Type 0
Placed = Fault × ℕ

abbrev pub fault_or : Option Fault → ℕ → Option Placed → Option Placed
fault_or None k later = later
fault_or (Some fault) k later = Some (fault, k)

-- The first fault of a list of items, of which the first has the place k; each is judged after those
-- before it.
abbrev pub first_in : {X : Type 0} → (List X → X → Option Fault) → (before items : List X) → ℕ → Option Placed
first_in fault before [] k = None
first_in fault before (x ∷ xs) k = fault_or (fault before x) k (first_in fault (before ++ x ∷ []) xs (k + 1))

abbrev pub first_found : Option Placed → Option Placed → Option Placed
first_found None later = later
first_found (Some found) later = Some found

-- The building itself has the place 0, and its cars are counted from 1.
abbrev pub first_fault_of_building : Building → Option Placed
first_fault_of_building b =
    fault_or (fault_of_frame b) 0 (first_in (fault_of_spec (floor_count b) (most_cars b.version)) [] b.cars 1)

abbrev pub is_untimely : ℕ → CarState → Bool
is_untimely t (Idle floor free) = nat_lt free t || nat_lt (t + 100000000) free
is_untimely t (Coming floor arrives) = nat_lt arrives t || nat_lt (t + 100000000) arrives
is_untimely t (Moving from up left) = nat_lt t left

abbrev pub has_no_open_floor : Building → ℕ → ℕ → CarState → Bool
has_no_open_floor b t c (Idle floor free) = false
has_no_open_floor b t c (Coming floor arrives) = false
has_no_open_floor b t c (Moving from up left) = not (any_below (floor_count b) (is_open b c t (Moving from up left)))

-- Of the state of car c, at the moment t.
abbrev pub fault_of_state : Building → (t c : ℕ) → CarState → Option Fault
fault_of_state b t c state =
    first_of_tests
    ((nat_le (floor_count b) (floor_of state), NoSuchFloor)
    ∷ (is_untimely t state, MomentOutOfRange)
    ∷ (not (serves b c (floor_of state)), NotServed)
    ∷ (has_no_open_floor b t c state, NoOpenFloor)
    ∷ [])

-- two destinations on different sides of a floor, neither being that floor
abbrev pub are_apart : ℕ → ℕ → ℕ → Bool
are_apart floor f g = (nat_lt f floor && nat_lt floor g) || (nat_lt g floor && nat_lt floor f)

-- The destination is on the wrong side, given those of the car's groups before.
abbrev pub is_on_wrong_side : Building → (t c : ℕ) → CarState → List Aboard → ℕ → Bool
is_on_wrong_side b t c (Idle floor free) before g =
    (g == floor) || list_any (λ (x : Aboard). (x.car == c) && are_apart floor x.destination g) before
is_on_wrong_side b t c (Coming floor arrives) before g = list_any (λ (x : Aboard). (x.car == c) && are_apart floor x.destination g) before
is_on_wrong_side b t c (Moving from up left) before g = not (is_open b c t (Moving from up left) g)

-- the persons of the groups of car c
abbrev pub persons_in : ℕ → List Aboard → ℕ
persons_in c groups = sum_by (λ (x : Aboard). if x.car == c then x.persons else 0) groups

-- Of a group aboard, after the groups before it.
abbrev pub fault_of_group : Building → ℕ → List CarState → List Aboard → Aboard → Option Fault
fault_of_group b t states before group =
    first_of_tests
    ((list_any (λ (x : Aboard). x.id == group.id) before, IdUsedBefore)
    ∷ (nat_le (floor_count b) group.destination, NoSuchFloor)
    ∷ (is_on_wrong_side b t group.car (slice_index_or states group.car no_state) before group.destination, WrongSide)
    ∷ (nat_lt (car_of b group.car).capacity (persons_in group.car before + group.persons), OverCapacity)
    ∷ (nat_lt (t + (car_of b group.car).opening) group.boarded, MomentOutOfRange)
    ∷ (not (serves b group.car group.destination), NotServed)
    ∷ (not (is_within 1 8 group.persons), PersonsOutOfRange)
    ∷ [])

abbrev pub can_take_pinned : Building → Option ℕ → Call → Bool
can_take_pinned b None call = true
can_take_pinned b (Some c) call = can_take b c call

abbrev pub is_pinned : Option ℕ → Bool
is_pinned None = false
is_pinned (Some c) = true

-- Of a call, after the groups aboard and the calls before it.
abbrev pub fault_of_call : Building → ℕ → List Aboard → List Call → Call → Option Fault
fault_of_call b t aboard before call =
    first_of_tests
    ((list_any (λ (x : Aboard). x.id == call.id) aboard || list_any (λ (x : Call). x.id == call.id) before, IdUsedBefore)
    ∷ (nat_le (floor_count b) call.origin || nat_le (floor_count b) call.destination, NoSuchFloor)
    ∷ (call.origin == call.destination, OriginIsDestination)
    ∷ (not (is_pinned call.pin) && not (any_below (length b.cars) (λ c. can_take b c call)), NoPossibleCar)
    ∷ (not (can_take_pinned b call.pin call), PinCannotTake)
    ∷ (nat_lt t call.released, MomentOutOfRange)
    ∷ (nat_le (most_calls b.version) (length before), TooManyCalls)
    ∷ (not (is_within 1 8 call.persons), PersonsOutOfRange)
    ∷ [])

-- The first fault of a snapshot whose building has none: through the cars, the groups aboard and the
-- calls, whose places are counted through, from 1. A state is judged alone, so the car is its place.
abbrev pub first_fault_of_snapshot : Snapshot → Option Placed
first_fault_of_snapshot s =
    first_found (first_in (λ (before : List CarState) state. fault_of_state s.building s.moment (length before) state) [] s.states 1)
    (first_found (first_in (fault_of_group s.building s.moment s.states) [] s.aboard (1 + length s.states))
    (first_in (fault_of_call s.building s.moment s.aboard) [] s.calls (1 + length s.states + length s.aboard)))
