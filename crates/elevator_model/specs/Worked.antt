-- Worked cases, against which the definitions are checked: four floors 4000 mm apart, 2000 mm/s,
-- 1000 mm/s², weights 1 and 1, doors 1000 ms each way, 500 ms for each person on or off.
use Rattle.std.specs.Prelude.{◌≡◌, ℕ, zero, suc, ◌+◌, List, [], ◌∷◌, ◌++◌, true, Option, Some, None, option_map}
use Rattle.elevator_model.specs.declared.CarSpec.{CarSpec}
use Rattle.elevator_model.specs.declared.CarState.{CarState}
use Rattle.elevator_model.specs.declared.CarState.TheVariants.{Idle, Coming, Moving}
use Rattle.elevator_model.specs.declared.Aboard.{Aboard}
use Rattle.elevator_model.specs.declared.Call.{Call}
use Rattle.elevator_model.specs.declared.Stop.{Stop}
use Rattle.elevator_model.specs.declared.Times.{Times}
use Rattle.elevator_model.specs.declared.Move.{Move}
use Rattle.elevator_model.specs.declared.Move.TheVariants.{Board, Leave, End}
use Rattle.elevator_model.specs.declared.Fault.{Fault}
use Rattle.elevator_model.specs.declared.Rule.{Rule}
use Rattle.elevator_model.specs.declared.Rule.TheVariants.{FirstStop, SameFloorTwice, UselessStop, TurnWithPassengers, Capacity, QueueOrder, Car, Floor}
use Rattle.elevator_model.specs.declared.Rule.TheVariants.{Delivery, CallTwice, Origin, Unserved}
use Rattle.elevator_model.specs.Travel.{Square}
use Rattle.elevator_model.specs.Building.{Building}
use Rattle.elevator_model.specs.Snapshot.{Snapshot}
use Rattle.elevator_model.specs.declared.Fault.TheVariants.{OutOfRange, NotRising, IdUsedBefore, NoSuchFloor, OriginIsDestination, NoPossibleCar, PinCannotTake}
use Rattle.elevator_model.specs.declared.Fault.TheVariants.{WrongSide, OverCapacity, MomentOutOfRange, TooManyCalls, TooManyCars, NotServed, PersonsOutOfRange}
use Rattle.elevator_model.specs.declared.Fault.TheVariants.{NoOpenFloor}
use Rattle.elevator_model.specs.Faults.{first_fault_of_building, first_fault_of_snapshot}
use Rattle.elevator_model.specs.Tours.{first_broken}
use Rattle.elevator_model.specs.Costs.{cost_of, timeline_of}
use Rattle.elevator_model.specs.Plans.{first_bad, plan_cost_of}
use Rattle.elevator_model.specs.Partial.{course_of, settled_of, moment_in}

abbrev pub four_floors : Square
four_floors = record {
  floors = 4;
  times = 0 ∷ 4000 ∷ 6000 ∷ 8000 ∷ 4000 ∷ 0 ∷ 4000 ∷ 6000 ∷ 6000 ∷ 4000 ∷ 0 ∷ 4000 ∷ 8000 ∷ 6000 ∷ 4000 ∷ 0 ∷ [];
}

abbrev pub car_for : ℕ → CarSpec
car_for capacity = record { id = 1; capacity = capacity; opening = 1000; closing = 1000; boarding = 500; alighting = 500; serves = 15 }

abbrev pub building_with : CarSpec → Building
building_with car = record {
  version = 1;
  heights = 0 ∷ 4000 ∷ 8000 ∷ 12000 ∷ [];
  speed = 2000;
  accel = 1000;
  wait_weight = 1;
  travel_weight = 1;
  patience = 0;
  patience_weight = 0;
  cars = car ∷ [];
  travel = four_floors;
}

abbrev pub call : (id origin destination persons : ℕ) → Call
call id origin destination persons = record { id = id; origin = origin; destination = destination; persons = persons; released = 0; pin = None }

abbrev pub shown : (version moment : ℕ) → (capacity : ℕ) → CarState → List Aboard → List Call → Snapshot
shown version moment capacity state aboard calls = record {
  version = version;
  building = building_with (car_for capacity);
  moment = moment;
  states = state ∷ [];
  aboard = aboard;
  calls = calls;
}

abbrev pub stop : ℕ → List ℕ → Stop
stop floor boards = record { floor = floor; boards = boards }

-- a tour breaks no rule and has this cost
abbrev pub Costs : Snapshot → List Stop → ℕ → Type 0
Costs s tour cost = (first_broken s 0 tour ≡ None) × (cost_of s 0 tour ≡ cost)

-- a tour breaks this rule first, at this stop
abbrev pub Breaks : Snapshot → List Stop → ℕ → Rule → Type 0
Breaks s tour k rule = first_broken s 0 tour ≡ Some (record { stop = k; rule = rule })

abbrev pub one_call : Snapshot
one_call = shown 1 0 8 (Idle 0 0) [] (call 1 0 1 1 ∷ [])

abbrev pub two_ways : Snapshot
two_ways = shown 1 0 8 (Idle 1 0) [] (call 1 1 2 1 ∷ call 2 1 0 1 ∷ [])

abbrev pub one_queue : Snapshot
one_queue = shown 1 0 1 (Idle 0 0) [] (call 1 0 3 1 ∷ call 2 0 1 1 ∷ [])

abbrev pub together : Snapshot
together = shown 1 0 2 (Idle 0 0) [] (call 1 0 1 1 ∷ call 2 0 1 1 ∷ [])

abbrev pub three_persons : Snapshot
three_persons = shown 1 0 2 (Idle 0 0) [] (call 1 0 1 2 ∷ call 2 0 1 1 ∷ [])

abbrev pub rising_group : Snapshot
rising_group = shown 1 0 8 (Idle 0 0) (record { id = 9; car = 0; destination = 3; persons = 1; boarded = 0 } ∷ []) (call 1 1 2 1 ∷ [])

abbrev pub moving_at : ℕ → Snapshot
moving_at t = shown 2 t 8 (Moving 0 true 0) [] (record { id = 1; origin = 1; destination = 2; persons = 1; released = t; pin = None } ∷ [])

abbrev pub coming : Snapshot
coming = shown 1 0 8 (Coming 1 3000) [] (call 1 1 2 1 ∷ [])

-- what the feasible tours of the worked cases cost
pub record AreCosts : Type 0 where
  pub in_one_call : Costs one_call (stop 0 (0 ∷ []) ∷ stop 1 [] ∷ []) 7500
  pub in_two_ways : Costs two_ways (stop 1 (0 ∷ []) ∷ stop 2 [] ∷ stop 1 (1 ∷ []) ∷ stop 0 [] ∷ []) 28000
  pub in_one_queue : Costs one_queue (stop 0 (0 ∷ []) ∷ stop 3 [] ∷ stop 0 (1 ∷ []) ∷ stop 1 [] ∷ []) 40000
  -- what the order that queue order forbids would cost
  pub other_order : cost_of one_queue 0 (stop 0 (1 ∷ []) ∷ stop 1 [] ∷ stop 0 (0 ∷ []) ∷ stop 3 [] ∷ []) ≡ 32000
  pub in_together : Costs together (stop 0 (0 ∷ 1 ∷ []) ∷ stop 1 [] ∷ []) 16000
  pub in_three_persons : Costs three_persons (stop 0 (0 ∷ []) ∷ stop 1 [] ∷ stop 0 (1 ∷ []) ∷ stop 1 [] ∷ []) 37500
  pub pick_up_first : Costs rising_group (stop 1 (0 ∷ []) ∷ stop 2 [] ∷ stop 3 [] ∷ []) 29500
  pub deliver_first : Costs rising_group (stop 3 [] ∷ stop 1 (0 ∷ []) ∷ stop 2 [] ∷ []) 33000
  pub in_coming : Costs coming (stop 1 (0 ∷ []) ∷ stop 2 [] ∷ []) 10500
  pub moving : Costs (moving_at 1000) (stop 1 (0 ∷ []) ∷ stop 2 [] ∷ []) 10500
  pub just_open : Costs (moving_at 2000) (stop 1 (0 ∷ []) ∷ stop 2 [] ∷ []) 9500
  pub too_late : Costs (moving_at 2001) (stop 2 [] ∷ stop 1 (0 ∷ []) ∷ stop 2 [] ∷ []) 17499

-- each rule of a tour, broken once
pub record AreBroken : Type 0 where
  pub coming_elsewhere : Breaks coming (stop 2 [] ∷ []) 1 FirstStop
  pub coming_nowhere : Breaks coming [] 1 FirstStop
  pub moving_past : Breaks (moving_at 2001) (stop 1 (0 ∷ []) ∷ stop 2 [] ∷ []) 1 FirstStop
  pub same_floor : Breaks one_call (stop 0 [] ∷ []) 1 UselessStop
  pub twice_there : Breaks one_call (stop 0 (0 ∷ []) ∷ stop 0 [] ∷ stop 1 [] ∷ []) 2 SameFloorTwice
  pub turn : Breaks two_ways (stop 1 (0 ∷ 1 ∷ []) ∷ stop 2 [] ∷ stop 0 [] ∷ []) 2 TurnWithPassengers
  pub past_a_destination : Breaks (shown 1 0 8 (Idle 0 0) [] (call 1 0 1 1 ∷ call 2 0 2 1 ∷ []))
      (stop 0 (0 ∷ 1 ∷ []) ∷ stop 2 [] ∷ stop 1 [] ∷ []) 2 TurnWithPassengers
  pub below_a_destination : Breaks (shown 1 0 8 (Idle 3 0) [] (call 1 3 2 1 ∷ call 2 3 1 1 ∷ []))
      (stop 3 (0 ∷ 1 ∷ []) ∷ stop 1 [] ∷ stop 2 [] ∷ []) 2 TurnWithPassengers
  pub capacity : Breaks three_persons (stop 0 (0 ∷ 1 ∷ []) ∷ stop 1 [] ∷ []) 1 Capacity
  pub queue : Breaks one_queue (stop 0 (1 ∷ []) ∷ stop 1 [] ∷ stop 0 (0 ∷ []) ∷ stop 3 [] ∷ []) 3 QueueOrder
  pub no_call : Breaks one_call (stop 0 (0 ∷ 5 ∷ []) ∷ stop 1 [] ∷ []) 1 Car
  pub no_floor : Breaks one_call (stop 0 (0 ∷ []) ∷ stop 1 [] ∷ stop 7 [] ∷ []) 3 UselessStop
  pub floor : Breaks one_call (stop 9 (0 ∷ []) ∷ stop 1 [] ∷ []) 1 Floor
  pub delivery : Breaks one_call (stop 0 (0 ∷ []) ∷ []) 2 Delivery
  pub twice : Breaks one_call (stop 0 (0 ∷ 0 ∷ []) ∷ stop 1 [] ∷ []) 1 CallTwice
  pub again : Breaks one_call (stop 0 (0 ∷ []) ∷ stop 1 [] ∷ stop 0 (0 ∷ []) ∷ stop 1 [] ∷ []) 3 CallTwice
  pub place : Breaks one_call (stop 2 (0 ∷ []) ∷ stop 1 [] ∷ []) 1 Origin

-- the case of one call in a building with patience
abbrev pub impatient : (patience weight : ℕ) → Snapshot
impatient patience weight = record {
  version = 1;
  building = record {
    version = 2;
    heights = 0 ∷ 4000 ∷ 8000 ∷ 12000 ∷ [];
    speed = 2000;
    accel = 1000;
    wait_weight = 1;
    travel_weight = 1;
    patience = patience;
    patience_weight = weight;
    cars = car_for 8 ∷ [];
    travel = four_floors;
  };
  moment = 0;
  states = Idle 0 0 ∷ [];
  aboard = [];
  calls = call 1 0 1 1 ∷ [];
}

-- each wait of 1000 ms counts three times more from 500 ms on, and not at all from 1000 ms on
pub record ArePatient : Type 0 where
  pub waits_on : Costs (impatient 500 3) (stop 0 (0 ∷ []) ∷ stop 1 [] ∷ []) 9000
  pub in_time : Costs (impatient 1000 3) (stop 0 (0 ∷ []) ∷ stop 1 [] ∷ []) 7500

abbrev pub car_named : (id capacity serves : ℕ) → CarSpec
car_named id capacity serves = record { id = id; capacity = capacity; opening = 1000; closing = 1000; boarding = 500; alighting = 500; serves = serves }

abbrev pub building_of_cars : (version : ℕ) → List CarSpec → Building
building_of_cars version cars = record {
  version = version;
  heights = 0 ∷ 4000 ∷ 8000 ∷ 12000 ∷ [];
  speed = 2000;
  accel = 1000;
  wait_weight = 1;
  travel_weight = 1;
  patience = 0;
  patience_weight = 0;
  cars = cars;
  travel = four_floors;
}

-- cars 1 and 2 of these capacities, each serving all floors
abbrev pub pair : (first second : ℕ) → List CarState → List Call → Snapshot
pair first second states calls = record {
  version = 1;
  building = building_of_cars 1 (car_named 1 first 15 ∷ car_named 2 second 15 ∷ []);
  moment = 0;
  states = states;
  aboard = [];
  calls = calls;
}

-- a plan has no bad place and this cost
abbrev pub PlanCosts : Snapshot → List (List Stop) → ℕ → Type 0
PlanCosts s plan cost = (first_bad s plan ≡ None) × (plan_cost_of s plan ≡ cost)

abbrev pub BadAt : Snapshot → List (List Stop) → (car stop : ℕ) → Rule → Type 0
BadAt s plan car stop rule = first_bad s plan ≡ Some (record { car = car; stop = stop; rule = rule })

abbrev pub idle_and_coming : Snapshot
idle_and_coming = pair 8 8 (Idle 0 0 ∷ Coming 3 2000 ∷ []) []

abbrev pub pinned : Snapshot
pinned = pair 8 8 (Idle 0 0 ∷ Idle 3 0 ∷ []) (record { id = 1; origin = 0; destination = 1; persons = 1; released = 0; pin = Some 1 } ∷ [])

-- two calls up and two calls down between the lowest floor and the third one, and cars for one and two persons
abbrev pub up_and_down : Snapshot
up_and_down = pair 1 2 (Idle 0 0 ∷ Idle 1 0 ∷ []) (call 1 0 2 1 ∷ call 2 0 2 1 ∷ call 3 2 0 1 ∷ call 4 2 0 1 ∷ [])

abbrev pub two_down_one_up : List Stop
two_down_one_up = stop 2 (2 ∷ 3 ∷ []) ∷ stop 0 (1 ∷ []) ∷ stop 2 [] ∷ []

-- plans of several cars: their costs, and the first bad place
pub record ArePlans : Type 0 where
  pub lone_stop : PlanCosts idle_and_coming ([] ∷ (stop 3 [] ∷ []) ∷ []) 0
  pub pin : PlanCosts pinned ([] ∷ (stop 0 (0 ∷ []) ∷ stop 1 [] ∷ []) ∷ []) 15500
  pub shared : PlanCosts up_and_down ((stop 0 (0 ∷ []) ∷ stop 2 [] ∷ []) ∷ two_down_one_up ∷ []) 61000
  pub one_alone : cost_of up_and_down 0 (stop 0 (0 ∷ []) ∷ stop 2 [] ∷ []) ≡ 9500
  pub three_alone : cost_of up_and_down 1 two_down_one_up ≡ 51500
  pub no_lone_stop : BadAt idle_and_coming ([] ∷ [] ∷ []) 1 1 FirstStop
  pub other_than_the_pin : BadAt pinned ((stop 0 (0 ∷ []) ∷ stop 1 [] ∷ []) ∷ [] ∷ []) 0 1 Car
  pub taken_twice : BadAt up_and_down ((stop 0 (1 ∷ []) ∷ stop 2 [] ∷ []) ∷ two_down_one_up ∷ []) 1 2 CallTwice
  pub left_out : BadAt up_and_down ([] ∷ two_down_one_up ∷ []) 2 0 Unserved
  pub rule_before_left_out : BadAt up_and_down ([] ∷ (stop 2 (2 ∷ 3 ∷ []) ∷ []) ∷ []) 1 2 Delivery

-- first faults, by their places
pub record AreFaults : Type 0 where
  pub none : first_fault_of_snapshot one_call ≡ None
  pub two_sides : first_fault_of_snapshot
      (shown 1 0 8 (Idle 1 0)
      (record { id = 8; car = 0; destination = 3; persons = 1; boarded = 0 } ∷ record { id = 9; car = 0; destination = 0; persons = 1; boarded = 0 } ∷ []) [])
      ≡ Some (WrongSide, 3)
  pub too_late : first_fault_of_snapshot (moving_at 6001) ≡ Some (NoOpenFloor, 1)
  pub no_car : first_fault_of_snapshot (shown 1 0 1 (Idle 0 0) [] (call 1 0 3 2 ∷ [])) ≡ Some (NoPossibleCar, 2)
  pub building : first_fault_of_building (building_with (car_for 8)) ≡ None
  pub capacity : first_fault_of_building (building_with (car_for 0)) ≡ Some (OutOfRange, 1)

abbrev pub with_heights : (heights : List ℕ) → Building
with_heights heights = record {
  version = 1;
  heights = heights;
  speed = 2000;
  accel = 1000;
  wait_weight = 1;
  travel_weight = 1;
  patience = 0;
  patience_weight = 0;
  cars = car_for 8 ∷ [];
  travel = four_floors;
}

-- cars with the ids 1 to n, in falling order
abbrev pub cars_to : ℕ → List CarSpec
cars_to zero = []
cars_to (suc n) = car_named (n + 1) 8 15 ∷ cars_to n

-- the first faults of buildings, each kind once, and where two stand together
pub record AreBuildingFaults : Type 0 where
  pub two_cars : first_fault_of_building (building_of_cars 1 (cars_to 2)) ≡ None
  pub no_version : first_fault_of_building (building_of_cars 4 (cars_to 2)) ≡ Some (OutOfRange, 0)
  pub no_cars : first_fault_of_building (building_of_cars 1 []) ≡ Some (OutOfRange, 0)
  pub patience_in_one : first_fault_of_building
      (record {
        version = 1;
        heights = 0 ∷ 4000 ∷ 8000 ∷ 12000 ∷ [];
        speed = 2000;
        accel = 1000;
        wait_weight = 1;
        travel_weight = 1;
        patience =
            0;
        patience_weight = 1;
        cars = cars_to 1;
        travel = four_floors;
      }) ≡ Some (OutOfRange, 0)
  pub slow : first_fault_of_building
      (record {
        version = 2;
        heights = 0 ∷ 4000 ∷ 8000 ∷ 12000 ∷ [];
        speed = 99;
        accel = 1000;
        wait_weight = 1;
        travel_weight = 1;
        patience =
            0;
        patience_weight = 1;
        cars = cars_to 1;
        travel = four_floors;
      }) ≡ Some (OutOfRange, 0)
  pub level : first_fault_of_building (with_heights (0 ∷ 4000 ∷ 4000 ∷ 12000 ∷ [])) ≡ Some (NotRising, 0)
  pub too_high_first : first_fault_of_building (with_heights (0 ∷ 4000 ∷ 4000 ∷ 1000001 ∷ [])) ≡ Some (OutOfRange, 0)
  pub other_floors : first_fault_of_building (with_heights (0 ∷ 4000 ∷ 8000 ∷ [])) ≡ Some (OutOfRange, 0)
  pub same_id : first_fault_of_building (building_of_cars 1 (car_named 1 8 15 ∷ car_named 1 8 16 ∷ [])) ≡ Some (IdUsedBefore, 2)
  pub fifth_floor : first_fault_of_building (building_of_cars 1 (car_named 1 8 17 ∷ car_named 1 8 15 ∷ [])) ≡ Some (NoSuchFloor, 1)
  pub one_floor : first_fault_of_building (building_of_cars 1 (car_named 1 8 4 ∷ [])) ≡ Some (NotServed, 1)
  pub eight : first_fault_of_building (building_of_cars 1 (cars_to 8)) ≡ None
  pub ninth : first_fault_of_building (building_of_cars 1 (cars_to 9)) ≡ Some (TooManyCars, 9)
  pub sixteen : first_fault_of_building (building_of_cars 3 (cars_to 16)) ≡ None
  pub seventeenth : first_fault_of_building (building_of_cars 2 (cars_to 17)) ≡ Some (TooManyCars, 17)
  pub ninth_with_the_first_id : first_fault_of_building (building_of_cars 1 (cars_to 8 ++ car_named 1 8 1 ∷ [])) ≡ Some (IdUsedBefore, 9)

abbrev pub group : (id destination persons boarded : ℕ) → Aboard
group id destination persons boarded = record { id = id; car = 0; destination = destination; persons = persons; boarded = boarded }

abbrev pub call_from : (id origin destination persons released : ℕ) → (pin : Option ℕ) → Call
call_from id origin destination persons released pin =
    record { id = id; origin = origin; destination = destination; persons = persons; released = released; pin = pin }

-- calls with the ids 1 to n, in falling order
abbrev pub calls_to : ℕ → List Call
calls_to zero = []
calls_to (suc n) = call (n + 1) 0 1 1 ∷ calls_to n

-- one car of 8 persons that serves the three lower floors, at the moment 5000
abbrev pub lower : CarState → List Aboard → List Call → Snapshot
lower state aboard calls = record {
  version = 2;
  building = building_of_cars 1 (car_named 1 8 7 ∷ []);
  moment = 5000;
  states = state ∷ [];
  aboard = aboard;
  calls = calls;
}

abbrev pub at_one : CarState
at_one = Idle 1 5000

abbrev pub FaultIs : Snapshot → Fault → ℕ → Type 0
FaultIs s fault place = first_fault_of_snapshot s ≡ Some (fault, place)

-- the first faults of cars' states
pub record AreStateFaults : Type 0 where
  pub none : first_fault_of_snapshot (lower at_one [] []) ≡ None
  pub no_floor : FaultIs (lower (Idle 4 4999) [] []) NoSuchFloor 1
  pub before_now : FaultIs (lower (Idle 3 4999) [] []) MomentOutOfRange 1
  pub last_moment : first_fault_of_snapshot (lower (Idle 1 100005000) [] []) ≡ None
  pub too_late : FaultIs (lower (Idle 1 100005001) [] []) MomentOutOfRange 1
  pub arrives_before : FaultIs (lower (Coming 1 4999) [] []) MomentOutOfRange 1
  pub left_after : FaultIs (lower (Moving 0 true 5001) [] []) MomentOutOfRange 1
  pub not_served : FaultIs (lower (Coming 3 5000) [] []) NotServed 1
  pub none_open : FaultIs (lower (Moving 2 true 5000) [] []) NoOpenFloor 1
  pub second_car : FaultIs (pair 8 8 (Idle 0 0 ∷ Idle 4 0 ∷ []) (call 1 0 0 1 ∷ [])) NoSuchFloor 2

-- the first faults of groups aboard, whose places come after the car's
pub record AreGroupFaults : Type 0 where
  pub none : first_fault_of_snapshot (lower at_one (group 1 2 8 6000 ∷ []) []) ≡ None
  pub same_id : FaultIs (lower at_one (group 7 2 1 0 ∷ group 7 9 9 9 ∷ []) []) IdUsedBefore 3
  pub no_floor : FaultIs (lower at_one (group 7 4 1 0 ∷ []) []) NoSuchFloor 2
  pub its_floor : FaultIs (lower at_one (group 7 1 9 0 ∷ []) []) WrongSide 2
  pub both_sides : FaultIs (lower at_one (group 7 2 8 0 ∷ group 8 0 1 0 ∷ []) []) WrongSide 3
  pub coming_both_sides : FaultIs (lower (Coming 1 5000) (group 7 2 1 0 ∷ group 8 1 1 0 ∷ group 9 0 1 0 ∷ []) []) WrongSide 4
  pub coming_one_side : first_fault_of_snapshot (lower (Coming 1 5000) (group 7 2 1 0 ∷ group 8 1 1 0 ∷ []) []) ≡ None
  pub moving_past : FaultIs (lower (Moving 1 true 4000) (group 7 0 1 0 ∷ []) []) WrongSide 2
  pub too_many : FaultIs (lower at_one (group 7 2 8 0 ∷ group 8 2 1 6001 ∷ []) []) OverCapacity 3
  pub too_late : FaultIs (lower at_one (group 7 3 1 6001 ∷ []) []) MomentOutOfRange 2
  pub not_served : FaultIs (lower at_one (group 7 3 0 6000 ∷ []) []) NotServed 2
  pub nobody : FaultIs (lower at_one (group 7 2 0 6000 ∷ []) []) PersonsOutOfRange 2
  pub a_call_after_a_group : FaultIs (lower at_one (group 7 2 0 0 ∷ []) (call 7 0 1 1 ∷ [])) PersonsOutOfRange 2

-- the first faults of calls, whose places come after those of the groups
pub record AreCallFaults : Type 0 where
  pub none : first_fault_of_snapshot (lower at_one [] (call_from 1 0 2 8 5000 (Some 0) ∷ [])) ≡ None
  pub id_of_a_call : FaultIs (lower at_one [] (call 1 0 2 1 ∷ call 1 4 4 9 ∷ [])) IdUsedBefore 3
  pub id_of_a_group : FaultIs (lower at_one (group 1 2 1 0 ∷ []) (call 1 0 2 1 ∷ [])) IdUsedBefore 3
  pub no_origin : FaultIs (lower at_one [] (call 1 4 2 1 ∷ [])) NoSuchFloor 2
  pub no_destination : FaultIs (lower at_one [] (call 1 2 4 1 ∷ [])) NoSuchFloor 2
  pub nowhere : FaultIs (lower at_one [] (call 1 3 3 9 ∷ [])) OriginIsDestination 2
  pub unserved : FaultIs (lower at_one [] (call_from 1 0 3 9 5001 None ∷ [])) NoPossibleCar 2
  pub pinned_unserved : FaultIs (lower at_one [] (call_from 1 0 3 1 5001 (Some 0) ∷ [])) PinCannotTake 2
  pub after_now : FaultIs (lower at_one [] (call_from 1 0 2 0 5001 None ∷ [])) MomentOutOfRange 2
  pub nobody : FaultIs (lower at_one [] (call 1 0 2 0 ∷ [])) PersonsOutOfRange 2
  pub nine : FaultIs (lower at_one [] (call_from 1 0 2 9 0 None ∷ [])) NoPossibleCar 2
  pub nine_in_a_large_car : FaultIs (shown 1 0 9 (Idle 0 0) [] (call 1 0 2 9 ∷ [])) PersonsOutOfRange 2
  pub full : first_fault_of_snapshot (lower at_one [] (calls_to 64)) ≡ None
  pub one_more : FaultIs (lower at_one [] (calls_to 65)) TooManyCalls 66

abbrev pub uneven_square : Square
uneven_square = record {
  floors = 4;
  times = 0 ∷ 3875 ∷ 7875 ∷ 8542 ∷ 3875 ∷ 0 ∷ 5875 ∷ 6542 ∷ 7875 ∷ 5875 ∷ 0 ∷ 2237 ∷ 8542 ∷ 6542 ∷ 2237 ∷ 0 ∷ [];
}

-- floors 3000, 6000 and 1000 mm apart, 1500 mm/s, 800 mm/s², weights 3 and 2
abbrev pub uneven_building : (version patience weight : ℕ) → List CarSpec → Building
uneven_building version patience weight cars = record {
  version = version;
  heights = 0 ∷ 3000 ∷ 9000 ∷ 10000 ∷ [];
  speed = 1500;
  accel = 800;
  wait_weight = 3;
  travel_weight = 2;
  patience = patience;
  patience_weight = weight;
  cars = cars;
  travel = uneven_square;
}

-- doors 1100 and 700 ms, 300 ms on and 900 ms off
abbrev pub uneven_car : ℕ → CarSpec
uneven_car capacity = record { id = 7; capacity = capacity; opening = 1100; closing = 700; boarding = 300; alighting = 900; serves = 15 }

abbrev pub uneven : (version patience weight capacity moment : ℕ) → CarState → List Aboard → List Call → Snapshot
uneven version patience weight capacity moment state aboard calls = record {
  version = 2;
  building = uneven_building version patience weight (uneven_car capacity ∷ []);
  moment = moment;
  states = state ∷ [];
  aboard = aboard;
  calls = calls;
}

abbrev pub riders_down : Snapshot
riders_down = uneven 2 2000 5 5 1000 (Idle 2 5000) (group 30 0 3 400 ∷ []) (call_from 5 1 3 2 900 None ∷ call_from 2 1 3 1 950 None ∷ [])

-- a moving car that can still stop at floor 2, where it would have been at the moment 4000
abbrev pub quick_at : ℕ → Snapshot
quick_at moment = record {
  version = 2;
  building = record {
    version = 3;
    heights = 0 ∷ 3000 ∷ 9000 ∷ 10000 ∷ [];
    speed = 1500;
    accel = 800;
    wait_weight = 3;
    travel_weight = 2;
    patience = 0;
    patience_weight = 0;
    cars = car_named 7 5 15 ∷ [];
    travel = record {
      floors = 4;
      times = 0 ∷ 3000 ∷ 3000 ∷ 5000 ∷ 3000 ∷ 0 ∷ 3000 ∷ 3000 ∷ 3000 ∷ 3000 ∷ 0 ∷ 2237 ∷ 5000 ∷ 3000 ∷ 2237 ∷ 0 ∷ [];
    };
  };
  moment = moment;
  states = Moving 0 true 1000 ∷ [];
  aboard = [];
  calls = call_from 1 2 0 1 900 None ∷ [];
}

abbrev pub times : (arrival opened leaves : ℕ) → Times
times arrival opened leaves = record { arrival = arrival; opened = opened; leaves = leaves }

-- where no two numbers of a car or a building are the same
pub record AreUneven : Type 0 where
  pub accepted : first_fault_of_snapshot riders_down ≡ None
  pub together : Costs riders_down (stop 0 [] ∷ stop 1 (0 ∷ 1 ∷ []) ∷ stop 3 [] ∷ []) 621302
  pub in_turn : Costs riders_down (stop 0 [] ∷ stop 1 (0 ∷ []) ∷ stop 3 [] ∷ stop 1 (1 ∷ []) ∷ stop 3 [] ∷ []) 771574
  pub released_first : Breaks riders_down (stop 0 [] ∷ stop 1 (1 ∷ []) ∷ stop 3 [] ∷ stop 1 (0 ∷ []) ∷ stop 3 [] ∷ []) 4 QueueOrder
  pub with_who_stays : Breaks (uneven 1 0 0 4 1000 (Idle 0 1000) (group 30 3 3 400 ∷ []) (call_from 5 1 3 2 900 None ∷ []))
      (stop 1 (0 ∷ []) ∷ stop 3 [] ∷ []) 1 Capacity
  pub coming : Costs (uneven 1 0 0 5 1000 (Coming 0 1000) (group 30 3 3 400 ∷ []) (call_from 5 1 3 2 900 None ∷ []))
      (stop 0 [] ∷ stop 1 (0 ∷ []) ∷ stop 3 [] ∷ []) 174920
  pub two_queues : Costs (uneven 1 0 0 5 1000 (Idle 1 1000) [] (call_from 1 1 3 1 900 None ∷ call_from 2 1 0 1 950 None ∷ []))
      (stop 1 (1 ∷ []) ∷ stop 0 [] ∷ stop 1 (0 ∷ []) ∷ stop 3 [] ∷ []) 73934
  pub two_origins : Costs (uneven 1 0 0 5 1000 (Idle 1 1000) [] (call_from 1 0 3 1 900 None ∷ call_from 2 1 3 1 950 None ∷ []))
      (stop 1 (1 ∷ []) ∷ stop 3 [] ∷ stop 0 (0 ∷ []) ∷ stop 3 [] ∷ []) 105270
  pub speeding_up : Costs (uneven 1 0 0 5 5000 (Moving 2 true 3882) [] (call_from 1 3 0 1 900 None ∷ [])) (stop 3 (0 ∷ []) ∷ stop 0 [] ∷ []) 40241
  pub too_fast : Breaks (uneven 1 0 0 5 5000 (Moving 2 true 3881) [] (call_from 1 3 0 1 900 None ∷ [])) (stop 3 (0 ∷ []) ∷ stop 0 [] ∷ []) 1 FirstStop
  pub at_full_speed : Costs (uneven 1 0 0 5 5000 (Moving 0 true 2500) [] (call_from 1 2 0 1 900 None ∷ [])) (stop 2 (0 ∷ []) ∷ stop 0 [] ∷ []) 51675
  pub braking_late : Costs (uneven 1 0 0 5 5000 (Moving 0 true 1000) [] (call_from 1 2 0 1 900 None ∷ [])) (stop 2 (0 ∷ []) ∷ stop 0 [] ∷ []) 47175
  pub last_at_full_speed : Costs (uneven 1 0 0 5 7000 (Moving 0 true 1000) [] (call_from 1 2 0 1 900 None ∷ [])) (stop 2 (0 ∷ []) ∷ stop 0 [] ∷ []) 47175
  pub too_near : Breaks (uneven 1 0 0 5 7001 (Moving 0 true 1000) [] (call_from 1 2 0 1 900 None ∷ [])) (stop 2 (0 ∷ []) ∷ stop 0 [] ∷ []) 1 FirstStop
  pub there_now : Costs (quick_at 4000) (stop 2 (0 ∷ []) ∷ stop 0 [] ∷ []) 23300
  pub would_have_passed : Breaks (quick_at 4001) (stop 2 (0 ∷ []) ∷ stop 0 [] ∷ []) 1 FirstStop
  pub timeline : timeline_of riders_down 0 (stop 0 [] ∷ stop 1 (0 ∷ 1 ∷ []) ∷ stop 3 [] ∷ []) ≡ times 12875 13975 17375 ∷ times 21250 22350 23950
      ∷ times 30492 31592 34992 ∷ []
  pub without_a_leg : timeline_of (uneven 1 0 0 5 1000 (Coming 0 1000) (group 30 3 3 400 ∷ []) []) 0 (stop 3 [] ∷ []) ≡ times 1000 2100 5500 ∷ []

-- three cars of different numbers, the second of which has a group aboard
abbrev pub three_cars : Snapshot
three_cars = record {
  version = 2;
  building =
      uneven_building 2 2000 5
      (uneven_car 5
      ∷ record { id = 4; capacity = 3; opening = 800; closing = 1300; boarding = 600; alighting = 400; serves = 13 }
      ∷ record { id = 9; capacity = 2; opening = 500; closing = 1700; boarding = 200; alighting = 1000; serves = 11 }
      ∷ []);
  moment = 1000;
  states = Idle 2 1500 ∷ Coming 3 2600 ∷ Idle 1 1200 ∷ [];
  aboard = record { id = 30; car = 1; destination = 0; persons = 1; boarded = 400 } ∷ [];
  calls = call_from 5 1 3 2 900 None ∷ call_from 2 0 3 1 950 None ∷ call_from 8 3 0 2 700 None ∷ [];
}

abbrev pub from_one : List Stop
from_one = stop 1 (0 ∷ []) ∷ stop 3 [] ∷ []

-- plans of three cars: a cost, and which bad place is the first
pub record AreUnevenPlans : Type 0 where
  pub accepted : first_fault_of_snapshot three_cars ≡ None
  pub cost : PlanCosts three_cars (from_one ∷ (stop 3 (2 ∷ []) ∷ stop 0 [] ∷ []) ∷ (stop 0 (1 ∷ []) ∷ stop 3 [] ∷ []) ∷ []) 286104
  pub taken_by_the_first : BadAt three_cars (from_one ∷ (stop 3 (2 ∷ []) ∷ stop 0 [] ∷ []) ∷ from_one ∷ []) 2 1 CallTwice
  pub first_of_two : BadAt three_cars (from_one ∷ (stop 3 (2 ∷ []) ∷ []) ∷ (stop 1 [] ∷ []) ∷ []) 1 2 Delivery
  pub lowest_left_out : BadAt three_cars (from_one ∷ (stop 3 [] ∷ stop 0 [] ∷ []) ∷ [] ∷ []) 3 1 Unserved

-- of two rules that a stop breaks, the lower one is told
pub record AreLowest : Type 0 where
  pub useless : Breaks riders_down (stop 0 [] ∷ stop 1 (0 ∷ []) ∷ stop 0 [] ∷ []) 3 UselessStop
  pub turn : Breaks riders_down (stop 3 (0 ∷ 1 ∷ []) ∷ []) 1 TurnWithPassengers
  pub capacity : Breaks (uneven 2 2000 5 3 1000 (Idle 2 5000) [] (call_from 5 1 3 2 900 None ∷ call_from 2 1 3 1 950 None ∷ call_from 8 3 0 2 700 None ∷ []))
      (stop 1 (1 ∷ []) ∷ stop 3 (2 ∷ []) ∷ stop 1 (0 ∷ []) ∷ []) 3 Capacity
  pub queue : Breaks riders_down (stop 0 [] ∷ stop 1 (1 ∷ []) ∷ stop 3 [] ∷ stop 1 (0 ∷ 9 ∷ []) ∷ []) 4 QueueOrder
  pub car : BadAt three_cars ([] ∷ (stop 3 [] ∷ stop 0 [] ∷ stop 1 (0 ∷ []) ∷ []) ∷ [] ∷ []) 1 3 Car
  pub floor : BadAt three_cars ([] ∷ (stop 3 [] ∷ stop 0 [] ∷ stop 1 (1 ∷ 1 ∷ []) ∷ []) ∷ [] ∷ []) 1 3 Floor
  pub twice : BadAt three_cars ((stop 1 (1 ∷ 1 ∷ []) ∷ []) ∷ [] ∷ [] ∷ []) 0 1 CallTwice
  pub nowhere : BadAt three_cars ([] ∷ [] ∷ [] ∷ []) 1 1 FirstStop

-- what the moves have settled, and the moment of their last stop
abbrev pub Settles : Snapshot → List Move → (cost : ℕ) → (moment : Option ℕ) → Type 0
Settles s moves cost moment =
    (option_map (settled_of s 0) (course_of s 0 moves) ≡ Some cost) × (option_map (moment_in s 0) (course_of s 0 moves) ≡ Some moment)

-- the moves of a tour, one after another: the group gets off, two calls board at one stop, and they get off
pub record AreMoves : Type 0 where
  pub none : Settles riders_down [] 0 None
  pub group_off : Settles riders_down (Leave 0 ∷ []) 81450 (Some 13975)
  pub next_stop : Settles riders_down (Leave 0 ∷ Leave 1 ∷ []) 81450 (Some 22350)
  pub one_on : Settles riders_down (Leave 0 ∷ Leave 1 ∷ Board 0 ∷ []) 81450 (Some 22350)
  pub both_on : Settles riders_down (Leave 0 ∷ Leave 1 ∷ Board 0 ∷ Board 1 ∷ []) 81450 (Some 22350)
  pub both_off : Settles riders_down (Leave 0 ∷ Leave 1 ∷ Board 0 ∷ Board 1 ∷ Leave 3 ∷ []) 621302 (Some 31592)
  pub ended : Settles riders_down (Leave 0 ∷ Leave 1 ∷ Board 0 ∷ Board 1 ∷ Leave 3 ∷ End ∷ []) 621302 (Some 31592)
  -- where the other call did not board, the car arrives its boarding time earlier
  pub one_off : Settles riders_down (Leave 0 ∷ Leave 1 ∷ Board 0 ∷ Leave 3 ∷ []) 440418 (Some 31292)
  pub falling : course_of riders_down 0 (Leave 0 ∷ Leave 1 ∷ Board 1 ∷ Board 0 ∷ []) ≡ None
  pub useless : course_of riders_down 0 (Leave 0 ∷ Leave 2 ∷ Leave 1 ∷ []) ≡ None
  pub still_aboard : course_of riders_down 0 (Leave 0 ∷ Leave 1 ∷ Board 0 ∷ End ∷ []) ≡ None
  pub after_the_end : course_of riders_down 0 (Leave 0 ∷ End ∷ Leave 1 ∷ []) ≡ None
