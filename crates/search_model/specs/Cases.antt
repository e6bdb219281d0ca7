-- Generated cases: a building and a snapshot from a number.
use Rattle.std.specs.Prelude.{◌≡◌, ℕ, zero, suc, ◌+◌, ◌-◌, ◌*◌, ◌/◌, ◌%◌, ◌^◌, nat_lt, [], map, if◌then◌else◌, None}
use Rattle.std.specs.List.{range_with_len}
use Rattle.elevator_model.specs.declared.CarSpec.{CarSpec}
use Rattle.elevator_model.specs.declared.CarState.{CarState}
use Rattle.elevator_model.specs.declared.CarState.TheVariants.{Idle}
use Rattle.elevator_model.specs.declared.Call.{Call}
use Rattle.elevator_model.specs.Travel.{Square, IsTravelOf}
use Rattle.elevator_model.specs.Building.{Building}
use Rattle.elevator_model.specs.Snapshot.{Snapshot}

-- the state that follows a state, and the number that a state draws: its top 32 bits
abbrev pub state_after : ℕ → ℕ
state_after x = (6364136223846793005 * x + 1442695040888963407) % 2 ^ 64

abbrev pub drawn_by : ℕ → ℕ
drawn_by x = x / 2 ^ 32

-- the state after n draws, from a number
abbrev pub state_of_draw : (number n : ℕ) → ℕ
state_of_draw number zero = number
state_of_draw number (suc n) = state_after (state_of_draw number n)

-- Draw n of a number, counted from 1.
abbrev pub draw : (number n : ℕ) → ℕ
draw number n = drawn_by (state_of_draw number n)

-- draw n, below a bound
abbrev pub pick : (number n below : ℕ) → ℕ
pick number n below = draw number n % below

-- a car, with ids from 1
abbrev pub case_car : (floors c : ℕ) → CarSpec
case_car floors c = record { id = c + 1; capacity = 8; opening = 1000; closing = 1000; boarding = 500; alighting = 500; serves = 2 ^ floors - 1 }

abbrev pub case_building : Square → (floors cars : ℕ) → Building
case_building travel floors cars =
    record {
      version = 1;
      heights = map (λ f. 4000 * f) (range_with_len 0 floors);
      speed = 2000;
      accel = 1000;
      wait_weight = 1;
      travel_weight = 1;
      patience = 0;
      patience_weight = 0;
      cars = map (case_car floors) (range_with_len 0 cars);
      travel = travel;
    }

-- each car takes one draw
abbrev pub case_state : (number floors c : ℕ) → CarState
case_state number floors c = Idle (pick number (c + 1) floors) 600000

-- another floor than the origin
abbrev pub other_floor : (origin pick : ℕ) → ℕ
other_floor origin pick = if nat_lt pick origin then pick else pick + 1

-- each call takes four draws, after those of the cars: origin, destination, persons, moment
abbrev pub case_call : (number floors cars j : ℕ) → Call
case_call number floors cars j =
    let n = cars + 4 * j in
    let origin = pick number (n + 1) floors in
    record {
      id = j + 1;
      origin = origin;
      destination = other_floor origin (pick number (n + 2) (floors - 1));
      persons = 1 + pick number (n + 3) 2;
      released = 600000 - 1000 * pick number (n + 4) 64;
      pin = None;
    }

abbrev pub case_snapshot : Square → (number floors cars calls : ℕ) → Snapshot
case_snapshot travel number floors cars calls =
    record {
      version = 1;
      building = case_building travel floors cars;
      moment = 600000;
      states = map (case_state number floors) (range_with_len 0 cars);
      aboard = [];
      calls = map (case_call number floors cars) (range_with_len 0 calls);
    }

-- The case of a number and three sizes: its travel times are the least ones.
pub record IsCase (number floors cars calls : ℕ) (s : Snapshot) : Type 0 where
  pub travel : IsTravelOf s.building.heights 2000 1000 s.building.travel
  pub rest : s ≡ case_snapshot s.building.travel number floors cars calls
