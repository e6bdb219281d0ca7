-- A case for worked examples where no two numbers of the cars or the building are the same: floors 3000, 6000
-- and 1000 mm apart, 1500 mm/s, 800 mm/s², weights 3 and 2, and 5 more past a patience of 2000 ms.
use Rattle.std.specs.Prelude.{ℕ, ℤ, pos, negsuc, List, [], ◌∷◌, None, ◌==◌, ◌||◌, Bool, if◌then◌else◌}
use Rattle.elevator_model.specs.declared.CarSpec.{CarSpec}
use Rattle.elevator_model.specs.declared.CarState.TheVariants.{Idle, Coming}
use Rattle.elevator_model.specs.declared.Call.{Call}
use Rattle.elevator_model.specs.declared.Stop.{Stop}
use Rattle.elevator_model.specs.Travel.{Square}
use Rattle.elevator_model.specs.Building.{Building}
use Rattle.elevator_model.specs.Snapshot.{Snapshot}

abbrev pub uneven_times : Square
uneven_times = record {
  floors = 4;
  times = 0 ∷ 3875 ∷ 7875 ∷ 8542 ∷ 3875 ∷ 0 ∷ 5875 ∷ 6542 ∷ 7875 ∷ 5875 ∷ 0 ∷ 2237 ∷ 8542 ∷ 6542 ∷ 2237 ∷ 0 ∷ [];
}

abbrev pub large_car : CarSpec
large_car = record { id = 7; capacity = 5; opening = 1100; closing = 700; boarding = 300; alighting = 900; serves = 15 }

abbrev pub small_car : CarSpec
small_car = record { id = 8; capacity = 3; opening = 800; closing = 500; boarding = 400; alighting = 600; serves = 15 }

abbrev pub uneven_building : List CarSpec → Building
uneven_building cars = record {
  version = 2;
  heights = 0 ∷ 3000 ∷ 9000 ∷ 10000 ∷ [];
  speed = 1500;
  accel = 800;
  wait_weight = 3;
  travel_weight = 2;
  patience = 2000;
  patience_weight = 5;
  cars = cars;
  travel = uneven_times;
}

abbrev pub called : (id origin destination persons released : ℕ) → Call
called id origin destination persons released =
    record { id = id; origin = origin; destination = destination; persons = persons; released = released; pin = None }

-- the large car stands at floor 2 with three persons for floor 0, and the small one comes to floor 0
abbrev pub uneven_pair : Snapshot
uneven_pair = record {
  version = 2;
  building = uneven_building (large_car ∷ small_car ∷ []);
  moment = 1000;
  states = Idle 2 5000 ∷ Coming 0 2500 ∷ [];
  aboard = record { id = 30; car = 0; destination = 0; persons = 3; boarded = 400 } ∷ [];
  calls = called 5 1 3 2 900 ∷ called 2 1 3 1 950 ∷ called 9 2 0 1 400 ∷ [];
}

abbrev pub halt : ℕ → List ℕ → Stop
halt floor boards = record { floor = floor; boards = boards }

-- the large car delivers its group and takes two calls, the small one stops where it comes to and takes one
abbrev pub uneven_plan : List (List Stop)
uneven_plan = (halt 0 [] ∷ halt 1 (0 ∷ 1 ∷ []) ∷ halt 3 [] ∷ []) ∷ (halt 0 [] ∷ halt 2 (2 ∷ []) ∷ halt 0 [] ∷ []) ∷ []

abbrev pub uneven_price : ℕ → ℤ
uneven_price j = if j == 0 then pos 123456789 else (if j == 1 then pos 98765432 else negsuc 7654320)

-- sets of calls
abbrev pub first_two : ℕ → Bool
first_two j = (j == 0) || (j == 1)

abbrev pub first_three : ℕ → Bool
first_three j = first_two j || (j == 2)

abbrev pub only : ℕ → ℕ → Bool
only i j = j == i
