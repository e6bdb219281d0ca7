-- Worked cases of days: what has happened by a moment, rows, and a whole day.
use Rattle.std.specs.Prelude.{◌≡◌, map, ℕ, ◌==◌, List, [], ◌∷◌, true, false, if◌then◌else◌, Option, Some, None}
use Rattle.elevator_model.specs.declared.Stop.{Stop}
use Rattle.elevator_model.specs.declared.Aboard.{Aboard}
use Rattle.elevator_model.specs.declared.Call.{Call}
use Rattle.elevator_model.specs.declared.CarState.{CarState}
use Rattle.elevator_model.specs.declared.CarState.TheVariants.{Idle, Coming, Moving}
use Rattle.elevator_model.specs.Snapshot.{Snapshot}
use Rattle.elevator_model.specs.Worked.{shown, stop, call, call_from, calls_to, car_named, building_of_cars, group, PlanCosts}
use Rattle.search_model.specs.declared.Event.{Event}
use Rattle.search_model.specs.declared.Event.TheVariants.{Board, Deliver}
use Rattle.search_model.specs.declared.RowFault.{RowFault}
use Rattle.search_model.specs.declared.RowFault.TheVariants.{NoRow, BeforeNow, Full, NoCar}
use Rattle.search_model.specs.declared.Served.{Served}
use Rattle.search_model.specs.declared.Stated.{Stated}
use Rattle.search_model.specs.Uneven.{uneven_building, large_car, small_car, uneven_pair, uneven_plan, called}
use Rattle.search_model.specs.Advancing.{World, advanced, events_by, last_events}
use Rattle.search_model.specs.Days.{Row, DayCall, Run, loses_none, opening_world, opening_tour, fault_of_row, day_run, served_of, delivered_count, code_of_row}
use Rattle.search_model.specs.Days.RowLog.{Refused, Accepted}

abbrev pub world : Snapshot → List (List Stop) → World
world s plan = record { snapshot = s; plan = plan }

-- ---- two cars with uneven numbers

abbrev pub uneven_world : World
uneven_world = world uneven_pair uneven_plan

abbrev pub uneven_then : (moment : ℕ) → (first second : CarState) → List Aboard → List Call → Snapshot
uneven_then moment first second aboard calls = record {
  version = 2;
  building = uneven_building (large_car ∷ small_car ∷ []);
  moment = moment;
  states = first ∷ second ∷ [];
  aboard = aboard;
  calls = calls;
}

abbrev pub thirty : Aboard
thirty = record { id = 30; car = 0; destination = 0; persons = 3; boarded = 400 }

abbrev pub five : Call
five = called 5 1 3 2 900

abbrev pub two : Call
two = called 2 1 3 1 950

abbrev pub nine : Call
nine = called 9 2 0 1 400

-- the world at the moment is this one, and these are the events until then
pub record AtMoment (moment : ℕ) (s : Snapshot) (plan : List (List Stop)) (events : List Event) : Type 0 where
  pub snapshot : (advanced uneven_world moment).snapshot ≡ s
  pub tours : (advanced uneven_world moment).plan ≡ plan
  pub happened : events_by uneven_world moment ≡ events

pub record AreAdvanced : Type 0 where
  pub before : AtMoment 2499 (uneven_then 2499 (Idle 2 5000) (Coming 0 2500) (thirty ∷ []) (five ∷ two ∷ nine ∷ [])) uneven_plan []
  -- at its arrival the small car has done its first stop
  pub arrived : AtMoment 2500 (uneven_then 2500 (Idle 2 5000) (Idle 0 3800) (thirty ∷ []) (five ∷ two ∷ nine ∷ []))
      ((stop 0 [] ∷ stop 1 (0 ∷ 1 ∷ []) ∷ stop 3 [] ∷ []) ∷ (stop 2 (2 ∷ []) ∷ stop 0 [] ∷ []) ∷ []) []
  pub leaves_now : (advanced uneven_world 3800).snapshot.states ≡ Idle 2 5000 ∷ Idle 0 3800 ∷ []
  pub moves : (advanced uneven_world 3801).snapshot.states ≡ Idle 2 5000 ∷ Moving 0 true 3800 ∷ []
  pub delivers : AtMoment 12875
      (uneven_then 12875 (Idle 0 17375) (Idle 2 13375) (record { id = 9; car = 1; destination = 0; persons = 1; boarded = 12475 } ∷ []) (five ∷ two ∷ []))
      ((stop 1 (0 ∷ 1 ∷ []) ∷ stop 3 [] ∷ []) ∷ (stop 0 [] ∷ []) ∷ []) (Deliver 30 7 13975 ∷ Board 9 8 12475 ∷ [])
  pub brakes : (advanced uneven_world 21125).snapshot.states ≡ Coming 1 21250 ∷ Coming 0 21250 ∷ []
  -- those who board at one stop come in the order of their ids
  pub boards : AtMoment 24000
      (uneven_then 24000 (Moving 1 true 23950) (Idle 0 24000)
      (record { id = 2; car = 0; destination = 3; persons = 1; boarded = 22350 } ∷ record { id = 5; car = 0; destination = 3; persons = 2; boarded = 22350 }
      ∷ []) []) ((stop 3 [] ∷ []) ∷ [] ∷ []) (Deliver 30 7 13975 ∷ Board 2 7 22350 ∷ Board 5 7 22350 ∷ Board 9 8 12475 ∷ Deliver 9 8 22050 ∷ [])
  pub ends : last_events uneven_world ≡ Deliver 30 7 13975 ∷ Board 2 7 22350 ∷ Board 5 7 22350 ∷ Deliver 2 7 31592 ∷ Deliver 5 7 31592 ∷ Board 9 8 12475
      ∷ Deliver 9 8 22050 ∷ []
  -- in turn: the index of the call that waits falls
  pub index_falls : (advanced
      (world uneven_pair ((stop 0 [] ∷ stop 1 (0 ∷ []) ∷ stop 3 [] ∷ stop 1 (1 ∷ []) ∷ stop 3 [] ∷ []) ∷ (stop 0 [] ∷ stop 2 (2 ∷ []) ∷ stop 0 [] ∷ []) ∷ []))
      24000).plan ≡ (stop 3 [] ∷ stop 1 (0 ∷ []) ∷ stop 3 [] ∷ []) ∷ [] ∷ []

-- ---- a car that moves

-- a call from the third floor up, and after 2000 ms one from the second to the third
abbrev pub started : (version : ℕ) → World
started version = world (shown version 0 8 (Idle 0 0) [] (call 1 2 3 1 ∷ [])) ((stop 2 (0 ∷ []) ∷ stop 3 [] ∷ []) ∷ [])

abbrev pub joined : (version : ℕ) → CarState → Snapshot
joined version state = shown version 2000 8 state [] (call 1 2 3 1 ∷ call_from 2 1 2 1 2000 None ∷ [])

abbrev pub both_up : List (List Stop)
both_up = (stop 1 (1 ∷ []) ∷ stop 2 (0 ∷ []) ∷ stop 3 [] ∷ []) ∷ []

-- two calls from the two lower floors to the top, taken one after the other
abbrev pub both_to_the_top : World
both_to_the_top = world (shown 1 0 8 (Idle 0 0) [] (call 1 0 3 1 ∷ call 2 1 3 1 ∷ [])) ((stop 0 (0 ∷ []) ∷ stop 1 (1 ∷ []) ∷ stop 3 [] ∷ []) ∷ [])

-- someone goes to the second floor, and the first stop is the third one, as in no feasible tour
abbrev pub past_a_destination : World
past_a_destination = world (shown 2 1000 8 (Moving 0 true 0) (group 9 1 1 0 ∷ []) []) ((stop 2 [] ∷ stop 1 [] ∷ []) ∷ [])

pub record AreMoving : Type 0 where
  -- a group boarded at the stop where its call did
  pub boarded : (advanced both_to_the_top 7000).snapshot.aboard ≡ group 1 3 1 1000 ∷ group 2 3 1 7500 ∷ []
  pub open_for_all : (advanced past_a_destination 2000).snapshot.states ≡ Moving 0 true 0 ∷ []
  pub not_for_all : (advanced past_a_destination 2001).snapshot.states ≡ Coming 2 6000 ∷ []
  pub first : PlanCosts (started 2).snapshot (started 2).plan 13500
  pub moves : (advanced (started 2) 2000).snapshot.states ≡ Moving 0 true 0 ∷ []
  pub comes : (advanced (started 1) 2000).snapshot.states ≡ Coming 2 6000 ∷ []
  pub picks_up : PlanCosts (joined 2 (Moving 0 true 0)) both_up 28000
  pub later : PlanCosts (joined 1 (Coming 2 6000)) ((stop 2 (0 ∷ []) ∷ stop 3 [] ∷ stop 1 (1 ∷ []) ∷ stop 2 [] ∷ []) ∷ []) 40000
  pub happens : last_events (world (joined 2 (Moving 0 true 0)) both_up) ≡ Board 2 1 5000 ∷ Deliver 2 1 11500 ∷ Board 1 1 11500 ∷ Deliver 1 1 18500 ∷ []
  -- a moving car stays so while its first stop is open
  pub stays : (advanced (world (joined 2 (Moving 0 true 0)) both_up) 2000).snapshot.states ≡ Moving 0 true 0 ∷ []
  pub not_open : (advanced (world (joined 2 (Moving 0 true 0)) both_up) 2001).snapshot.states ≡ Coming 1 4000 ∷ []

-- ---- a day

abbrev pub opening : Snapshot
opening = shown 1 0 8 (Idle 0 0) [] []

abbrev pub row : (time origin destination persons : ℕ) → Option Row
row time origin destination persons = Some (record { time = time; origin = origin; destination = destination; persons = persons })

abbrev pub solved : List Stop → ℕ → Stated
solved tour cost = record { plan = tour ∷ []; cost = cost; bound = cost }

abbrev pub printed : ℕ → Stated
printed n =
    if n == 1 then solved (stop 0 (0 ∷ []) ∷ stop 1 [] ∷ []) 7500 else
    (if n == 2 then solved (stop 1 (0 ∷ []) ∷ stop 2 [] ∷ []) 10000 else solved (stop 1 (0 ∷ []) ∷ stop 2 [] ∷ stop 3 [] ∷ []) 25000)

-- the second row comes at the moment of an arrival, the third during a dwell, the fourth before it, and the
-- last one is no row
abbrev pub rows : List (Option Row)
rows = row 0 0 1 1 ∷ row 6500 1 2 1 ∷ row 9500 1 3 1 ∷ row 9000 0 1 1 ∷ None ∷ []

abbrev pub the_day : Run
the_day = day_run opening printed rows

abbrev pub served : (call released boarded delivered : ℕ) → Served
served call released boarded delivered = record { call = call; released = released; boarded = boarded; delivered = delivered }

pub record IsDay : Type 0 where
  pub log : the_day.log ≡ Accepted 1 [] (printed 1) ∷ Accepted 2 (Board 1 1 1000 ∷ Deliver 1 1 7500 ∷ []) (printed 2)
      ∷ Accepted 3 (Board 2 1 10000 ∷ []) (printed 3) ∷ Refused 4 BeforeNow ∷ Refused 5 NoRow ∷ []
  pub last : last_events the_day.day.world ≡ Board 3 1 12500 ∷ Deliver 2 1 19000 ∷ Deliver 3 1 25500 ∷ []
  pub refused : the_day.day.refused ≡ 2
  pub unsolved : the_day.day.unsolved ≡ 0
  pub delivered : delivered_count the_day.day ≡ 3
  pub calls : served_of the_day.day ≡ served 1 0 1000 7500 ∷ served 2 6500 10000 19000 ∷ served 3 9500 12500 25500 ∷ []
  -- the world in which each plan was printed
  pub second : (day_run opening printed (row 0 0 1 1 ∷ row 6500 1 2 1 ∷ [])).day.world.snapshot
      ≡ shown 1 6500 8 (Idle 1 9000) [] (call_from 2 1 2 1 6500 None ∷ [])
  pub third : the_day.day.world.snapshot ≡ shown 1 9500 8 (Idle 1 11500) (group 2 2 1 10000 ∷ []) (call_from 3 1 3 1 9500 None ∷ [])
  pub second_cost : PlanCosts (shown 1 6500 8 (Idle 1 9000) [] (call_from 2 1 2 1 6500 None ∷ [])) (printed 2).plan 10000
  pub third_cost : PlanCosts the_day.day.world.snapshot (printed 3).plan 25000
  -- the first call is delivered, the second aboard, the third open
  pub boarded : map (λ (x : DayCall). x.boarded) the_day.day.calls ≡ Some 1000 ∷ Some 10000 ∷ None ∷ []
  pub delivered_so_far : map (λ (x : DayCall). x.delivered) the_day.day.calls ≡ Some 7500 ∷ None ∷ None ∷ []
  pub none_lost : loses_none the_day.day ≡ true
  pub lost : loses_none (record { world = opening_world opening; refused = 0; unsolved = 0; calls = the_day.day.calls }) ≡ false
  -- a bound below the cost counts
  pub counted : (day_run opening (λ n. record { plan = (printed n).plan; cost = (printed n).cost; bound = 7500 }) rows).day.unsolved ≡ 2

-- ---- the day of the car that moves

abbrev pub printed_then : ℕ → Stated
printed_then n = if n == 1 then solved (stop 2 (0 ∷ []) ∷ stop 3 [] ∷ []) 13500 else record { plan = both_up; cost = 28000; bound = 28000 }

abbrev pub moving_day : Run
moving_day = day_run (shown 2 0 8 (Idle 0 0) [] []) printed_then (row 0 2 3 1 ∷ row 2000 1 2 1 ∷ [])

pub record IsMovingDay : Type 0 where
  pub log : moving_day.log ≡ Accepted 1 [] (printed_then 1) ∷ Accepted 2 [] (printed_then 2) ∷ []
  -- the new call comes last
  pub snapshot : moving_day.day.world.snapshot ≡ joined 2 (Moving 0 true 0)
  pub last : last_events moving_day.day.world ≡ Board 2 1 5000 ∷ Deliver 2 1 11500 ∷ Board 1 1 11500 ∷ Deliver 1 1 18500 ∷ []
  pub delivered : delivered_count moving_day.day ≡ 2

-- a car that serves the two lower floors only
abbrev pub two_floors : Snapshot
two_floors = record {
  version = 1;
  building = building_of_cars 1 (car_named 1 8 3 ∷ []);
  moment = 0;
  states = Idle 0 0 ∷ [];
  aboard = [];
  calls = [];
}

-- a car that comes to the top after everything else, with n calls that wait for it
abbrev pub waiting : (building_version n : ℕ) → World
waiting building_version n =
    world (record {
      version = 1;
      building = building_of_cars building_version (car_named 1 8 15 ∷ []);
      moment = 0;
      states = Coming 3 90000000 ∷ [];
      aboard =
          [];
      calls = calls_to n;
    }) ((stop 3 [] ∷ []) ∷ [])

abbrev pub FaultOf : World → Option Row → RowFault → Type 0
FaultOf w row fault = fault_of_row w 1 row ≡ Some fault

abbrev pub Taken : World → Option Row → Type 0
Taken w row = fault_of_row w 1 row ≡ None

pub record AreRows : Type 0 where
  pub no_numbers : FaultOf (opening_world opening) None NoRow
  pub good : Taken (opening_world opening) (row 1000000000 0 3 8)
  pub too_late : FaultOf (opening_world opening) (row 1000000001 0 3 8) NoRow
  pub nine_persons : FaultOf (opening_world opening) (row 0 0 3 9) NoRow
  pub nobody : FaultOf (opening_world opening) (row 0 0 3 0) NoRow
  pub no_floor : FaultOf (opening_world opening) (row 0 4 3 1) NoRow
  pub no_destination : FaultOf (opening_world opening) (row 0 3 4 1) NoRow
  pub nowhere : FaultOf (opening_world opening) (row 0 3 3 1) NoRow
  pub no_car : FaultOf (opening_world two_floors) (row 0 0 3 1) NoCar
  pub room_for_one : Taken (waiting 1 63) (row 0 0 1 1)
  pub full : FaultOf (waiting 1 64) (row 0 0 1 1) Full
  -- one of the calls has boarded by the time of the row
  pub room_by_then : Taken (world (shown 1 0 8 (Idle 0 0) [] (calls_to 64)) ((stop 0 (63 ∷ []) ∷ []) ∷ [])) (row 0 0 1 1)
  pub room_in_two : Taken (waiting 2 64) (row 0 0 1 1)
  pub before_now : FaultOf (world (shown 1 5 8 (Idle 0 5) [] []) ([] ∷ [])) (row 4 0 1 1) BeforeNow
  pub now : Taken (world (shown 1 5 8 (Idle 0 5) [] []) ([] ∷ [])) (row 5 0 1 1)
  pub no_row_first : FaultOf (world (shown 1 5 8 (Idle 0 5) [] []) ([] ∷ [])) (row 4 0 0 1) NoRow
  pub code : code_of_row NoCar ≡ 44

pub record AreOpenings : Type 0 where
  pub idle : opening_tour opening 0 (Idle 0 0) ≡ []
  pub coming : opening_tour opening 0 (Coming 2 7) ≡ stop 2 [] ∷ []
  -- after 2001 ms the second floor is passed
  pub moving : opening_tour (shown 2 2001 8 (Moving 0 true 0) [] []) 0 (Moving 0 true 0) ≡ stop 2 [] ∷ []
  pub moving_down : opening_tour (shown 2 2000 8 (Moving 3 false 0) [] []) 0 (Moving 3 false 0) ≡ stop 2 [] ∷ []
  pub world : (opening_world (shown 1 0 8 (Coming 2 7) [] [])).plan ≡ (stop 2 [] ∷ []) ∷ []
