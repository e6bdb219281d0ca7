-- The run of a day: rows come, each accepted one is answered by a plan, and the last plan is run to its end.
use Rattle.std.specs.Prelude.{ℕ, ◌+◌, ◌-◌, ◌==◌, ◌&&◌, not, nat_le, nat_lt, List, [], ◌∷◌, ◌++◌, map, count_by, Bool, if◌then◌else◌, Option, Some, None}
use Rattle.std.specs.Prelude.{is_some, unwrap_or}
use Rattle.std.specs.List.{list_all, range_with_len}
use Rattle.elevator_model.specs.declared.Stop.{Stop}
use Rattle.elevator_model.specs.declared.Aboard.{Aboard}
use Rattle.elevator_model.specs.declared.Call.{Call}
use Rattle.elevator_model.specs.declared.CarState.{CarState}
use Rattle.elevator_model.specs.declared.CarState.TheVariants.{Idle, Coming, Moving}
use Rattle.call_sets.specs.Counting.{any_below}
use Rattle.elevator_model.specs.Travel.{difference}
use Rattle.elevator_model.specs.Building.{Building, floor_count, most_calls}
use Rattle.elevator_model.specs.Snapshot.{Snapshot, car_count, call_count, state_of, is_open, can_take}
use Rattle.search_model.specs.declared.Event.{Event}
use Rattle.search_model.specs.declared.Event.TheVariants.{Board, Deliver}
use Rattle.search_model.specs.declared.RowFault.{RowFault}
use Rattle.search_model.specs.declared.RowFault.TheVariants.{NoRow, BeforeNow, Full, NoCar}
use Rattle.search_model.specs.declared.Served.{Served}
use Rattle.search_model.specs.declared.Stated.{Stated}
use Rattle.search_model.specs.Sums.{least_where}
use Rattle.search_model.specs.Advancing.{World, advanced, events_by, last_events}

-- ---- the opening

-- the floors between a moving car's last floor and the nearest open one, and that one
abbrev pub floors_to_open : Snapshot → (c from : ℕ) → CarState → ℕ
floors_to_open s c from state =
    unwrap_or (least_where (floor_count s.building) (is_open s.building c s.moment state) (difference from)) 0

abbrev pub nearest_open : Snapshot → ℕ → CarState → ℕ
nearest_open s c (Idle floor free) = floor
nearest_open s c (Coming floor arrives) = floor
nearest_open s c (Moving from up left) =
    let floors = floors_to_open s c from (Moving from up left) in
    if up then from + floors else from - floors

abbrev pub lone_stop : ℕ → List Stop
lone_stop floor = record { floor = floor; boards = [] } ∷ []

-- A coming car stops where it comes to, a moving one at the nearest open floor, and an idle one nowhere.
abbrev pub opening_tour : Snapshot → ℕ → CarState → List Stop
opening_tour s c (Idle floor free) = []
opening_tour s c (Coming floor arrives) = lone_stop floor
opening_tour s c (Moving from up left) = lone_stop (nearest_open s c (Moving from up left))

-- The world of an opening snapshot, which has no calls and nobody aboard.
abbrev pub opening_world : Snapshot → World
opening_world s = record { snapshot = s; plan = map (λ c. opening_tour s c (state_of s c)) (range_with_len 0 (car_count s)) }

-- ---- rows

-- what a row says, where it has four numbers
pub record Row : Type 0 where
  pub time : ℕ
  pub origin : ℕ
  pub destination : ℕ
  pub persons : ℕ

-- the numbers of the row lie in their ranges, and the passengers go somewhere
abbrev pub is_row : Building → Row → Bool
is_row b row =
    nat_le row.time 1000000000 && nat_lt row.origin (floor_count b) && nat_lt row.destination (floor_count b) && not (row.origin == row.destination)
    && nat_le 1 row.persons && nat_le row.persons 8

-- the call that row n brings
abbrev pub call_of_row : (n : ℕ) → Row → Call
call_of_row n row = record { id = n; origin = row.origin; destination = row.destination; persons = row.persons; released = row.time; pin = None }

-- why the snapshot cannot take a call
abbrev pub fault_of_new_call : Snapshot → Call → Option RowFault
fault_of_new_call s call =
    if nat_le (most_calls s.building.version) (call_count s) then Some Full else
    (if any_below (car_count s) (λ c. can_take s.building c call) then None else Some NoCar)

abbrev pub fault_of_good_row : World → (n : ℕ) → Row → Option RowFault
fault_of_good_row w n row =
    if nat_lt row.time w.snapshot.moment then Some BeforeNow else fault_of_new_call (advanced w row.time).snapshot (call_of_row n row)

-- Why row n is refused in a world, the first that applies; a row that has not four numbers is none.
abbrev pub fault_of_row : World → (n : ℕ) → Option Row → Option RowFault
fault_of_row w n None = Some NoRow
fault_of_row w n (Some row) = if is_row w.snapshot.building row then fault_of_good_row w n row else Some NoRow

abbrev pub code_of_row : RowFault → ℕ
code_of_row NoRow = 41
code_of_row BeforeNow = 42
code_of_row Full = 43
code_of_row NoCar = 44

-- ---- the day

-- an accepted call, and the moments at which it boarded and was delivered, once they have come
pub record DayCall : Type 0 where
  pub id : ℕ
  pub released : ℕ
  pub boarded : Option ℕ
  pub delivered : Option ℕ

pub record Day : Type 0 where
  pub world : World
  -- how many rows were refused
  pub refused : ℕ
  -- how many accepted rows had a bound below their cost
  pub unsolved : ℕ
  -- the accepted calls, in the order of their rows
  pub calls : List DayCall

abbrev pub opening_day : Snapshot → Day
opening_day s = record { world = opening_world s; refused = 0; unsolved = 0; calls = [] }

abbrev pub noted_in : Event → DayCall → DayCall
noted_in (Board call car moment) x = if x.id == call then record { id = x.id; released = x.released; boarded = Some moment; delivered = x.delivered } else x
noted_in (Deliver call car moment) x = if x.id == call then record { id = x.id; released = x.released; boarded = x.boarded; delivered = Some moment } else x

-- the calls after the events
abbrev pub calls_after : List DayCall → List Event → List DayCall
calls_after calls [] = calls
calls_after calls (event ∷ events) = calls_after (map (noted_in event) calls) events

abbrev pub with_call : World → Call → List (List Stop) → World
with_call w call plan =
    let s = w.snapshot in
    record {
      snapshot = record { version = s.version; building = s.building; moment = s.moment; states = s.states; aboard = s.aboard; calls = s.calls ++ call ∷ [] };
      plan = plan;
    }

-- An accepted row advances the world to its time, adds the call, and takes the printed plan.
abbrev pub day_after_accepted : Day → (n : ℕ) → Row → Stated → Day
day_after_accepted day n row printed =
    record {
      world = with_call (advanced day.world row.time) (call_of_row n row) printed.plan;
      refused = day.refused;
      unsolved = day.unsolved + (if nat_lt printed.bound printed.cost then 1 else 0);
      calls = calls_after day.calls (events_by day.world row.time) ++ record { id = n; released = row.time; boarded = None; delivered = None } ∷ [];
    }

abbrev pub day_after_refused : Day → Day
day_after_refused day = record { world = day.world; refused = day.refused + 1; unsolved = day.unsolved; calls = day.calls }

-- what the log says of a row
pub data RowLog : Type 0 where
  Refused : (number : ℕ) → RowFault → RowLog
  Accepted : (number : ℕ) → List Event → Stated → RowLog

-- the day after a row, and what the log says of it
pub record Step : Type 0 where
  pub day : Day
  pub log : RowLog

abbrev pub step_by : Day → (n : ℕ) → Option Row → Stated → Option RowFault → Step
step_by day n row printed (Some fault) = record { day = day_after_refused day; log = Refused n fault }
step_by day n None printed None = record { day = day_after_refused day; log = Refused n NoRow }
step_by day n (Some row) printed None = record { day = day_after_accepted day n row printed; log = Accepted n (events_by day.world row.time) printed }

-- Row n, with what is printed where it is accepted.
abbrev pub day_step : Day → (n : ℕ) → Option Row → Stated → Step
day_step day n row printed = step_by day n row printed (fault_of_row day.world n row)

-- a day's end, and the log of its rows
pub record Run : Type 0 where
  pub day : Day
  pub log : List RowLog

-- The rows from row n on; `printed` has what is printed for each accepted row.
abbrev pub run_from : (printed : ℕ → Stated) → Day → (n : ℕ) → List (Option Row) → Run
run_from printed day n [] = record { day = day; log = [] }
run_from printed day n (row ∷ rows) =
    let step = day_step day n row (printed n) in
    let later = run_from printed step.day (n + 1) rows in
    record { day = later.day; log = step.log ∷ later.log }

-- The run of a day over all rows.
abbrev pub day_run : Snapshot → (printed : ℕ → Stated) → List (Option Row) → Run
day_run opening printed rows = run_from printed (opening_day opening) 1 rows

-- the calls once the last plan is run to its end
abbrev pub calls_at_end : Day → List DayCall
calls_at_end day = calls_after day.calls (last_events day.world)

abbrev pub is_delivered_call : DayCall → Bool
is_delivered_call x = is_some x.delivered

-- how many calls are delivered at the end
abbrev pub delivered_count : Day → ℕ
delivered_count day = count_by is_delivered_call (calls_at_end day)

abbrev pub served_from : DayCall → Served
served_from x = record { call = x.id; released = x.released; boarded = unwrap_or x.boarded 0; delivered = unwrap_or x.delivered 0 }

-- The served calls of a day, in the order of their ids.
abbrev pub served_of : Day → List Served
served_of day = map served_from (calls_at_end day)

-- ---- right plans, and no call lost

-- where the row was accepted, what was printed is right in the world that it left
abbrev pub IsRightLog : (right : Snapshot → Stated → Type 0) → World → RowLog → Type 0
IsRightLog right w (Refused n fault) = Unit {0}
IsRightLog right w (Accepted n events printed) = right w.snapshot printed

abbrev pub ArePlannedFrom : (right : Snapshot → Stated → Type 0) → (printed : ℕ → Stated) → Day → (n : ℕ) → List (Option Row) → Type 0
ArePlannedFrom right printed day n [] = Unit {0}
ArePlannedFrom right printed day n (row ∷ rows) =
    let step = day_step day n row (printed n) in
    IsRightLog right step.day.world step.log × ArePlannedFrom right printed step.day (n + 1) rows

-- For each accepted row what is printed is right for the snapshot in which it is.
abbrev pub ArePlanned : (right : Snapshot → Stated → Type 0) → Snapshot → (printed : ℕ → Stated) → List (Option Row) → Type 0
ArePlanned right opening printed rows = ArePlannedFrom right printed (opening_day opening) 1 rows

-- in how many places a call is: open, aboard, delivered
abbrev pub places_of_call : Snapshot → DayCall → ℕ
places_of_call s x =
    count_by (λ (call : Call). call.id == x.id) s.calls + count_by (λ (group : Aboard). group.id == x.id) s.aboard + (if is_some x.delivered then 1 else 0)

-- Each accepted call is open, aboard one car, or delivered, and only one of these.
abbrev pub loses_none : Day → Bool
loses_none day = list_all (λ (x : DayCall). places_of_call day.world.snapshot x == 1) day.calls
