-- The legs that the events of a log end.
use Rattle.std.specs.Prelude.{ℕ, ◌+◌, ◌-◌, ◌*◌, ◌^◌, ◌==◌, ◌&&◌, nat_lt, min, max, Bool, List, reverse, find, slice_index_or, Option, None, Some, Ok, Err}
use Rattle.std.specs.Prelude.{if◌then◌else◌}
use Rattle.elevator_model.specs.Travel.{Square, time_between}
use Rattle.lift_text.specs.declared.codes.TextCode.TheVariants.{OutOfOrder, UnknownId}
use Rattle.text_sections.specs.Judging.{Judged}
use Rattle.day_text.specs.declared.rows.GoodRow.{GoodRow}
use Rattle.lift_picture.specs.declared.scenes.Leg.{Leg}
use Rattle.lift_picture.specs.declared.scenes.LegKind.TheVariants.{Wait, Ride}
use Rattle.lift_picture.specs.declared.scenes.Refusal.{Refusal}
use Rattle.lift_picture.specs.Layers.{is_wait, is_of}
use Rattle.picture_reader.specs.declared.log_legs.Serving.{Serving}
use Rattle.picture_reader.specs.declared.log_legs.Told.{Told}

-- ---- the legs before

abbrev pub is_wait_of : ℕ → Leg → Bool
is_wait_of call leg = is_wait leg && (leg.call == call)

-- the last wait of this call
abbrev pub last_wait : List Leg → ℕ → Option Leg
last_wait legs call = find (is_wait_of call) (reverse legs)

-- the last leg with an event of this car
abbrev pub last_of_car : List Leg → ℕ → Option Leg
last_of_car legs car = find (is_of car) (reverse legs)

-- ---- when a car serves an event, by its event before

-- The travel time from one floor to another; 0 where there is no such floor.
abbrev pub way_time : Square → (from to : ℕ) → ℕ
way_time t from to = if nat_lt from t.floors && nat_lt to t.floors then time_between t from to else 0

-- When it left for an event: at the last moment at which it could, but not before the persons of the one before were done.
abbrev pub left_for : Square → (opening : ℕ) → Option Leg → (moment floor : ℕ) → ℕ
left_for t opening None moment floor = moment
left_for t opening (Some before) moment floor = max before.done ((moment - way_time t before.to floor) - opening)

-- All events of a stop have its moment: the persons of one get off or on after those of the one before.
abbrev pub begun_after : Option Leg → (moment : ℕ) → ℕ
begun_after None moment = moment
begun_after (Some before) moment = if before.until == moment then before.done else moment

abbrev pub serving_of : Square → (opening : ℕ) → Option Leg → (moment floor : ℕ) → Serving
serving_of t opening before moment floor = record { left = left_for t opening before moment floor; begun = begun_after before moment }

-- this many persons, one after another; as far as 64 bits go
abbrev pub done_after : (begun persons each : ℕ) → ℕ
done_after begun persons each = min (begun + min (persons * each) (2 ^ 64 - 1)) (2 ^ 64 - 1)

-- ---- what an event ends

-- a wait, from when the call came, at its origin
abbrev pub wait_leg : (boarding : ℕ) → Serving → GoodRow → Told → Leg
wait_leg boarding serving row told = record {
  kind = Wait;
  call = told.call;
  car = told.car;
  from = row.origin;
  since = row.time;
  to = row.origin;
  until = told.moment;
  left = serving.left;
  begun = serving.begun;
  done = done_after serving.begun row.persons boarding;
}

-- a ride, from the end of the call's wait, to its destination
abbrev pub ride_leg : (alighting : ℕ) → Serving → GoodRow → (since : ℕ) → Told → Leg
ride_leg alighting serving row since told = record {
  kind = Ride;
  call = told.call;
  car = told.car;
  from = row.origin;
  since = since;
  to = row.destination;
  until = told.moment;
  left = serving.left;
  begun = serving.begun;
  done = done_after serving.begun row.persons alighting;
}

-- ---- rows

-- the row with this number, where it says one
abbrev pub row_at : List (Option GoodRow) → (number : ℕ) → Option GoodRow
row_at rows number = slice_index_or rows (number - 1) None

abbrev pub row_known : Option GoodRow → Judged GoodRow
row_known None = Err UnknownId
row_known (Some row) = Ok row

abbrev pub wait_known : Option Leg → Judged Leg
wait_known None = Err OutOfOrder
wait_known (Some leg) = Ok leg

-- where a refused row is drawn: one that says nothing at the day's beginning, on the lowest floor
abbrev pub refusal_of : (start : ℕ) → Option GoodRow → Refusal
refusal_of start None = record { moment = start; floor = 0 }
refusal_of start (Some row) = record { moment = row.time; floor = row.origin }
