-- The layers of a picture: lines of one kind and colour each.
use Rattle.std.specs.Prelude.{ℕ, ◌+◌, ◌-◌, ◌*◌, ◌%◌, ◌==◌, ◌&&◌, Bool, true, false, List, map, filter, drop, zip}
use Rattle.std.specs.List.{range_with_len}
use Rattle.lift_picture.specs.declared.scenes.Leg.{Leg}
use Rattle.lift_picture.specs.declared.scenes.LegKind.{LegKind}
use Rattle.lift_picture.specs.declared.scenes.LegKind.TheVariants.{Wait, Ride, Visit}
use Rattle.lift_picture.specs.declared.scenes.Refusal.{Refusal}
use Rattle.lift_picture.specs.declared.frames.Frame.{Frame}
use Rattle.lift_picture.specs.declared.segments.Segment.{Segment}
use Rattle.lift_picture.specs.Frames.{below, minute_step, minutes, x_at, x_of_minute, y_at}

-- a line between two moments at two floors
abbrev pub line_between : Frame → (since from until to : ℕ) → Segment
line_between f since from until to = record { x1 = x_at f since; y1 = y_at f from; x2 = x_at f until; y2 = y_at f to }

-- ---- floors and minutes

abbrev pub floor_line : Frame → ℕ → Segment
floor_line f floor = record { x1 = 60; y1 = y_at f floor; x2 = 60 + f.across; y2 = y_at f floor }

abbrev pub floor_lines : Frame → List Segment
floor_lines f = map (floor_line f) (range_with_len 0 f.floors)

-- the multiples of a step among this many numbers from 0 on
abbrev pub multiples : (count step : ℕ) → List ℕ
multiples count step = filter (λ number. (number % step) == 0) (range_with_len 0 count)

-- the minutes that have a line, counted from the first moment
abbrev pub ticks : Frame → List ℕ
ticks f = multiples (minutes f + 1) (minute_step f)

abbrev pub minute_line : Frame → ℕ → Segment
minute_line f minute = record { x1 = x_of_minute f minute; y1 = 40; x2 = x_of_minute f minute; y2 = 40 + f.up }

abbrev pub minute_lines : Frame → List ℕ → List Segment
minute_lines f minutes = map (minute_line f) minutes

-- ---- calls and cars

abbrev pub is_wait_kind : LegKind → Bool
is_wait_kind Wait = true
is_wait_kind Ride = false
is_wait_kind Visit = false

abbrev pub is_ride_kind : LegKind → Bool
is_ride_kind Wait = false
is_ride_kind Ride = true
is_ride_kind Visit = false

abbrev pub is_wait : Leg → Bool
is_wait leg = is_wait_kind leg.kind

abbrev pub is_ride : Leg → Bool
is_ride leg = is_ride_kind leg.kind

abbrev pub is_of : ℕ → Leg → Bool
is_of car leg = leg.car == car

abbrev pub is_ride_of : ℕ → Leg → Bool
is_ride_of car leg = is_ride leg && is_of car leg

-- the bar of a call that waits, at its floor
abbrev pub wait_line : Frame → Leg → Segment
wait_line f leg = record { x1 = x_at f leg.since; y1 = y_at f leg.from + below f leg.call; x2 = x_at f leg.until; y2 = y_at f leg.from + below f leg.call }

-- where a call was while it rode
abbrev pub ride_line : Frame → Leg → Segment
ride_line f leg = line_between f leg.since leg.from leg.until leg.to

abbrev pub waits_of : Frame → List Leg → List Segment
waits_of f legs = map (wait_line f) (filter is_wait legs)

abbrev pub rides_of : Frame → List Leg → (car : ℕ) → List Segment
rides_of f legs car = map (ride_line f) (filter (is_ride_of car) legs)

-- where the persons of an event get off or on
abbrev pub doors_line : Frame → Leg → Segment
doors_line f leg = line_between f leg.begun leg.to leg.done leg.to

-- one for each event of the car
abbrev pub doors_of : Frame → List Leg → (car : ℕ) → List Segment
doors_of f legs car = map (doors_line f) (filter (is_of car) legs)

-- where the car stands after one event, until it leaves for the next
abbrev pub stand_line : Frame → (before leg : Leg) → Segment
stand_line f before leg = line_between f before.done before.to leg.left before.to

-- and its way to that one
abbrev pub way_line : Frame → (before leg : Leg) → Segment
way_line f before leg = line_between f leg.left before.to leg.begun leg.to

-- each event of the car with the next
abbrev pub stands_of : Frame → (own : List Leg) → List Segment
stands_of f own = map (λ p. stand_line f p.0 p.1) (zip own (drop 1 own))

abbrev pub ways_of : Frame → (own : List Leg) → List Segment
ways_of f own = map (λ p. way_line f p.0 p.1) (zip own (drop 1 own))

-- ---- refused rows

-- the two lines of a cross
abbrev pub fall_at : (x y : ℕ) → Segment
fall_at x y = record { x1 = x - 4; y1 = y - 4; x2 = x + 4; y2 = y + 4 }

abbrev pub rise_at : (x y : ℕ) → Segment
rise_at x y = record { x1 = x - 4; y1 = y + 4; x2 = x + 4; y2 = y - 4 }

abbrev pub falls_of : Frame → List Refusal → List Segment
falls_of f refusals = map (λ (r : Refusal). fall_at (x_at f r.moment) (y_at f r.floor)) refusals

abbrev pub rises_of : Frame → List Refusal → List Segment
rises_of f refusals = map (λ (r : Refusal). rise_at (x_at f r.moment) (y_at f r.floor)) refusals

-- ---- the legend

abbrev pub legend_y : ℕ → ℕ
legend_y place = 40 + 18 * place

-- the sample in a line of the legend
abbrev pub sample_line : Frame → (place : ℕ) → Segment
sample_line f place = record { x1 = f.width - 135; y1 = legend_y place; x2 = f.width - 115; y2 = legend_y place }

-- and where the middle of a cross is
abbrev pub sample_x : Frame → ℕ
sample_x f = f.width - 125
