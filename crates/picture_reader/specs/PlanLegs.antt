-- What is drawn of a plan.
use Rattle.std.specs.Prelude.{ℕ, ◌+◌, ◌-◌, ◌^◌, ◌==◌, not, min, Bool, List, [], ◌∷◌, ◌++◌, map, filter, slice_index_or}
use Rattle.std.specs.List.{flat_map, range_with_len}
use Rattle.elevator_model.specs.declared.Aboard.{Aboard}
use Rattle.elevator_model.specs.declared.Stop.{Stop}
use Rattle.elevator_model.specs.Snapshot.{Snapshot, call_of, car_count, floor_of, state_of}
use Rattle.lift_picture.specs.declared.scenes.Leg.{Leg}
use Rattle.lift_picture.specs.declared.scenes.LegKind.TheVariants.{Wait, Ride, Visit}
use Rattle.picture_reader.specs.declared.plan_tours.Halt.{Halt}
use Rattle.picture_reader.specs.declared.plan_tours.Rider.{Rider}

-- ---- moments: a minute for each stop, as far as 64 bits go

abbrev pub later : ℕ → ℕ
later moment = min (moment + 60000) (2 ^ 64 - 1)

-- ---- what happens at a stop

-- the car comes here, from where it left at this moment
abbrev pub visit_leg : Halt → (left : ℕ) → Leg
visit_leg h left = record
    { kind = Visit; call = 0; car = h.car; from = h.floor; since = left; to = h.floor; until = h.moment; left = left; begun = h.moment; done = h.moment }

-- the ride ends that this rider began
abbrev pub ride_leg : Halt → Rider → Leg
ride_leg h rider = record {
  kind = Ride;
  call = rider.number;
  car = h.car;
  from = rider.from;
  since = rider.since;
  to = h.floor;
  until = h.moment;
  left = h.moment;
  begun =
      h.moment;
  done = h.moment;
}

-- the wait ends of this call, at its origin, which began before the plan
abbrev pub wait_leg : Snapshot → Halt → ℕ → Leg
wait_leg s h call = record {
  kind = Wait;
  call = call;
  car = h.car;
  from = (call_of s call).origin;
  since = 0;
  to = h.floor;
  until = h.moment;
  left = h.moment;
  begun =
      h.moment;
  done = h.moment;
}

abbrev pub gets_off : (floor : ℕ) → Rider → Bool
gets_off floor rider = rider.destination == floor

abbrev pub rides_ended : Halt → List Rider → List Leg
rides_ended h riders = map (ride_leg h) (filter (gets_off h.floor) riders)

abbrev pub waits_ended : Snapshot → Halt → List ℕ → List Leg
waits_ended s h boards = map (wait_leg s h) boards

-- the stop, who gets off, and who boards
unfoldable pub stop_legs : Snapshot → Halt → (left : ℕ) → List Rider → List ℕ → List Leg
stop_legs s h left riders boards = visit_leg h left ∷ rides_ended h riders ++ waits_ended s h boards

-- ---- who rides after a stop

abbrev pub boarded_at : Snapshot → Halt → ℕ → Rider
boarded_at s h call = record { number = call; from = h.floor; since = h.moment; destination = (call_of s call).destination }

abbrev pub riders_staying : Halt → List Rider → List Rider
riders_staying h riders = filter (λ (rider : Rider). not (gets_off h.floor rider)) riders

abbrev pub riders_boarding : Snapshot → Halt → List ℕ → List Rider
riders_boarding s h boards = map (boarded_at s h) boards

abbrev pub riders_after : Snapshot → Halt → List Rider → List ℕ → List Rider
riders_after s h riders boards = riders_staying h riders ++ riders_boarding s h boards

-- ---- a tour

abbrev pub halt_at : (car left : ℕ) → Stop → Halt
halt_at car left stop = record { car = car; floor = stop.floor; moment = later left }

-- the stops of a car that leaves for the first of them at this moment, with these riders
abbrev pub tour_legs : Snapshot → (car left : ℕ) → List Rider → List Stop → List Leg
tour_legs s car left riders [] = []
tour_legs s car left riders (stop ∷ stops) =
    stop_legs s (halt_at car left stop) left riders stop.boards
    ++ tour_legs s car (later left) (riders_after s (halt_at car left stop) riders stop.boards) stops

abbrev pub rider_aboard : (floor : ℕ) → Aboard → Rider
rider_aboard floor group = record { number = group.id; from = floor; since = 0; destination = group.destination }

abbrev pub riders_aboard : Snapshot → (car floor : ℕ) → List Rider
riders_aboard s car floor = map (rider_aboard floor) (filter (λ (group : Aboard). group.car == car) s.aboard)

abbrev pub here : (car floor : ℕ) → Halt
here car floor = record { car = car; floor = floor; moment = 0 }

-- where the car is, and its tour
unfoldable pub car_legs : Snapshot → (car : ℕ) → List Stop → List Leg
car_legs s car stops = visit_leg (here car (floor_of (state_of s car))) 0 ∷ tour_legs s car 0 (riders_aboard s car (floor_of (state_of s car))) stops

-- ---- a plan

abbrev pub car_legs_in : Snapshot → List (List Stop) → (car : ℕ) → List Leg
car_legs_in s plan car = car_legs s car (slice_index_or plan car [])

abbrev pub plan_legs : Snapshot → List (List Stop) → List Leg
plan_legs s plan = flat_map (car_legs_in s plan) (range_with_len 0 (car_count s))
