-- What has happened by a moment: stops done, events, and the snapshot and tours that are left.
use Rattle.std.specs.Prelude.{ℕ, ◌≤◌, ◌+◌, ◌-◌, ◌==◌, ◌&&◌, not, nat_le, nat_lt, List, [], ◌∷◌, ◌++◌, length, map, flat_map, filter, drop, Bool, if◌then◌else◌}
use Rattle.std.specs.List.{range_with_len}
use Rattle.elevator_model.specs.declared.Stop.{Stop}
use Rattle.elevator_model.specs.declared.Aboard.{Aboard}
use Rattle.elevator_model.specs.declared.Call.{Call}
use Rattle.elevator_model.specs.declared.CarState.{CarState}
use Rattle.elevator_model.specs.declared.CarState.TheVariants.{Idle, Coming, Moving}
use Rattle.call_sets.specs.Counting.{any_below, sum_where}
use Rattle.elevator_model.specs.Snapshot.{Snapshot, IsAccepted, car_count, call_count, call_of, group_of, spec_of, state_of, is_open}
use Rattle.elevator_model.specs.Tours.{Progress, rider_count, destination_of, persons_of, is_aboard, start_of, arrival, make_stop, after_stops}
use Rattle.elevator_model.specs.Plans.{IsFeasiblePlan, tour_of}
use Rattle.elevator_model.specs.Partial.{rising_boards}
use Rattle.search_model.specs.declared.Event.{Event}
use Rattle.search_model.specs.declared.Event.TheVariants.{Board, Deliver}

-- A snapshot and the plan that holds in it.
pub record World : Type 0 where
  pub snapshot : Snapshot
  pub plan : List (List Stop)

-- ---- stops done

-- the stops that are reached at the moment t or before, of stops that follow
abbrev pub done_from : Snapshot → ℕ → (t : ℕ) → Progress → List Stop → List Stop
done_from s c t p [] = []
done_from s c t p (stop ∷ stops) =
    if nat_le (arrival s c p stop.floor) t then stop ∷ done_from s c t (make_stop s c p stop) stops else []

abbrev pub done_by : World → (t : ℕ) → ℕ → List Stop
done_by w t c = done_from w.snapshot c t (start_of w.snapshot c) (tour_of w.plan c)

-- the stops that are left
abbrev pub left_at : World → (t : ℕ) → ℕ → List Stop
left_at w t c = drop (length (done_by w t c)) (tour_of w.plan c)

-- where the car is after the stops done
abbrev pub progress_at : World → (t : ℕ) → ℕ → Progress
progress_at w t c = after_stops w.snapshot c (start_of w.snapshot c) (done_by w t c)

-- ---- events

abbrev pub id_of_rider : Snapshot → ℕ → ℕ
id_of_rider s r = if nat_lt r (call_count s) then (call_of s r).id else (group_of s (r - call_count s)).id

-- a call put into calls that stand in the order of their ids
abbrev pub insert_by_id : Snapshot → ℕ → List ℕ → List ℕ
insert_by_id s j [] = j ∷ []
insert_by_id s j (k ∷ ks) = if nat_lt (call_of s k).id (call_of s j).id then k ∷ insert_by_id s j ks else j ∷ k ∷ ks

abbrev pub by_id : Snapshot → List ℕ → List ℕ
by_id s [] = []
by_id s (j ∷ js) = insert_by_id s j (by_id s js)

-- the calls that board at the stop, in the order of their ids
abbrev pub boards_by_id : Snapshot → Stop → List ℕ
boards_by_id s stop = by_id s (rising_boards s stop.boards)

-- the groups aboard the car, in their order
abbrev pub riders_at_start : Snapshot → ℕ → List ℕ
riders_at_start s c = filter (is_aboard s c) (range_with_len (call_count s) (length s.aboard))

-- those who ride on after the stop, in the order in which they boarded
abbrev pub riders_after : Snapshot → List ℕ → Stop → List ℕ
riders_after s riders stop = filter (λ r. not (destination_of s r == stop.floor)) riders ++ boards_by_id s stop

abbrev pub riders_after_all : Snapshot → List ℕ → List Stop → List ℕ
riders_after_all s riders [] = riders
riders_after_all s riders (stop ∷ stops) = riders_after_all s (riders_after s riders stop) stops

abbrev pub boarding : Snapshot → (c moment : ℕ) → ℕ → Event
boarding s c moment r = Board (id_of_rider s r) (spec_of s c).id moment

abbrev pub delivery : Snapshot → (c moment : ℕ) → ℕ → Event
delivery s c moment r = Deliver (id_of_rider s r) (spec_of s c).id moment

-- At a stop the deliveries come in the order of boarding, and then the boards in the order of ids.
abbrev pub events_at : Snapshot → (c moment : ℕ) → List ℕ → Stop → List Event
events_at s c moment riders stop =
    map (delivery s c moment) (filter (λ r. destination_of s r == stop.floor) riders) ++ map (boarding s c moment) (boards_by_id s stop)

abbrev pub events_from : Snapshot → ℕ → List ℕ → Progress → List Stop → List Event
events_from s c riders p [] = []
events_from s c riders p (stop ∷ stops) =
    let next = make_stop s c p stop in
    events_at s c next.opened riders stop ++ events_from s c (riders_after s riders stop) next stops

-- the events of stops of the car's tour, from its start
abbrev pub events_of_car : Snapshot → ℕ → List Stop → List Event
events_of_car s c stops = events_from s c (riders_at_start s c) (start_of s c) stops

abbrev pub for_cars : {X : Type 0} → Snapshot → (ℕ → List X) → List X
for_cars s f = flat_map f (range_with_len 0 (car_count s))

-- The events up to the moment t: the cars in order, and their stops in order.
abbrev pub events_by : World → (t : ℕ) → List Event
events_by w t = for_cars w.snapshot (λ c. events_of_car w.snapshot c (done_by w t c))

-- The events of all stops of the plan.
abbrev pub last_events : World → List Event
last_events w = for_cars w.snapshot (λ c. events_of_car w.snapshot c (tour_of w.plan c))

-- ---- the snapshot that follows

-- the car can still stop at this stop and at the destination of everyone whom it carries
abbrev pub can_still_choose : Snapshot → ℕ → (t : ℕ) → Progress → CarState → Stop → Bool
can_still_choose s c t p state stop =
    is_open s.building c t state stop.floor && not (any_below (rider_count s) (λ r. p.carried r && not (is_open s.building c t state (destination_of s r))))

-- it comes to the stop at its arrival
abbrev pub comes_to : Snapshot → ℕ → Progress → Stop → CarState
comes_to s c p stop = Coming stop.floor (arrival s c p stop.floor)

-- It has left the floor of its last stop: on the way to the next one, or with nowhere to go.
abbrev pub state_under_way : Snapshot → ℕ → (t : ℕ) → Progress → List Stop → CarState
state_under_way s c t p [] = Idle p.floor t
state_under_way s c t p (stop ∷ stops) =
    let moving : CarState = Moving p.floor (nat_lt p.floor stop.floor) p.leaves in
    if (s.version == 2) && can_still_choose s c t p moving stop then moving else comes_to s c p stop

abbrev pub state_standing : Snapshot → ℕ → (t : ℕ) → Progress → List Stop → CarState
state_standing s c t p stops = if nat_le t p.leaves then Idle p.floor p.leaves else state_under_way s c t p stops

abbrev pub state_moving : Snapshot → ℕ → (t : ℕ) → Progress → CarState → List Stop → CarState
state_moving s c t p state [] = state
state_moving s c t p state (stop ∷ stops) = if can_still_choose s c t p state stop then state else comes_to s c p stop

-- no stop is done
abbrev pub state_before_stops : Snapshot → ℕ → (t : ℕ) → Progress → CarState → List Stop → CarState
state_before_stops s c t p (Idle floor free) stops = state_standing s c t p stops
state_before_stops s c t p (Coming floor arrives) stops = Coming floor arrives
state_before_stops s c t p (Moving from up left) stops = state_moving s c t p (Moving from up left) stops

-- The car's state at the moment t, where it is after the stops done and has these stops left.
abbrev pub state_then : Snapshot → ℕ → (t : ℕ) → Progress → List Stop → CarState
state_then s c t p stops = if p.begun then state_standing s c t p stops else state_before_stops s c t p (state_of s c) stops

-- the group aboard has not got off
abbrev pub rides_on : World → (t : ℕ) → ℕ → Bool
rides_on w t k = (progress_at w t (group_of w.snapshot k).car).carried (call_count w.snapshot + k)

abbrev pub group_from : Snapshot → (c : ℕ) → Progress → ℕ → Aboard
group_from s c p r = record { id = (call_of s r).id; car = c; destination = destination_of s r; persons = persons_of s r; boarded = p.boarded_at r }

-- the calls that boarded the car and ride on, as groups, in the order of their boarding
abbrev pub new_groups : World → (t : ℕ) → ℕ → List Aboard
new_groups w t c =
    let s = w.snapshot in
    map (group_from s c (progress_at w t c)) (filter (λ r. nat_lt r (call_count s)) (riders_after_all s (riders_at_start s c) (done_by w t c)))

-- Those who stayed aboard, in their order, and then the new groups.
abbrev pub aboard_at : World → (t : ℕ) → List Aboard
aboard_at w t =
    map (group_of w.snapshot) (filter (rides_on w t) (range_with_len 0 (length w.snapshot.aboard))) ++ for_cars w.snapshot (new_groups w t)

-- the call has boarded no car
abbrev pub is_waiting : World → (t : ℕ) → ℕ → Bool
is_waiting w t j = not (any_below (car_count w.snapshot) (λ c. (progress_at w t c).boarded j))

abbrev pub calls_at : World → (t : ℕ) → List Call
calls_at w t = map (call_of w.snapshot) (filter (is_waiting w t) (range_with_len 0 (call_count w.snapshot)))

-- the index of a call among those that wait
abbrev pub index_at : World → (t : ℕ) → ℕ → ℕ
index_at w t j = sum_where j (is_waiting w t) (λ _. 1)

abbrev pub stop_then : World → (t : ℕ) → Stop → Stop
stop_then w t stop = record { floor = stop.floor; boards = map (index_at w t) stop.boards }

-- The world at the moment t.
abbrev pub advanced : World → (t : ℕ) → World
advanced w t =
    let s = w.snapshot in
    record {
      snapshot = record {
        version = s.version;
        building = s.building;
        moment = t;
        states = map (λ c. state_then s c t (progress_at w t c) (left_at w t c)) (range_with_len 0 (car_count s));
        aboard = aboard_at w t;
        calls = calls_at w t;
      };
      plan = map (λ c. map (stop_then w t) (left_at w t c)) (range_with_len 0 (car_count s));
    }

-- A feasible plan of an accepted snapshot leaves an accepted snapshot, and the rest of it is feasible there.
pub record StaysAccepted (w : World) (t : ℕ) : Type 0 where
  pub accepted : IsAccepted (advanced w t).snapshot
  pub feasible : IsFeasiblePlan (advanced w t).snapshot (advanced w t).plan

abbrev pub AdvanceLaw : Type 0
AdvanceLaw = (w : World) (t : ℕ) → IsAccepted w.snapshot → IsFeasiblePlan w.snapshot w.plan → w.snapshot.moment ≤ t → t ≤ 1000000000 → StaysAccepted w t
