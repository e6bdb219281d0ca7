-- Events come early, so that sums of their moments stay small.
use Rattle.std.proofs.Common.{ℕ, zero, suc, ◌+◌, ◌<◌, ◌≤◌, Bool, true, false, cond, ltb, List, [], ◌∷◌, All, map, arith, Some, None}
use Rattle.std.specs.List.{flat_map, range_with_len, filter}
use Rattle.std.specs.Prelude.{◌==◌}
use Rattle.std.proofs.lemmas.List.Elements.{All-nil, All-cons, All-append, All-map, All-weaker, All-head, All-tail}
use Rattle.std.proofs.lemmas.Bool.{and_parts, ltb-true}
use Rattle.elevator_model.specs.declared.Stop.{Stop}
use Rattle.search_model.specs.declared.Event.{Event}
use Rattle.search_model.specs.declared.Event.TheVariants.{Board, Deliver}
use Rattle.elevator_model.specs.Building.{floor_count}
use Rattle.elevator_model.specs.Snapshot.{Snapshot, IsAccepted, IsTimely, car_count, state_of, floor_of, moment_of}
use Rattle.elevator_model.specs.declared.CarState.{CarState}
use Rattle.elevator_model.specs.declared.CarState.TheVariants.{Idle, Coming, Moving}
use Rattle.elevator_model.specs.Plans.{IsFeasiblePlan, tour_of}
use Rattle.elevator_model.specs.Tours.{Progress, destination_of, start_of, make_stop, none_taken}
use Rattle.search_model.specs.Advancing.{World, boards_by_id, riders_after, riders_at_start, boarding, delivery, done_by, events_at, events_from, events_of_car}
use Rattle.search_model.specs.Advancing.{events_by, last_events}
use Rattle.search_model.specs.Days.{DayCall, noted_in, calls_after, served_from}
use Rattle.tour_rules.proofs.Sound.{AllFine}
use Rattle.tour_rules.proofs.Stops.{fine_floor}
use Rattle.tour_rules.proofs.Moments.{latest, latest_falls, latest_start}
use Rattle.tour_cost.proofs.Short.{AllFine-feasible}
use Rattle.day_state.proofs.Boarding.{planned}
use Rattle.day_laws.specs.Standing.{IsEarly}

abbrev moment_of_event : Event → ℕ
moment_of_event (Board call car moment) = moment
moment_of_event (Deliver call car moment) = moment

abbrev pub IsEarlyEvent : Event → Type 0
IsEarlyEvent event = moment_of_event event ≤ 10000000000

abbrev pub IsEarlyCall : DayCall → Type 0
IsEarlyCall x = IsEarly (served_from x)

each : {X : Type 0} (P : X → Type 0) (xs : List X) → ((x : X) → P x) → All P xs
each P [] h = All-nil P
each P (x ∷ xs) h = All-cons P x xs (h x) (each P xs h)

-- ---- events

early-at : (s : Snapshot) (c moment : ℕ) (riders : List ℕ) (stop : Stop) → moment ≤ 10000000000 → All IsEarlyEvent (events_at s c moment riders stop)
early-at s c moment riders stop h =
    let off = filter (λ r. destination_of s r == stop.floor) riders in
    let on = boards_by_id s stop in
    All-append IsEarlyEvent (map (delivery s c moment) off) (map (boarding s c moment) on)
    (All-map IsEarlyEvent (delivery s c moment) off (each (λ (r : ℕ). IsEarlyEvent (delivery s c moment r)) off (λ r. h)))
    (All-map IsEarlyEvent (boarding s c moment) on (each (λ (r : ℕ). IsEarlyEvent (boarding s c moment r)) on (λ r. h)))

early-from : (s : Snapshot) (c : ℕ) (riders : List ℕ) (p : Progress) (stops : List Stop) → IsAccepted s → c < car_count s → p.floor < floor_count s.building
    → latest s p ≤ 8000000000 → AllFine s c p stops → All IsEarlyEvent (events_from s c riders p stops)
early-from s c riders p [] a below from most fine = All-nil IsEarlyEvent
early-from s c riders p (stop ∷ stops) a below from most fine =
    let next = make_stop s c p stop in
    let falls = latest_falls s c p stop a below from fine.0 in
    let later : latest s next ≤ 8000000000 = omega (arith, falls, most) in
    let opened : next.opened ≤ 10000000000 = omega (arith, later) in
    All-append IsEarlyEvent (events_at s c next.opened riders stop) (events_from s c (riders_after s riders stop) next stops)
    (early-at s c next.opened riders stop opened)
    (early-from s c (riders_after s riders stop) next stops a below (fine_floor s c none_taken p stop fine.0) later fine.1)

timely : (s : Snapshot) (c : ℕ) (state : CarState) → s.moment ≤ 1000000000 → IsTimely s c state → moment_of state ≤ 1100000000
timely s c (Idle floor free) h t = let late = t.1 in omega (arith, late, h)
timely s c (Coming floor arrives) h t = let late = t.1 in omega (arith, late, h)
timely s c (Moving from up left) h t = let late = t.0 in omega (arith, late, h)

early-car : (s : Snapshot) (c : ℕ) (stops : List Stop) → IsAccepted s → c < car_count s → AllFine s c (start_of s c) stops
    → All IsEarlyEvent (events_of_car s c stops)
early-car s c stops a below fine =
    let placed = a.placed c below in
    let moment = timely s c (state_of s c) a.moment placed.timely in
    let floor : floor_of (state_of s c) < floor_count s.building =
    ltb-true (floor_of (state_of s c)) (floor_count s.building) (and_parts (ltb (floor_of (state_of s c)) (floor_count s.building)) _ placed.served).0 in
    early-from s c (riders_at_start s c) (start_of s c) stops a below floor (latest_start s c a below moment) fine

early-cars : (f : ℕ → List Event) (first n most : ℕ) → first + n ≤ most → ((c : ℕ) → c < most → All IsEarlyEvent (f c))
    → All IsEarlyEvent (flat_map f (range_with_len first n))
early-cars f first zero most low h = All-nil IsEarlyEvent
early-cars f first (suc n) most low h =
    All-append IsEarlyEvent (f first) (flat_map f (range_with_len (first + 1) n)) (h first (omega (arith, low)))
    (early-cars f (first + 1) n most (omega (arith, low)) h)

pub early-events : (w : World) (t : ℕ) → IsAccepted w.snapshot → IsFeasiblePlan w.snapshot w.plan → All IsEarlyEvent (events_by w t)
early-events w t a f = early-cars (λ c. events_of_car w.snapshot c (done_by w t c)) 0 (car_count w.snapshot) (car_count w.snapshot) (omega arith)
    (λ c below. early-car w.snapshot c (done_by w t c) a below (planned w t c f below).done)

pub early-last : (w : World) → IsAccepted w.snapshot → IsFeasiblePlan w.snapshot w.plan → All IsEarlyEvent (last_events w)
early-last w a f = early-cars (λ c. events_of_car w.snapshot c (tour_of w.plan c)) 0 (car_count w.snapshot) (car_count w.snapshot) (omega arith)
    (λ c below. early-car w.snapshot c (tour_of w.plan c) a below
    (AllFine-feasible w.snapshot c (start_of w.snapshot c) 1 (tour_of w.plan c) (f.tours c below)))

-- ---- calls

early-board : (b : Bool) (x : DayCall) (moment : ℕ) → moment ≤ 10000000000 → IsEarlyCall x
    → IsEarlyCall (cond b (record { id = x.id; released = x.released; boarded = Some moment; delivered = x.delivered }) x)
early-board true x moment h early = record { boarded = h; delivered = early.delivered }
early-board false x moment h early = early

early-deliver : (b : Bool) (x : DayCall) (moment : ℕ) → moment ≤ 10000000000 → IsEarlyCall x
    → IsEarlyCall (cond b (record { id = x.id; released = x.released; boarded = x.boarded; delivered = Some moment }) x)
early-deliver true x moment h early = record { boarded = early.boarded; delivered = h }
early-deliver false x moment h early = early

early-noted : (event : Event) (x : DayCall) → IsEarlyEvent event → IsEarlyCall x → IsEarlyCall (noted_in event x)
early-noted (Board call car moment) x h early = early-board (x.id == call) x moment h early
early-noted (Deliver call car moment) x h early = early-deliver (x.id == call) x moment h early

pub early-after : (calls : List DayCall) (events : List Event) → All IsEarlyEvent events → All IsEarlyCall calls → All IsEarlyCall (calls_after calls events)
early-after calls [] h early = early
early-after calls (event ∷ events) h early =
    early-after (map (noted_in event) calls) events (All-tail IsEarlyEvent event events h)
    (All-map IsEarlyCall (noted_in event) calls
    (All-weaker IsEarlyCall (λ (x : DayCall). IsEarlyCall (noted_in event x))
    (λ x is. early-noted event x (All-head IsEarlyEvent event events h) is) calls early))

pub early-new : (id released : ℕ) → IsEarlyCall (record { id = id; released = released; boarded = None; delivered = None })
early-new id released = record { boarded = omega arith; delivered = omega arith }

-- all that is told at the end is early
pub early-served : (w : World) (calls : List DayCall) → IsAccepted w.snapshot → IsFeasiblePlan w.snapshot w.plan → All IsEarlyCall calls
    → All IsEarly (map served_from (calls_after calls (last_events w)))
early-served w calls a f early = All-map IsEarly served_from (calls_after calls (last_events w)) (early-after calls (last_events w) (early-last w a f) early)
