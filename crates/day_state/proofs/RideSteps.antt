-- A ride after one more stop, and at the end of its stops.
use Rattle.std.proofs.Common.{◌≡◌, ◌==◌, ℕ, ◌+◌, ◌<◌, ◌≤◌, Bool, true, cond, not, ◌&&◌, ltb, leb, List, [], ◌∷◌, ◌++◌, take, drop, length, get_or, refl, sym}
use Rattle.std.proofs.Common.{ap, ◌∙◌, subst, arith, append_assoc, append-nil}
use Rattle.std.specs.List.{filter, range_with_len}
use Rattle.std.proofs.lemmas.Bool.{cond-true, cond-false, lt-leb, le-leb}
use Rattle.std.proofs.lemmas.List.{take_more, drop_all, length-take-le}
use Rattle.elevator_model.specs.declared.Stop.{Stop}
use Rattle.call_sets.specs.Counting.{has, is_among}
use Rattle.call_sets.proofs.Listed.{listed-all}
use Rattle.elevator_model.specs.Snapshot.{Snapshot, IsAccepted, car_count, call_count}
use Rattle.elevator_model.specs.Tours.{Progress, destination_of, boards_at, make_stop, stop_at, after_stops, start_of, arrival, IsFeasible}
use Rattle.search_model.specs.declared.Event.{Event}
use Rattle.search_model.specs.Advancing.{done_from, by_id, boards_by_id, riders_after, riders_after_all, riders_at_start, events_at, events_from, events_of_car}
use Rattle.tour_rules.specs.declared.walking.Walker.{Walker}
use Rattle.tour_rules.specs.Places.{IsBoardSet}
use Rattle.tour_rules.specs.Walking.{Walks}
use Rattle.tour_rules.proofs.BoundedTests.{same_function}
use Rattle.tour_rules.proofs.GettingOff.{boards_at-call}
use Rattle.tour_rules.proofs.Riders.{boards_set}
use Rattle.tour_cost.proofs.Short.{calls-le, stops-le}
use Rattle.tour_cost.proofs.Walked.{IsWalked, progress, IsStopOf, stop_of, fine-here, rest-more, progress-more, IsWalked-stop}
use Rattle.day_state.specs.declared.rides.Ride.{Ride}
use Rattle.day_state.specs.Riding.{Rides}

-- ---- who is aboard, and what happened, after one more stop

pub riders-push : (s : Snapshot) (riders : List ℕ) (stops : List Stop) (stop : Stop)
    → riders_after_all s riders (stops ++ stop ∷ []) ≡ riders_after s (riders_after_all s riders stops) stop
riders-push s riders [] stop = refl
riders-push s riders (x ∷ stops) stop = riders-push s (riders_after s riders x) stops stop

pub events-push : (s : Snapshot) (c : ℕ) (riders : List ℕ) (p : Progress) (stops : List Stop) (stop : Stop)
    → events_from s c riders p (stops ++ stop ∷ []) ≡ events_from s c riders p stops
    ++ events_at s c (make_stop s c (after_stops s c p stops) stop).opened (riders_after_all s riders stops) stop
events-push s c riders p [] stop = append-nil (events_at s c (make_stop s c p stop).opened riders stop)
events-push s c riders p (x ∷ stops) stop =
    let here = events_at s c (make_stop s c p x).opened riders x in
    let more = events-push s c (riders_after s riders x) (make_stop s c p x) stops stop in
    ap (λ (xs : List Event). here ++ xs) more
    ∙ sym (append_assoc here (events_from s c (riders_after s riders x) (make_stop s c p x) stops)
    (events_at s c (make_stop s c (after_stops s c (make_stop s c p x) stops) stop).opened (riders_after_all s (riders_after s riders x) stops) stop))

-- the riders of the car after the first i stops, and what happened there
abbrev pub riders_of : Snapshot → ℕ → List Stop → ℕ → List ℕ
riders_of s c tour i = riders_after_all s (riders_at_start s c) (take i tour)

abbrev pub events_of : Snapshot → ℕ → List Stop → ℕ → List Event
events_of s c tour i = events_of_car s c (take i tour)

stops-more : (tour : List Stop) (i : ℕ) (stop : Stop) → i < length tour → stop ≡ get_or tour i stop → take (i + 1) tour ≡ take i tour ++ stop ∷ []
stops-more tour i stop lt e = take_more tour i stop lt ∙ ap (λ (x : Stop). take i tour ++ x ∷ []) (sym e)

riders-more : (s : Snapshot) (c : ℕ) (tour : List Stop) (i : ℕ) (stop : Stop) → i < length tour → stop ≡ get_or tour i stop
    → riders_of s c tour (i + 1) ≡ riders_after s (riders_of s c tour i) stop
riders-more s c tour i stop lt e =
    ap (riders_after_all s (riders_at_start s c)) (stops-more tour i stop lt e) ∙ riders-push s (riders_at_start s c) (take i tour) stop

events-more : (s : Snapshot) (c : ℕ) (tour : List Stop) (i : ℕ) (stop : Stop) → i < length tour → stop ≡ get_or tour i stop
    → events_of s c tour (i + 1) ≡ events_of s c tour i ++ events_at s c (make_stop s c (progress s c tour i) stop).opened (riders_of s c tour i) stop
events-more s c tour i stop lt e =
    ap (events_of_car s c) (stops-more tour i stop lt e) ∙ events-push s c (riders_at_start s c) (start_of s c) (take i tour) stop

-- ---- a stop of the code's ride

-- the calls that board, in the order of their ids
pub boards-are : (s : Snapshot) (stop : Stop) (set : ℕ) → ((j : ℕ) → has set j ≡ is_among j stop.boards)
    → by_id s (filter (has set) (range_with_len 0 (call_count s))) ≡ boards_by_id s stop
boards-are s stop set same =
    ap (λ (t : ℕ → Bool). by_id s (filter t (range_with_len 0 (call_count s)))) (same_function (has set) (λ j. is_among j stop.boards) same)

-- the set has the calls of the stop
pub stop-set : (s : Snapshot) (stop : Stop) (boards : List ℕ) (set : ℕ) → IsAccepted s → ((j : ℕ) → is_among j stop.boards ≡ true → j < call_count s)
    → boards ≡ stop.boards → ((k : ℕ) → has set k ≡ (ltb k 128 && is_among k boards)) → (j : ℕ) → has set j ≡ is_among j stop.boards
stop-set s stop boards set a calls same listed =
    let few = calls-le s a in
    listed-all stop.boards set (λ k. listed k ∙ ap (λ (xs : List ℕ). ltb k 128 && is_among k xs) same)
    (λ j h. let below = calls j h in omega (arith, few, below))

pub set-walks : (s : Snapshot) (c : ℕ) (walker next : Walker) (stop : Stop) (set : ℕ)
    → ((p : Progress) (test : ℕ → Bool) → Walks s c walker p → IsBoardSet s set test → Walks s c next (stop_at s c p stop.floor test))
    → ((j : ℕ) → has set j ≡ is_among j stop.boards) → (p : Progress) → Walks s c walker p → Walks s c next (make_stop s c p stop)
set-walks s c walker next stop set stops same p walks = stops p (boards_at s stop) walks (boards_set s set stop (λ j _. same j))

noted-at : (s : Snapshot) (c : ℕ) (p : Progress) (stop : Stop) (set moment j : ℕ) (before after : List ℕ) → j < call_count s
    → moment ≡ (make_stop s c p stop).opened → has set j ≡ is_among j stop.boards → get_or before j 0 ≡ p.boarded_at j
    → get_or after j 0 ≡ cond (has set j) moment (get_or before j 0) → get_or after j 0 ≡ (make_stop s c p stop).boarded_at j
noted-at s c p stop set moment j before after below opened same was noted =
    noted ∙ ap (λ (b : Bool). cond b moment (get_or before j 0)) (same ∙ sym (boards_at-call s stop j below))
    ∙ ap (λ (m : ℕ). cond (boards_at s stop j) m (get_or before j 0)) opened ∙ ap (λ (m : ℕ). cond (boards_at s stop j) (make_stop s c p stop).opened m) was

-- The ride after the stop is where the definition's car is.
pub rides-stop : (s : Snapshot) (c : ℕ) (ride next : Ride) (stop : Stop) (set : ℕ) → ((j : ℕ) → has set j ≡ is_among j stop.boards)
    → ((p : Progress) → Walks s c ride.walker p → Walks s c next.walker (make_stop s c p stop))
    → next.riders.items ≡ filter (λ r. not (destination_of s r == stop.floor)) ride.riders.items ++ boards_by_id s stop
    → length next.boarded_at.items ≡ length ride.boarded_at.items
    → ((j : ℕ) → j < length ride.boarded_at.items → get_or next.boarded_at.items j 0 ≡ cond (has set j) next.walker.opened (get_or ride.boarded_at.items j 0))
    → (p : Progress) (riders : List ℕ) → Rides s c ride p riders → Rides s c next (make_stop s c p stop) (riders_after s riders stop)
rides-stop s c ride next stop set same walks riders_are count noted p riders r =
    let there = walks p r.walks in
    record {
      walks = there;
      aboard = riders_are ∙ ap (λ (xs : List ℕ). riders_after s xs stop) r.aboard;
      counted = count ∙ r.counted;
      boarded = λ j below.
          noted-at s c p stop set next.walker.opened j ride.boarded_at.items next.boarded_at.items below there.opened (same j) (r.boarded j below)
          (noted j (let counted = r.counted in omega (arith, counted, below)));
    }

-- ---- along the stops

pub record IsRidden (s : Snapshot) (c : ℕ) (tour : List Stop) (i : ℕ) (ride : Ride) : Type 0 where
  pub walked : IsWalked s c tour i ride.walker
  pub rides : Rides s c ride (progress s c tour i) (riders_of s c tour i)

pub ridden-stop : (s : Snapshot) (c : ℕ) (tour : List Stop) (i : ℕ) (ride next : Ride) (stop : Stop) → IsRidden s c tour i ride → i < length tour
    → stop ≡ get_or tour i stop
    → ((p : Progress) (riders : List ℕ) → Rides s c ride p riders → Rides s c next (make_stop s c p stop) (riders_after s riders stop))
    → next.walker.place.floor ≡ stop.floor → next.walker.leaves ≤ ride.walker.leaves + 150000000 → IsRidden s c tour (i + 1) next
ridden-stop s c tour i ride next stop ridden lt e rides floor leaves =
    let there = rides (progress s c tour i) (riders_of s c tour i) ridden.rides in
    record {
      walked = IsWalked-stop s c tour i ride.walker next.walker stop ridden.walked lt e there.walks floor leaves;
      rides = subst (λ (xs : List ℕ). Rides s c next (progress s c tour (i + 1)) xs) (sym (riders-more s c tour i stop lt e))
          (subst (λ (p : Progress). Rides s c next p (riders_after s (riders_of s c tour i) stop)) (sym (progress-more s c tour i stop lt e)) there);
    }

pub ridden-events : (s : Snapshot) (c : ℕ) (tour : List Stop) (i : ℕ) (ride : Ride) (stop : Stop) (first before after : List Event) → IsRidden s c tour i ride
    → i < length tour → stop ≡ get_or tour i stop → before ≡ first ++ events_of s c tour i
    → ((p : Progress) → Walks s c ride.walker p → after ≡ before ++ events_at s c (make_stop s c p stop).opened ride.riders.items stop)
    → after ≡ first ++ events_of s c tour (i + 1)
ridden-events s c tour i ride stop first before after ridden lt e so_far happened =
    let p = progress s c tour i in
    let riders = riders_of s c tour i in
    let opened = (make_stop s c p stop).opened in
    happened p ridden.rides.walks ∙ ap (λ (xs : List ℕ). before ++ events_at s c opened xs stop) ridden.rides.aboard
    ∙ ap (λ (xs : List Event). xs ++ events_at s c opened riders stop) so_far
    ∙ append_assoc first (events_of s c tour i) (events_at s c opened riders stop)
    ∙ ap (λ (xs : List Event). first ++ xs) (sym (events-more s c tour i stop lt e))

pub next-stop : (s : Snapshot) (c : ℕ) (tour : List Stop) (i : ℕ) (walker : Walker) (stop : Stop) → IsWalked s c tour i walker → i < length tour
    → stop ≡ get_or tour i stop → IsStopOf s stop
next-stop s c tour i walker stop walked lt e = stop_of s c (progress s c tour i) stop (fine-here s c tour i walker stop walked lt e).0

pub walked-early : (s : Snapshot) (c : ℕ) (tour : List Stop) (i : ℕ) (walker : Walker) → IsAccepted s → c < car_count s → IsFeasible s c tour
    → IsWalked s c tour i walker → i ≤ length tour → walker.leaves ≤ 100000000000
walked-early s c tour i walker a b feasible walked le =
    let few = stops-le s c tour a b feasible in
    let leaves = walked.leaves in
    omega (arith, few, leaves, le)

-- ---- the stops done by a moment

abbrev IsCounted : Snapshot → (c t : ℕ) → List Stop → ℕ → Type 0
IsCounted s c t tour i =
    take i tour ++ done_from s c t (progress s c tour i) (drop i tour) ≡ done_from s c t (start_of s c) tour

pub done-more : (s : Snapshot) (c t : ℕ) (tour : List Stop) (i at : ℕ) (stop : Stop) → i < length tour → stop ≡ get_or tour i stop
    → at ≡ arrival s c (progress s c tour i) stop.floor → at ≤ t → IsCounted s c t tour i → IsCounted s c t tour (i + 1)
done-more s c t tour i at stop lt e arrives early so_far =
    let p = progress s c tour i in
    let rest = drop (i + 1) tour in
    let next = make_stop s c p stop in
    let in_time = le-leb (arrival s c p stop.floor) t (omega (arith, arrives, early)) in
    let here : done_from s c t p (drop i tour) ≡ stop ∷ done_from s c t next rest = ap (done_from s c t p) (rest-more tour i stop lt e)
    ∙ cond-true (leb (arrival s c p stop.floor) t) (stop ∷ done_from s c t next rest) [] in_time in
    ap (λ (q : Progress). take (i + 1) tour ++ done_from s c t q rest) (progress-more s c tour i stop lt e)
    ∙ ap (λ (xs : List Stop). xs ++ done_from s c t next rest) (stops-more tour i stop lt e)
    ∙ append_assoc (take i tour) (stop ∷ []) (done_from s c t next rest) ∙ ap (λ (xs : List Stop). take i tour ++ xs) (sym here) ∙ so_far

-- the next stop is reached later
pub done-here : (s : Snapshot) (c t : ℕ) (tour : List Stop) (i at : ℕ) (stop : Stop) → i < length tour → stop ≡ get_or tour i stop
    → at ≡ arrival s c (progress s c tour i) stop.floor → t < at → IsCounted s c t tour i → take i tour ≡ done_from s c t (start_of s c) tour
done-here s c t tour i at stop lt e arrives late so_far =
    let p = progress s c tour i in
    let rest = drop (i + 1) tour in
    let over = lt-leb (arrival s c p stop.floor) t (omega (arith, arrives, late)) in
    let none : done_from s c t p (drop i tour) ≡ [] = ap (done_from s c t p) (rest-more tour i stop lt e)
    ∙ cond-false (leb (arrival s c p stop.floor) t) (stop ∷ done_from s c t (make_stop s c p stop) rest) [] over in
    sym (append-nil (take i tour)) ∙ ap (λ (xs : List Stop). take i tour ++ xs) (sym none) ∙ so_far

-- all stops are done
pub done-all : (s : Snapshot) (c t : ℕ) (tour : List Stop) (i : ℕ) → length tour ≤ i → IsCounted s c t tour i
    → take i tour ≡ done_from s c t (start_of s c) tour
done-all s c t tour i le so_far =
    let none : done_from s c t (progress s c tour i) (drop i tour) ≡ [] = ap (done_from s c t (progress s c tour i)) (drop_all i tour le) in
    sym (append-nil (take i tour)) ∙ ap (λ (xs : List Stop). take i tour ++ xs) (sym none) ∙ so_far

pub done-count : (tour done : List Stop) (i : ℕ) → i ≤ length tour → take i tour ≡ done → i ≡ length done
done-count tour done i le e = sym (length-take-le i tour le) ∙ ap length e
