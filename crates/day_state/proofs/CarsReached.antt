-- Each car where the code has reached the moment, against the world then.
use Rattle.std.proofs.Common.{◌≡◌, ℕ, zero, suc, ◌+◌, ◌-◌, ◌<◌, ◌≤◌, Bool, true, false, cond, not, ◌&&◌, ◌||◌, eqb, ltb, List, [], ◌∷◌, ◌++◌, map, drop, length}
use Rattle.std.proofs.Common.{get_or, slice_get, refl, sym, ap, ◌∙◌, subst, arith, Some, append_assoc}
use Rattle.std.specs.List.{filter, range_with_len, list_any, flat_map}
use Rattle.std.proofs.lemmas.List.{get_or_default}
use Rattle.std.proofs.lemmas.Bool.{or_left, or_right, eq-eqb}
use Rattle.std.proofs.lemmas.List.FromFn.{map-range_with_len_more}
use Rattle.std.proofs.lemmas.Option.{slice_get_read}
use Rattle.elevator_model.specs.declared.Aboard.{Aboard}
use Rattle.elevator_model.specs.declared.CarState.{CarState}
use Rattle.elevator_model.specs.declared.Stop.{Stop}
use Rattle.call_sets.specs.Counting.{has, any_below, is_among}
use Rattle.elevator_model.specs.Building.{floor_count}
use Rattle.elevator_model.specs.Snapshot.{Snapshot, car_count, call_count, call_of, group_of}
use Rattle.elevator_model.specs.Tours.{Progress, destination_of, persons_of, make_stop, after_stops, start_of}
use Rattle.elevator_model.specs.Plans.{IsFeasiblePlan, tour_of, is_boarded_in}
use Rattle.search_model.specs.declared.Event.{Event}
use Rattle.search_model.specs.Advancing.{World, done_from, done_by, events_of_car, left_at, progress_at, riders_after_all, riders_at_start, rides_on}
use Rattle.search_model.specs.Advancing.{group_from, new_groups, is_waiting, index_at, stop_then, state_then, calls_at}
use Rattle.tour_rules.specs.Places.{carries, group_carried, call_in}
use Rattle.call_sets.proofs.Sums.{sum_where-same}
use Rattle.tour_rules.proofs.RiderSums.{is_no_call, group_index, destination_of-call, persons_of-call}
use Rattle.tour_rules.proofs.Sound.{AllFine}
use Rattle.tour_cost.proofs.Walked.{stop_of}
use Rattle.day_state.specs.declared.rides.Reached.{Reached}
use Rattle.day_state.specs.declared.rides.Ride.{Ride}
use Rattle.day_state.specs.Riding.{Rides, AreFloorsOf}
use Rattle.day_state.specs.Reaching.{IsReached, AreReached, has_boarded, renamed_stop}
use Rattle.day_state.proofs.Boarding.{planned, left-wait}
use Rattle.day_state.proofs.Numbering.{rank}
use Rattle.day_state.proofs.Steps.{lists-next}

-- the tour that the code reads
pub tour-is : (plan tours : List (List Stop)) (c : ℕ) (tour : List Stop) → tours ≡ plan → c < length plan → tour ≡ get_or tours c tour → tour ≡ tour_of plan c
tour-is plan tours c tour same below e =
    e ∙ ap (λ (xs : List (List Stop)). get_or xs c tour) same ∙ get_or_default plan c tour [] below

pub car-reached : (w : World) (t : ℕ) (reached : List Reached) (c : ℕ) (one : Reached) → AreReached w t reached → c < length reached
    → one ≡ get_or reached c one → IsReached w t c one
car-reached w t reached c one r lt e = r.each c one (slice_get_read reached (length reached) c one refl lt e)

-- ---- the stops left

floors-of : (s : Snapshot) (c : ℕ) (p : Progress) (stops : List Stop) → AllFine s c p stops → AreFloorsOf s stops
floors-of s c p [] fine k stop e = absurd cc
floors-of s c p (first ∷ stops) fine zero stop e =
    let same : first ≡ stop = cc in
    subst (λ (x : Stop). x.floor < floor_count s.building) same (stop_of s c p first fine.0).floor
floors-of s c p (first ∷ stops) fine (suc k) stop e = floors-of s c (make_stop s c p first) stops fine.1 k stop e

pub left-floors : (w : World) (t c : ℕ) → IsFeasiblePlan w.snapshot w.plan → c < car_count w.snapshot → AreFloorsOf w.snapshot (left_at w t c)
left-floors w t c f below = floors-of w.snapshot c (progress_at w t c) (left_at w t c) (planned w t c f below).left

-- the stops that the code cuts off the tour
pub left-is : (w : World) (t c : ℕ) (one : Reached) (tour left : List Stop) → IsReached w t c one → tour ≡ tour_of w.plan c → left ≡ drop one.done tour
    → left ≡ left_at w t c
left-is w t c one tour left r same cut =
    cut ∙ ap (drop one.done) same ∙ ap (λ (n : ℕ). drop n (tour_of w.plan c)) r.done

-- ---- who stays aboard

-- the group is still aboard
pub group-rides : (w : World) (t : ℕ) (k : ℕ) (group : Aboard) (one : Reached) → k < length w.snapshot.aboard → group ≡ group_of w.snapshot k
    → IsReached w t group.car one → (eqb group.car group.car && not (has one.ride.walker.place.visited group.destination)) ≡ rides_on w t k
group-rides w t k group one below same r =
    let s = w.snapshot in
    let place = one.ride.walker.place in
    let c = group.car in
    let tracked = r.ride.walks.place.carried (call_count s + k) (omega (arith, below)) in
    let as_group : carries s c place.carried place.visited (call_count s + k) ≡ group_carried s.aboard c place.visited k =
    ap (λ (b : Bool). cond b (has place.carried (call_count s + k)) (group_carried s.aboard c place.visited (call_count s + k - call_count s)))
    (is_no_call s k) ∙ ap (group_carried s.aboard c place.visited) (group_index s k) in
    ap (λ (g : Aboard). eqb g.car c && not (has place.visited g.destination)) same ∙ sym as_group ∙ tracked
    ∙ ap (λ (g : Aboard). (progress_at w t g.car).carried (call_count s + k)) same

-- ---- the calls that have boarded

-- a test of the elements of a list, by their places from k on
list-below : {X : Type 0} (test : X → Bool) (u : ℕ → Bool) (xs : List X) → ((k : ℕ) (x : X) → slice_get xs k ≡ Some x → test x ≡ u k)
    → list_any test xs ≡ any_below (length xs) u
list-below test u [] same = refl
list-below test u (x ∷ xs) same = ap (λ (b : Bool). b || list_any test xs) (same 0 x refl)
    ∙ ap (λ (b : Bool). u 0 || b) (list-below test (λ k. u (suc k)) xs (λ k y e. same (suc k) y e)) ∙ first-out (length xs) u
  where
    or_again : (a b d : Bool) → (a || (b || d)) ≡ ((a || b) || d)
    or_again true b d = refl
    or_again false b d = refl

    or_none : (a : Bool) → (a || false) ≡ a
    or_none true = refl
    or_none false = refl

    first-out : (n : ℕ) (v : ℕ → Bool) → (v 0 || any_below n (λ k. v (suc k))) ≡ any_below (suc n) v
    first-out zero v = or_none (v 0)
    first-out (suc n) v = or_again (v 0) (any_below n (λ k. v (suc k))) (v (suc n)) ∙ ap (λ (b : Bool). b || v (suc n)) (first-out n v)

-- Who has boarded no car waits.
pub waits-is : (w : World) (t : ℕ) (reached : List Reached) (set j : ℕ) → AreReached w t reached → has set j ≡ list_any (λ one. has_boarded one j) reached
    → j < call_count w.snapshot → not (has set j) ≡ is_waiting w t j
waits-is w t reached set j r boarded below =
    let by_place = list-below (λ one. has_boarded one j) (λ c. (progress_at w t c).boarded j) reached
    (λ c one e. (r.each c one e).ride.walks.place.boarded j below) in
    ap not (boarded ∙ by_place ∙ ap (λ (n : ℕ). any_below n (λ c. (progress_at w t c).boarded j)) r.count)

-- ---- the calls and stops that are left

-- two tests that agree below the bound choose the same numbers
chosen-same : (t u : ℕ → Bool) (a n : ℕ) → ((k : ℕ) → k < a + n → t k ≡ u k) → filter t (range_with_len a n) ≡ filter u (range_with_len a n)
chosen-same t u a zero same = refl
chosen-same t u a (suc n) same =
    let rest = chosen-same t u (a + 1) n (λ k b. same k (omega arith)) in
    ap (λ (b : Bool). cond b (a ∷ filter t (range_with_len (a + 1) n)) (filter t (range_with_len (a + 1) n))) (same a (omega arith))
    ∙ ap (λ (xs : List ℕ). cond (u a) (a ∷ xs) xs) rest

pub calls-are : (w : World) (t : ℕ) (reached : List Reached) (set : ℕ) → AreReached w t reached
    → ((j : ℕ) → has set j ≡ list_any (λ one. has_boarded one j) reached)
    → map (call_in w.snapshot.calls) (filter (λ j. not (has set j)) (range_with_len 0 (call_count w.snapshot))) ≡ calls_at w t
calls-are w t reached set r boarded =
    ap (map (call_of w.snapshot))
    (chosen-same (λ j. not (has set j)) (is_waiting w t) 0 (call_count w.snapshot) (λ j b. waits-is w t reached set j r (boarded j) (omega arith)))

index-is : (w : World) (t : ℕ) (reached : List Reached) (set j : ℕ) → AreReached w t reached
    → ((k : ℕ) → has set k ≡ list_any (λ one. has_boarded one k) reached) → j < call_count w.snapshot → rank (λ k. not (has set k)) j ≡ index_at w t j
index-is w t reached set j r boarded below =
    sum_where-same j (λ k. not (has set k)) (is_waiting w t) (λ _. 1) (λ _. 1) (λ k b. waits-is w t reached set k r (boarded k) (omega (arith, b, below)))
    (λ k b h. refl)

map-same : (f g : ℕ → ℕ) (xs : List ℕ) → ((j : ℕ) → is_among j xs ≡ true → f j ≡ g j) → map f xs ≡ map g xs
map-same f g [] same = refl
map-same f g (x ∷ xs) same =
    let first = same x (or_left (eqb x x) (is_among x xs) (eq-eqb x x refl)) in
    let rest = map-same f g xs (λ j h. same j (or_right (eqb x j) (is_among j xs) h)) in
    ap (λ (y : ℕ). y ∷ map f xs) first ∙ ap (λ (ys : List ℕ). g x ∷ ys) rest

renamed-same : (f g : ℕ → ℕ) (stops : List Stop) → ((j : ℕ) → is_boarded_in stops j ≡ true → f j ≡ g j)
    → map (renamed_stop f) stops ≡ map (renamed_stop g) stops
renamed-same f g [] same = refl
renamed-same f g (stop ∷ stops) same =
    let first = map-same f g stop.boards (λ j h. same j (or_left (is_among j stop.boards) (is_boarded_in stops j) h)) in
    let rest = renamed-same f g stops (λ j h. same j (or_right (is_among j stop.boards) (is_boarded_in stops j) h)) in
    let put : List ℕ → Stop = λ boards. record { floor = stop.floor; boards = boards } in
    ap (λ (boards : List ℕ). put boards ∷ map (renamed_stop f) stops) first ∙ ap (λ (ys : List Stop). renamed_stop g stop ∷ ys) rest

-- the tour of a car with the new indexes
pub tour-left : (w : World) (t : ℕ) (reached : List Reached) (set c : ℕ) (indexes : List ℕ) (left tour : List Stop) → IsFeasiblePlan w.snapshot w.plan
    → AreReached w t reached → ((k : ℕ) → has set k ≡ list_any (λ one. has_boarded one k) reached)
    → ((j : ℕ) → j < call_count w.snapshot → get_or indexes j 0 ≡ rank (λ k. not (has set k)) j) → c < car_count w.snapshot → left ≡ left_at w t c
    → tour ≡ map (renamed_stop (λ j. get_or indexes j 0)) left → tour ≡ map (stop_then w t) (left_at w t c)
tour-left w t reached set c indexes left tour f r boarded numbered below same renamed =
    let boards = (left-wait w t c f below).each in
    renamed ∙ ap (map (renamed_stop (λ j. get_or indexes j 0))) same
    ∙ renamed-same (λ j. get_or indexes j 0) (index_at w t) (left_at w t c)
    (λ j h. let call = (boards j h).0 in numbered j call ∙ index-is w t reached set j r boarded call)

-- ---- one car more

pub tours-more : (w : World) (t c : ℕ) (before after : List (List Stop)) (tour : List Stop) → after ≡ before ++ tour ∷ []
    → before ≡ map (λ c. map (stop_then w t) (left_at w t c)) (range_with_len 0 c) → tour ≡ map (stop_then w t) (left_at w t c)
    → after ≡ map (λ c. map (stop_then w t) (left_at w t c)) (range_with_len 0 (c + 1))
tours-more w t c before after tour pushed so_far here =
    let f : ℕ → List Stop = λ c. map (stop_then w t) (left_at w t c) in
    let e : 0 + c ≡ c = omega arith in
    pushed ∙ ap (λ (xs : List (List Stop)). xs ++ tour ∷ []) so_far ∙ ap (λ (x : List Stop). map f (range_with_len 0 c) ++ x ∷ []) here
    ∙ sym (map-range_with_len_more f 0 c c e)

pub states-more : (w : World) (t c : ℕ) (before after : List CarState) (state : CarState) → after ≡ before ++ state ∷ []
    → before ≡ map (λ c. state_then w.snapshot c t (progress_at w t c) (left_at w t c)) (range_with_len 0 c)
    → state ≡ state_then w.snapshot c t (progress_at w t c) (left_at w t c)
    → after ≡ map (λ c. state_then w.snapshot c t (progress_at w t c) (left_at w t c)) (range_with_len 0 (c + 1))
states-more w t c before after state pushed so_far here =
    let f : ℕ → CarState = λ c. state_then w.snapshot c t (progress_at w t c) (left_at w t c) in
    let e : 0 + c ≡ c = omega arith in
    pushed ∙ ap (λ (xs : List CarState). xs ++ state ∷ []) so_far ∙ ap (λ (x : CarState). map f (range_with_len 0 c) ++ x ∷ []) here
    ∙ sym (map-range_with_len_more f 0 c c e)

-- ---- who boarded and rides on

pub new-group : (s : Snapshot) (c : ℕ) (ride : Ride) (p : Progress) (riders : List ℕ) (r at : ℕ) → Rides s c ride p riders → r < call_count s
    → at ≡ get_or ride.boarded_at.items r 0
    → record { id = (call_of s r).id; car = c; destination = (call_of s r).destination; persons = (call_of s r).persons; boarded = at } ≡ group_from s c p r
new-group s c ride p riders r at rides below same =
    let made : (destination persons boarded : ℕ) → Aboard = λ d n b. record { id = (call_of s r).id; car = c; destination = d; persons = n; boarded = b } in
    ap (λ (d : ℕ). made d (call_of s r).persons at) (sym (destination_of-call s r below))
    ∙ ap (λ (n : ℕ). made (destination_of s r) n at) (sym (persons_of-call s r below))
    ∙ ap (made (destination_of s r) (persons_of s r)) (same ∙ rides.boarded r below)

groups-here : (w : World) (t : ℕ) (reached : List Reached) (c : ℕ) (one : Reached) (front before after : List Aboard) → AreReached w t reached
    → c < length reached → one ≡ get_or reached c one
    → ((p : Progress) (riders : List ℕ) → Rides w.snapshot c one.ride p riders
    → after ≡ before ++ map (group_from w.snapshot c p) (filter (λ r. ltb r (call_count w.snapshot)) riders))
    → before ≡ front ++ flat_map (new_groups w t) (range_with_len 0 c) → after ≡ front ++ flat_map (new_groups w t) (range_with_len 0 (c + 1))
groups-here w t reached c one front before after r lt e added so_far =
    let ride = (car-reached w t reached c one r lt e).ride in
    let earlier = flat_map (new_groups w t) (range_with_len 0 c) in
    added (progress_at w t c) (riders_after_all w.snapshot (riders_at_start w.snapshot c) (done_by w t c)) ride
    ∙ ap (λ (xs : List Aboard). xs ++ new_groups w t c) so_far ∙ append_assoc front earlier (new_groups w t c)
    ∙ ap (λ (xs : List Aboard). front ++ xs) (sym (lists-next (new_groups w t) c))

-- The groups of one car more stand behind the others.
pub groups-more : (s : Snapshot) (w : World) (t : ℕ) (reached : List Reached) (c : ℕ) (one : Reached) (front before after : List Aboard) → w.snapshot ≡ s
    → AreReached w t reached → c < length reached → one ≡ get_or reached c one
    → ((p : Progress) (riders : List ℕ) → Rides s c one.ride p riders → after ≡ before ++ map (group_from s c p) (filter (λ r. ltb r (call_count s)) riders))
    → before ≡ front ++ flat_map (new_groups w t) (range_with_len 0 c) → after ≡ front ++ flat_map (new_groups w t) (range_with_len 0 (c + 1))
groups-more s w t reached c one front before after same r lt e added so_far =
    groups-here w t reached c one front before after r lt e
    (subst (λ (x : Snapshot). (p : Progress) (riders : List ℕ) → Rides x c one.ride p riders
    → after ≡ before ++ map (group_from x c p) (filter (λ r. ltb r (call_count x)) riders)) (sym same) added) so_far

-- ---- lists of cars

-- one element more
pub each-more : {X : Type 0} (P : ℕ → X → Type 0) (xs : List X) (x : X) → ((c : ℕ) (y : X) → slice_get xs c ≡ Some y → P c y) → P (length xs) x
    → (c : ℕ) (y : X) → slice_get (xs ++ x ∷ []) c ≡ Some y → P c y
each-more P [] x each here zero y e = let same : x ≡ y = cc in subst (P 0) same here
each-more P [] x each here (suc c) y e = absurd cc
each-more P (first ∷ xs) x each here zero y e = each 0 y e
each-more P (first ∷ xs) x each here (suc c) y e = each-more (λ k. P (suc k)) xs x (λ k z same. each (suc k) z same) here c y e

-- what is known of the car that was found
pub car-here : (w : World) (t c : ℕ) (s : Snapshot) (tour : List Stop) (one : Reached) → s ≡ w.snapshot → tour ≡ tour_of w.plan c
    → one.done ≡ length (done_from s c t (start_of s c) tour) → one.done ≤ length tour
    → Rides s c one.ride (after_stops s c (start_of s c) (done_from s c t (start_of s c) tour))
    (riders_after_all s (riders_at_start s c) (done_from s c t (start_of s c) tour)) → one.ride.walker.place.floor < floor_count s.building
    → one.ride.walker.leaves ≤ 100000000000 → IsReached w t c one
car-here w t c s tour one same_snapshot same_tour done within rides floor early =
    let P : Snapshot → List Stop → Type 0 = λ x stops. (one.done ≡ length (done_from x c t (start_of x c) stops)) × (one.done ≤ length stops)
    × Rides x c one.ride (after_stops x c (start_of x c) (done_from x c t (start_of x c) stops))
    (riders_after_all x (riders_at_start x c) (done_from x c t (start_of x c) stops)) × (one.ride.walker.place.floor < floor_count x.building) in
    let there = subst (λ (x : Snapshot). P x (tour_of w.plan c)) same_snapshot (subst (P s) same_tour (done, within, rides, floor)) in
    record { done = there.0; within = there.1; ride = there.2; floor = there.3; early = early }

-- the events of one car more
pub events-here : (w : World) (c : ℕ) (s : Snapshot) (stops : ℕ → List Stop) (found : List Stop) (front before after : List Event) → s ≡ w.snapshot
    → found ≡ stops c → before ≡ front ++ flat_map (λ d. events_of_car w.snapshot d (stops d)) (range_with_len 0 c) → after ≡ before ++ events_of_car s c found
    → after ≡ front ++ flat_map (λ d. events_of_car w.snapshot d (stops d)) (range_with_len 0 (c + 1))
events-here w c s stops found front before after same is so_far happened =
    let events : ℕ → List Event = λ d. events_of_car w.snapshot d (stops d) in
    let here = ap (λ (x : Snapshot). events_of_car x c found) same ∙ ap (events_of_car w.snapshot c) is in
    happened ∙ ap (λ (xs : List Event). before ++ xs) here ∙ ap (λ (xs : List Event). xs ++ events c) so_far
    ∙ append_assoc front (flat_map events (range_with_len 0 c)) (events c) ∙ ap (λ (xs : List Event). front ++ xs) (sym (lists-next events c))
