-- The world at a later moment: an accepted snapshot, and the rest of the plan is feasible there.
use Rattle.std.proofs.Common.{◌==◌, ◌≡◌, ℕ, zero, suc, ◌+◌, ◌-◌, ◌<◌, ◌≤◌, Bool, true, cond, ◌&&◌, ◌||◌, eqb, ltb, leb, List, [], ◌∷◌, map, length, get_or}
use Rattle.std.proofs.Common.{refl, sym, ap, ◌∙◌, subst, inl, inr, arith, None}
use Rattle.std.proofs.lemmas.List.FromFn.{get_or-map-range_with_len, length-map-range_with_len}
use Rattle.std.specs.List.{count_by}
use Rattle.std.proofs.lemmas.Bool.{or_cases, or_left, or_right, false≢true, lt-ltb, eq-eqb, cases_lt, cases_order, both_ways, not-true, not_from_true}
use Rattle.std.proofs.lemmas.Bool.{false_from_ne_true}
use Rattle.elevator_model.specs.declared.Aboard.{Aboard}
use Rattle.elevator_model.specs.declared.Call.{Call}
use Rattle.elevator_model.specs.declared.CarState.{CarState}
use Rattle.elevator_model.specs.declared.CarState.TheVariants.{Idle, Coming, Moving}
use Rattle.elevator_model.specs.declared.Stop.{Stop}
use Rattle.call_sets.specs.Counting.{any_below, is_among, sum_where}
use Rattle.elevator_model.specs.Snapshot.{Snapshot, IsAccepted, IsCarPlaced, IsGroupAccepted, IsCallAccepted, IsTimely, AreOnOneSide, car_count, call_count}
use Rattle.elevator_model.specs.Snapshot.{call_of, group_of, spec_of, state_of, no_state, is_coming, is_open, may_stop_first, serves}
use Rattle.elevator_model.specs.Tours.{Progress, rider_count, destination_of, persons_of, is_aboard, boards_at, make_stop, start_of, after_stops}
use Rattle.elevator_model.specs.Tours.{first_broken_from, broken_at_end, none_taken, IsFeasible}
use Rattle.elevator_model.specs.Plans.{IsFeasiblePlan, is_boarded_in, tour_of, times_served}
use Rattle.search_model.specs.Advancing.{World, StaysAccepted, advanced, done_by, left_at, progress_at, id_of_rider, is_waiting, index_at, state_then}
use Rattle.search_model.specs.Advancing.{stop_then}
use Rattle.call_sets.proofs.BelowTests.{any_below-false}
use Rattle.call_sets.proofs.Counts.{count-le}
use Rattle.call_sets.proofs.ListTests.{list_any-append}
use Rattle.call_sets.proofs.Sums.{sum_where-same}
use Rattle.tour_rules.proofs.Reached.{broken_or-none}
use Rattle.tour_rules.proofs.Rising.{count-cons}
use Rattle.tour_rules.proofs.RiderSums.{is_call, is_no_call, group_index, persons_of-call, persons_of-group}
use Rattle.tour_rules.proofs.Sound.{AllFine}
use Rattle.day_state.specs.Reaching.{renamed_stop}
use Rattle.day_state.proofs.Boarding.{planned, boarded-on}
use Rattle.day_state.proofs.LaterNumbers.{waits, renames, stops-wait, start-same, fewer-persons, old-once, old-length, later-call-is, later-group-is}
use Rattle.day_state.proofs.LaterRiders.{old_riders, old_of, later-calls, listed}
use Rattle.day_state.proofs.LaterStates.{Fits, FirstFor, IsLeft, OnSide, IsTimelyState, fits-begun, fits-unbegun}
use Rattle.day_state.proofs.LaterTimes.{aboard-persons, timely-start, timely-done, next-late}
use Rattle.day_state.proofs.LaterTours.{MayStart, StopsWait, start-fine}
use Rattle.day_state.proofs.Numbering.{length-passing}
use Rattle.day_state.proofs.Renaming.{renamed-among}

-- ---- each car

pub car-left : (w : World) (t c : ℕ) → IsAccepted w.snapshot → IsFeasiblePlan w.snapshot w.plan → w.snapshot.moment ≤ t → c < car_count w.snapshot
    → IsLeft w.snapshot c t (progress_at w t c) (left_at w t c)
car-left w t c a f later below =
    let s = w.snapshot in
    let is = planned w t c f below in
    record {
      kept = (listed w t c f below).kept;
      timely = timely-done s c t (start_of s c) (tour_of w.plan c) a below (timely-start s c t a below later) is.done;
      next = λ stop rest e. ((subst (AllFine s c (progress_at w t c)) e is.left).0, next-late s c t (start_of s c) (tour_of w.plan c) stop rest e);
      ends = λ e. (broken_or-none (broken_at_end s c (progress_at w t c)) is.ends.0 None
          (subst (λ (xs : List Stop). first_broken_from s c none_taken (progress_at w t c) is.ends.0 xs ≡ None) e is.ends.1)).0;
    }

begun-on : (s : Snapshot) (c : ℕ) (p : Progress) (stops : List Stop) → p.begun ≡ true → (after_stops s c p stops).begun ≡ true
begun-on s c p [] h = h
begun-on s c p (stop ∷ stops) h = begun-on s c (make_stop s c p stop) stops refl

fits-after : (s : Snapshot) (c t : ℕ) (stops left : List Stop) → IsAccepted s → c < car_count s → s.moment ≤ t
    → IsLeft s c t (after_stops s c (start_of s c) stops) left
    → Fits s c t (after_stops s c (start_of s c) stops) left (state_then s c t (after_stops s c (start_of s c) stops) left)
fits-after s c t [] left a below later is = fits-unbegun s c t left a below later is
fits-after s c t (stop ∷ stops) left a below later is =
    fits-begun s c t (after_stops s c (make_stop s c (start_of s c) stop) stops) left a is (begun-on s c (make_stop s c (start_of s c) stop) stops refl)

pub later-state : (w : World) (t c : ℕ) → c < car_count w.snapshot
    → state_of (advanced w t).snapshot c ≡ state_then w.snapshot c t (progress_at w t c) (left_at w t c)
later-state w t c below =
    get_or-map-range_with_len (λ d. state_then w.snapshot d t (progress_at w t d) (left_at w t d)) 0 (car_count w.snapshot) c c no_state below (omega arith)

pub later-tour : (w : World) (t c : ℕ) → c < car_count w.snapshot → tour_of (advanced w t).plan c ≡ map (renamed_stop (index_at w t)) (left_at w t c)
later-tour w t c below = get_or-map-range_with_len (λ d. map (stop_then w t) (left_at w t d)) 0 (car_count w.snapshot) c c [] below (omega arith)

pub car-fits : (w : World) (t c : ℕ) → IsAccepted w.snapshot → IsFeasiblePlan w.snapshot w.plan → w.snapshot.moment ≤ t → c < car_count w.snapshot
    → Fits w.snapshot c t (progress_at w t c) (left_at w t c) (state_of (advanced w t).snapshot c)
car-fits w t c a f later below =
    subst (Fits w.snapshot c t (progress_at w t c) (left_at w t c)) (sym (later-state w t c below))
    (fits-after w.snapshot c t (done_by w t c) (left_at w t c) a below later (car-left w t c a f later below))

-- ---- the states

timely-there : (w : World) (t c : ℕ) (st : CarState) → IsTimelyState w.snapshot c t st → IsTimely (advanced w t).snapshot c st
timely-there w t c (Idle floor free) h = h
timely-there w t c (Coming floor arrives) h = h
timely-there w t c (Moving from up left) h = h

-- a group of the car there is carried by it
group-carried : (w : World) (t c k : ℕ) → IsAccepted w.snapshot → IsFeasiblePlan w.snapshot w.plan → k < length (advanced w t).snapshot.aboard
    → (group_of (advanced w t).snapshot k).car ≡ c → (r : ℕ) × ((progress_at w t c).carried r ≡ true)
    × (destination_of w.snapshot r ≡ (group_of (advanced w t).snapshot k).destination)
group-carried w t c k a f below car =
    let is = later-group-is w t k a f below in
    let same : is.seat.car ≡ c = sym is.is.group_car ∙ ap (λ (g : Aboard). g.car) (sym is.group) ∙ car in (
      is.seat.rider,
      subst (λ (d : ℕ). (progress_at w t d).carried is.seat.rider ≡ true) same is.is.carried,
      sym is.is.destination
          ∙ ap (λ (g : Aboard). g.destination) (sym is.group),
    )

side-there : (w : World) (t c : ℕ) (st : CarState) → IsAccepted w.snapshot → IsFeasiblePlan w.snapshot w.plan → OnSide w.snapshot c t (progress_at w t c) st
    → AreOnOneSide (advanced w t).snapshot c st
side-there w t c (Idle floor free) a f side = λ k m bk bm ck cm.
    let x = group-carried w t c k a f bk ck in
    let y = group-carried w t c m a f bm cm in
    subst (λ (d : ℕ). ((ltb d floor && ltb (group_of (advanced w t).snapshot m).destination floor)
    || (ltb floor d && ltb floor (group_of (advanced w t).snapshot m).destination)) ≡ true) x.2
    (subst (λ (d : ℕ). ((ltb (destination_of w.snapshot x.0) floor && ltb d floor) || (ltb floor (destination_of w.snapshot x.0) && ltb floor d)) ≡ true)
    y.2 (side x.0 y.0 x.1 y.1))
side-there w t c (Coming floor arrives) a f side = λ k m bk bm ck cm.
    let x = group-carried w t c k a f bk ck in
    let y = group-carried w t c m a f bm cm in
    subst (λ (d : ℕ). ((leb d floor && leb (group_of (advanced w t).snapshot m).destination floor)
    || (leb floor d && leb floor (group_of (advanced w t).snapshot m).destination)) ≡ true) x.2
    (subst (λ (d : ℕ). ((leb (destination_of w.snapshot x.0) floor && leb d floor) || (leb floor (destination_of w.snapshot x.0) && leb floor d)) ≡ true)
    y.2 (side x.0 y.0 x.1 y.1))
side-there w t c (Moving from up left) a f side = λ k bk ck.
    let x = group-carried w t c k a f bk ck in
    subst (λ (d : ℕ). is_open w.snapshot.building c t (Moving from up left) d ≡ true) x.2 (side x.0 x.1)

placed-there : (w : World) (t c : ℕ) → IsAccepted w.snapshot → IsFeasiblePlan w.snapshot w.plan → w.snapshot.moment ≤ t → c < car_count w.snapshot
    → IsCarPlaced (advanced w t).snapshot c
placed-there w t c a f later below =
    let fits = car-fits w t c a f later below in
    let there = (advanced w t).snapshot in
    let st = state_of there c in
    let aboard = aboard-persons there c in
    let same = start-same w t c a f below in
    let fewer = fewer-persons w t a f (is_aboard there c) (progress_at w t c).carried (λ r b h. sym (same.carried r b) ∙ h) in
    let load = (car-left w t c a f later below).timely.load in
    record {
      served = fits.served;
      timely = timely-there w t c st fits.timely;
      capacity = omega (arith, aboard, fewer, load);
      one_side = side-there w t c st a f fits.side;
    }

-- ---- those aboard

-- each rider is a few persons
rider-persons : (s : Snapshot) (r : ℕ) → IsAccepted s → r < rider_count s → (1 ≤ persons_of s r) × (persons_of s r ≤ 8)
rider-persons s r a below =
    elim (cases_lt r (call_count s)) [
      | inl low ↦ (let is = a.calls r low in let e = persons_of-call s r low in let one = is.persons_low in let most = is.persons_high in
          (omega (arith, e, one), omega (arith, e, most)))
      | inr high ↦ (let at : call_count s + (r - call_count s) ≡ r = omega (arith, high) in
          let is = a.groups (r - call_count s) (omega (arith, below, high)) in let e = ap (persons_of s) (sym at) ∙ persons_of-group s (r - call_count s) in
          let one = is.persons_low in let most = is.persons_high in (omega (arith, e, one), omega (arith, e, most)))
    ]

group-there : (w : World) (t k : ℕ) → IsAccepted w.snapshot → IsFeasiblePlan w.snapshot w.plan → w.snapshot.moment ≤ t
    → k < length (advanced w t).snapshot.aboard → IsGroupAccepted (advanced w t).snapshot (group_of (advanced w t).snapshot k)
group-there w t k a f later below =
    let is = later-group-is w t k a f below in
    let x = is.seat in
    let timely = (car-left w t x.car a f later is.is.car).timely in
    let few = rider-persons w.snapshot x.rider a is.is.rider in
    let persons_are = is.is.persons in
    let there = is.is.group_car in
    let opening = ap (λ (d : ℕ). (spec_of w.snapshot d).opening) there in
    let boarded_is = is.is.boarded in
    let soon = timely.boarded x.rider is.is.carried in
    let bound = timely.bound x.rider is.is.carried in
    subst (IsGroupAccepted (advanced w t).snapshot) (sym is.group) (record {
      car = subst (λ (d : ℕ). d < car_count w.snapshot) (sym there) is.is.car;
      persons_low = (let one = few.0 in omega (arith, persons_are, one));
      persons_high = (let most = few.1 in omega (arith, persons_are, most));
      served = subst (λ (d : ℕ). serves w.snapshot.building d x.group.destination ≡ true) (sym there)
          (subst (λ (d : ℕ). serves w.snapshot.building x.car d ≡ true) (sym is.is.destination) bound);
      boarded = omega (arith, boarded_is, soon, opening);
    })

-- ---- the calls

call-there : (w : World) (t j : ℕ) → IsAccepted w.snapshot → w.snapshot.moment ≤ t → j < call_count (advanced w t).snapshot
    → IsCallAccepted (advanced w t).snapshot (call_of (advanced w t).snapshot j)
call-there w t j a later below =
    let is = later-call-is w t j below in
    let old = a.calls (old_of w t j) is.below in
    let before = old.released in
    subst (IsCallAccepted (advanced w t).snapshot) (sym is.call) (record {
      persons_low = old.persons_low;
      persons_high = old.persons_high;
      origin = old.origin;
      destination = old.destination;
      travels = old.travels;
      released = omega (arith, before, later);
      possible = old.possible;
    })

calls-few : (w : World) (t : ℕ) → call_count (advanced w t).snapshot ≤ call_count w.snapshot
calls-few w t =
    let size = later-calls w t in
    let rank = length-passing (is_waiting w t) (call_count w.snapshot) in
    let few = count-le (call_count w.snapshot) (is_waiting w t) in
    omega (arith, size, rank, few)

-- ---- the ids

id-of-call : (s : Snapshot) (j : ℕ) → j < call_count s → id_of_rider s j ≡ (call_of s j).id
id-of-call s j below = ap (λ (b : Bool). cond b (call_of s j).id (group_of s (j - call_count s)).id) (is_call s j below)

id-of-group : (s : Snapshot) (k : ℕ) → id_of_rider s (call_count s + k) ≡ (group_of s k).id
id-of-group s k = ap (λ (b : Bool). cond b (call_of s (call_count s + k)).id (group_of s (call_count s + k - call_count s)).id) (is_no_call s k)
    ∙ ap (λ (i : ℕ). (group_of s i).id) (group_index s k)

-- two riders have two ids
ids-apart : (s : Snapshot) (q r : ℕ) → IsAccepted s → q < r → r < rider_count s → id_of_rider s q ≡ id_of_rider s r → ⊥
ids-apart s q r a low high same =
    elim (cases_lt r (call_count s)) [
      | inl call ↦ a.ids q r low call (sym (id-of-call s q (omega arith)) ∙ same ∙ id-of-call s r call)
      | inr group ↦ (let at : call_count s + (r - call_count s) ≡ r = omega (arith, group) in
          let of_r = ap (id_of_rider s) (sym at) ∙ id-of-group s (r - call_count s) in elim (cases_lt q (call_count s)) [
            | inl first ↦ a.ids_apart q (r - call_count s) first (omega (arith, high, group)) (sym (id-of-call s q first) ∙ same ∙ of_r)
            | inr second ↦ (let q_at : call_count s + (q - call_count s) ≡ q = omega (arith, second) in
                let of_q = ap (id_of_rider s) (sym q_at) ∙ id-of-group s (q - call_count s) in
                a.group_ids (q - call_count s) (r - call_count s) (omega (arith, low, second)) (omega (arith, high, group)) (sym of_q ∙ same ∙ of_r))
          ])
    ]

among-at : (xs : List ℕ) (i : ℕ) → i < length xs → is_among (get_or xs i 0) xs ≡ true
among-at [] i below = absurd (omega arith)
among-at (x ∷ xs) zero below = or_left (eqb x x) (is_among x xs) (eq-eqb x x refl)
among-at (x ∷ xs) (suc i) below = or_right (eqb x (get_or xs i 0)) (is_among (get_or xs i 0) xs) (among-at xs i (omega arith))

count-some : (r : ℕ) (xs : List ℕ) → is_among r xs ≡ true → 1 ≤ count_by (λ x. x == r) xs
count-some r [] h = absurd (false≢true h)
count-some r (x ∷ xs) h =
    let all = count-cons r x xs in
    elim (or_cases (eqb x r) (is_among r xs) h) [
      | inl e ↦ (let here = ap {B = ℕ} (λ (b : Bool). cond b 1 0) e in omega (arith, all, here))
      | inr e ↦ (let later = count-some r xs e in omega (arith, all, later))
    ]

-- two places of a list without repeats
places-apart : (xs : List ℕ) → ((r : ℕ) → count_by (λ x. x == r) xs ≤ 1) → (i j : ℕ) → i < j → j < length xs → get_or xs i 0 ≡ get_or xs j 0 → ⊥
places-apart [] once i j low high same = omega arith
places-apart (x ∷ xs) once zero zero low high same = omega arith
places-apart (x ∷ xs) once zero (suc j) low high same =
    let again = subst (λ (y : ℕ). is_among y xs ≡ true) (sym same) (among-at xs j (omega arith)) in
    let first = count-cons x x xs in
    let here = ap {B = ℕ} (λ (b : Bool). cond b 1 0) (eq-eqb x x refl) in
    let some = count-some x xs again in
    let most = once x in
    omega (arith, first, here, some, most)
places-apart (x ∷ xs) once (suc i) zero low high same = omega arith
places-apart (x ∷ xs) once (suc i) (suc j) low high same =
    places-apart xs (λ r. let first = count-cons r x xs in let most = once r in omega (arith, first, most)) i j (omega arith) (omega arith) same

old-apart : (w : World) (t : ℕ) → IsFeasiblePlan w.snapshot w.plan → (q r : ℕ) → q < r → r < rider_count (advanced w t).snapshot → old_of w t q ≡ old_of w t r
    → ⊥
old-apart w t f q r low high same =
    let size = old-length w t in
    places-apart (old_riders w t) (old-once w t f) q r low (omega (arith, high, size)) same

-- the ids of two riders there
ids-there : (w : World) (t q r : ℕ) → IsAccepted w.snapshot → IsFeasiblePlan w.snapshot w.plan → q < r → r < rider_count (advanced w t).snapshot
    → id_of_rider w.snapshot (old_of w t q) ≡ id_of_rider w.snapshot (old_of w t r) → ⊥
ids-there w t q r a f low high same =
    let inside = (renames w t a f).inside in
    elim (cases_order (old_of w t q) (old_of w t r)) [
      | inl e ↦ old-apart w t f q r low high e
      | inr either ↦ elim either [
        | inl lt ↦ ids-apart w.snapshot (old_of w t q) (old_of w t r) a lt (inside r high) same
        | inr gt ↦ ids-apart w.snapshot (old_of w t r) (old_of w t q) a gt (inside q (omega arith)) (sym same)
      ]
    ]

call-id : (w : World) (t j : ℕ) → j < call_count (advanced w t).snapshot → (call_of (advanced w t).snapshot j).id ≡ id_of_rider w.snapshot (old_of w t j)
call-id w t j below = let is = later-call-is w t j below in ap (λ (x : Call). x.id) is.call ∙ sym (id-of-call w.snapshot (old_of w t j) is.below)

group-id : (w : World) (t k : ℕ) → IsAccepted w.snapshot → IsFeasiblePlan w.snapshot w.plan → k < length (advanced w t).snapshot.aboard
    → (group_of (advanced w t).snapshot k).id ≡ id_of_rider w.snapshot (old_of w t (call_count (advanced w t).snapshot + k))
group-id w t k a f below = let is = later-group-is w t k a f below in ap (λ (g : Aboard). g.id) is.group ∙ is.is.id ∙ ap (id_of_rider w.snapshot) (sym is.old)

-- ---- the plan

may-start : (w : World) (t c : ℕ) (left : List Stop) → FirstFor w.snapshot c t (progress_at w t c) (state_of (advanced w t).snapshot c) left
    → MayStart w.snapshot (advanced w t).snapshot (index_at w t) c (progress_at w t c) (start_of (advanced w t).snapshot c) left
may-start w t c [] fits = fits
may-start w t c (stop ∷ rest) fits = record {
  first = not_from_true (may_stop_first w.snapshot.building c t (state_of (advanced w t).snapshot c) stop.floor) fits.may;
  apart = refl;
  need = fits.need;
  leg = λ h. fits.leg (not-true (is_coming (state_of (advanced w t).snapshot c)) h);
}

tour-there : (w : World) (t c : ℕ) → IsAccepted w.snapshot → IsFeasiblePlan w.snapshot w.plan → w.snapshot.moment ≤ t → c < car_count w.snapshot
    → IsFeasible (advanced w t).snapshot c (tour_of (advanced w t).plan c)
tour-there w t c a f later below =
    let ends = (planned w t c f below).ends in
    let fits = car-fits w t c a f later below in
    subst (IsFeasible (advanced w t).snapshot c) (sym (later-tour w t c below))
    (start-fine w.snapshot (advanced w t).snapshot (old_of w t) (index_at w t) (waits w t) (renames w t a f) c (progress_at w t c)
    (start_of (advanced w t).snapshot c) ends.0 1 (left_at w t c) (stops-wait w t c f below) (start-same w t c a f below)
    (may-start w t c (left_at w t c) fits.first) ends.1)

-- a call boards in the rest of a tour there where it does here
boarded-renamed : (w : World) (t : ℕ) (stops : List Stop) → IsAccepted w.snapshot → IsFeasiblePlan w.snapshot w.plan → StopsWait w.snapshot (waits w t) stops
    → (j : ℕ) → j < call_count (advanced w t).snapshot → is_boarded_in (map (renamed_stop (index_at w t)) stops) j ≡ is_boarded_in stops (old_of w t j)
boarded-renamed w t [] a f wait j below = refl
boarded-renamed w t (stop ∷ stops) a f wait j below =
    let here = renamed-among w.snapshot (advanced w t).snapshot (old_of w t) (index_at w t) (waits w t) (renames w t a f) stop.boards
    (λ k h. wait.each k (or_left (is_among k stop.boards) (is_boarded_in stops k) h)) j below in
    let rest = boarded-renamed w t stops a f (record { each = λ k h. wait.each k (or_right (is_among k stop.boards) (is_boarded_in stops k) h) }) j below in
    ap (λ (b : Bool). b || is_boarded_in (map (renamed_stop (index_at w t)) stops) j) here ∙ ap (λ (b : Bool). is_among (old_of w t j) stop.boards || b) rest

-- a call that boards at one of the stops has boarded after them
boarded-after : (s : Snapshot) (c : ℕ) (p : Progress) (stops : List Stop) (j : ℕ) → j < call_count s → is_boarded_in stops j ≡ true
    → (after_stops s c p stops).boarded j ≡ true
boarded-after s c p [] j low h = absurd (false≢true h)
boarded-after s c p (stop ∷ stops) j low h =
    elim (or_cases (is_among j stop.boards) (is_boarded_in stops j) h) [
      | inl e ↦ boarded-on s c (make_stop s c p stop) stops j
          (or_right (p.boarded j) (boards_at s stop j) (ap (λ (b : Bool). b && is_among j stop.boards) (lt-ltb j (call_count s) low) ∙ e))
      | inr e ↦ boarded-after s c (make_stop s c p stop) stops j low e
    ]

served-same : (w : World) (t c j : ℕ) → IsAccepted w.snapshot → IsFeasiblePlan w.snapshot w.plan → c < car_count w.snapshot
    → j < call_count (advanced w t).snapshot → is_boarded_in (tour_of (advanced w t).plan c) j ≡ is_boarded_in (tour_of w.plan c) (old_of w t j)
served-same w t c j a f below low =
    let is = later-call-is w t j low in
    let old = old_of w t j in
    let none = any_below-false (car_count w.snapshot) (λ d. (progress_at w t d).boarded old) c
    (not-true (any_below (car_count w.snapshot) (λ d. (progress_at w t d).boarded old)) is.waits) below in
    let not_done = false_from_ne_true (is_boarded_in (done_by w t c) old)
    (λ h. both_ways ((progress_at w t c).boarded old) none (boarded-after w.snapshot c (start_of w.snapshot c) (done_by w t c) old is.below h)) in
    let whole = ap (λ (xs : List Stop). is_boarded_in xs old) (sym (planned w t c f below).tour)
    ∙ list_any-append (λ (stop : Stop). is_among old stop.boards) (done_by w t c) (left_at w t c)
    ∙ ap (λ (b : Bool). b || is_boarded_in (left_at w t c) old) not_done in
    ap (λ (xs : List Stop). is_boarded_in xs j) (later-tour w t c below) ∙ boarded-renamed w t (left_at w t c) a f (stops-wait w t c f below) j low ∙ sym whole

once-there : (w : World) (t j : ℕ) → IsAccepted w.snapshot → IsFeasiblePlan w.snapshot w.plan → j < call_count (advanced w t).snapshot
    → times_served (advanced w t).plan j ≡ 1
once-there w t j a f low =
    let there = length-map-range_with_len (λ d. map (stop_then w t) (left_at w t d)) 0 (car_count w.snapshot) in
    let here = f.cars in
    let same : length (advanced w t).plan ≡ length w.plan = omega (arith, there, here) in
    let each = sum_where-same (length w.plan) (λ c. is_boarded_in (tour_of (advanced w t).plan c) j) (λ c. is_boarded_in (tour_of w.plan c) (old_of w t j))
    (λ _. 1) (λ _. 1) (λ c b. served-same w t c j a f (omega (arith, b, here)) low) (λ c b h. refl) in
    ap (λ (n : ℕ). sum_where n (λ c. is_boarded_in (tour_of (advanced w t).plan c) j) (λ _. 1)) same ∙ each
    ∙ f.serves_once (old_of w t j) (later-call-is w t j low).below

-- ---- the law

pub accepted-there : (w : World) (t : ℕ) → IsAccepted w.snapshot → IsFeasiblePlan w.snapshot w.plan → w.snapshot.moment ≤ t → t ≤ 1000000000
    → IsAccepted (advanced w t).snapshot
accepted-there w t a f later early =
    let count = call_count (advanced w t).snapshot in
    record {
      building = a.building;
      version_low = a.version_low;
      version_high = a.version_high;
      moment = early;
      states = length-map-range_with_len (λ c. state_then w.snapshot c t (progress_at w t c) (left_at w t c)) 0 (car_count w.snapshot);
      placed = λ c b. placed-there w t c a f later b;
      unmoving = λ one c b. (car-fits w t c a f later b).unmoving one;
      groups = λ k b. group-there w t k a f later b;
      calls_high = (let few = calls-few w t in let most = a.calls_high in omega (arith, few, most));
      calls = λ j b. call-there w t j a later b;
      ids = λ j k low high same. ids-there w t j k a f low (omega arith) (sym (call-id w t j (omega arith)) ∙ same ∙ call-id w t k high);
      group_ids = λ j k low high same.
          ids-there w t (count + j) (count + k) a f (omega arith) (omega arith) (sym (group-id w t j a f (omega arith)) ∙ same ∙ group-id w t k a f high);
      ids_apart = λ j k low high same. ids-there w t j (count + k) a f (omega arith) (omega arith) (sym (call-id w t j low) ∙ same ∙ group-id w t k a f high);
    }

pub feasible-there : (w : World) (t : ℕ) → IsAccepted w.snapshot → IsFeasiblePlan w.snapshot w.plan → w.snapshot.moment ≤ t
    → IsFeasiblePlan (advanced w t).snapshot (advanced w t).plan
feasible-there w t a f later = record {
  cars = length-map-range_with_len (λ d. map (stop_then w t) (left_at w t d)) 0 (car_count w.snapshot);
  tours = λ c b. tour-there w t c a f later b;
  serves_once = λ j b. once-there w t j a f b;
}

pub advance_law : (w : World) (t : ℕ) → IsAccepted w.snapshot → IsFeasiblePlan w.snapshot w.plan → w.snapshot.moment ≤ t → t ≤ 1000000000 → StaysAccepted w t
advance_law w t a f later early = record { accepted = accepted-there w t a f later early; feasible = feasible-there w t a f later }
