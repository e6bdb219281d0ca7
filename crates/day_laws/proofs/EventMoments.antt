-- Who boards by the events of a plan was open and had come; who is delivered boarded before.
use Rattle.std.proofs.Common.{◌==◌, ◌≡◌, ℕ, zero, suc, ◌+◌, ◌<◌, ◌≤◌, Bool, true, false, cond, not, ◌||◌, eqb, ltb, leb, List, [], ◌∷◌, ◌++◌, map, length, refl}
use Rattle.std.proofs.Common.{sym, ap, ◌∙◌, subst, ◌⊎◌, inl, inr, arith, None}
use Rattle.std.specs.Prelude.{All, Contains}
use Rattle.std.specs.List.{filter, flat_map, range_with_len}
use Rattle.std.proofs.lemmas.Bool.{and_parts, or_cases, or_left, or_right, false≢true, ltb-true, leb-true, eqb-true, eq-eqb, cases_Bool, cases_lt, not-false}
use Rattle.std.proofs.lemmas.List.Concat.{flat_map-append}
use Rattle.std.proofs.lemmas.List.Elements.{All-append, All-map, Contains-get_or}
use Rattle.elevator_model.specs.declared.Aboard.{Aboard}
use Rattle.elevator_model.specs.declared.Call.{Call}
use Rattle.elevator_model.specs.declared.CarState.{CarState}
use Rattle.elevator_model.specs.declared.CarState.TheVariants.{Idle, Coming, Moving}
use Rattle.elevator_model.specs.declared.Stop.{Stop}
use Rattle.search_model.specs.declared.Event.{Event}
use Rattle.call_sets.specs.Counting.{is_among}
use Rattle.elevator_model.specs.Travel.{time_between}
use Rattle.elevator_model.specs.Snapshot.{Snapshot, IsAccepted, IsTimely, car_count, call_count, call_of, group_of, spec_of, state_of, floor_of, moment_of}
use Rattle.elevator_model.specs.Snapshot.{is_coming, may_stop_first, no_call, no_group}
use Rattle.elevator_model.specs.Tours.{Progress, is_aboard, destination_of, boards_at, start_of, has_leg, arrival, make_stop, after_stops, breaks, broken_at}
use Rattle.elevator_model.specs.Tours.{none_taken, rules_of_stop}
use Rattle.elevator_model.specs.Plans.{IsFeasiblePlan}
use Rattle.search_model.specs.Advancing.{World, advanced, done_by, progress_at, id_of_rider, boards_by_id, riders_at_start, riders_after, riders_after_all}
use Rattle.search_model.specs.Advancing.{delivery, boarding, events_at, events_from, events_of_car, for_cars, group_from, new_groups, rides_on, is_waiting}
use Rattle.search_model.specs.Advancing.{events_by}
use Rattle.call_sets.proofs.ListTests.{list_any-append}
use Rattle.tour_rules.proofs.BoundedTests.{AllClear-from}
use Rattle.tour_rules.proofs.Rising.{among_chosen}
use Rattle.tour_rules.proofs.Settled.{boards-call}
use Rattle.tour_rules.proofs.Sound.{AllFine}
use Rattle.day_state.proofs.LaterRiders.{all-among, all-ranges, new_riders, staying_groups, waiting}
use Rattle.day_state.proofs.LaterTimes.{aboard-group}
use Rattle.day_state.proofs.ListedRiders.{among-filter, among-boards}
use Rattle.day_laws.specs.Once.{board_moment, delivery_moment, moments_boarded, moments_delivered}
use Rattle.day_laws.proofs.Conserved.{id-of-call, id-of-group, done-fine}

-- among these events is one of this moment by which the call with this id boards, or is delivered
abbrev pub IsBoardedAt : (id moment : ℕ) → List Event → Type 0
IsBoardedAt id moment events = is_among moment (moments_boarded id events) ≡ true

abbrev pub IsDeliveredAt : (id moment : ℕ) → List Event → Type 0
IsDeliveredAt id moment events = is_among moment (moments_delivered id events) ≡ true

-- ---- events in two lists, and in those of several cars

among-joined : (m : ℕ) (g : Event → List ℕ) (xs ys : List Event)
    → is_among m (flat_map g (xs ++ ys)) ≡ (is_among m (flat_map g xs) || is_among m (flat_map g ys))
among-joined m g xs ys = ap (is_among m) (flat_map-append g xs ys) ∙ list_any-append (λ y. eqb y m) (flat_map g xs) (flat_map g ys)

pub told-front : (m : ℕ) (g : Event → List ℕ) (xs ys : List Event) → is_among m (flat_map g xs) ≡ true → is_among m (flat_map g (xs ++ ys)) ≡ true
told-front m g xs ys h = among-joined m g xs ys ∙ or_left (is_among m (flat_map g xs)) (is_among m (flat_map g ys)) h

pub told-back : (m : ℕ) (g : Event → List ℕ) (xs ys : List Event) → is_among m (flat_map g ys) ≡ true → is_among m (flat_map g (xs ++ ys)) ≡ true
told-back m g xs ys h = among-joined m g xs ys ∙ or_right (is_among m (flat_map g xs)) (is_among m (flat_map g ys)) h

pub told-either : (m : ℕ) (g : Event → List ℕ) (xs ys : List Event) → is_among m (flat_map g (xs ++ ys)) ≡ true → (is_among m (flat_map g xs) ≡ true)
    ⊎ (is_among m (flat_map g ys) ≡ true)
told-either m g xs ys h = or_cases (is_among m (flat_map g xs)) (is_among m (flat_map g ys)) (sym (among-joined m g xs ys) ∙ h)

told-of-car : (m : ℕ) (g : Event → List ℕ) (f : ℕ → List Event) (a n c : ℕ) → a ≤ c → c < a + n → is_among m (flat_map g (f c)) ≡ true
    → is_among m (flat_map g (flat_map f (range_with_len a n))) ≡ true
told-of-car m g f a zero c low high h = absurd (omega (arith, low, high))
told-of-car m g f a (suc n) c low high h =
    elim (cases_lt a c) [
      | inl later ↦ told-back m g (f a) (flat_map f (range_with_len (a + 1) n)) (told-of-car m g f (a + 1) n c (omega (arith, later)) (omega (arith, high)) h)
      | inr first ↦ (let same : c ≡ a = omega (arith, low, first) in
          told-front m g (f a) (flat_map f (range_with_len (a + 1) n)) (subst (λ (x : ℕ). is_among m (flat_map g (f x)) ≡ true) same h))
    ]

told-by-car : (m : ℕ) (g : Event → List ℕ) (f : ℕ → List Event) (a n : ℕ) → is_among m (flat_map g (flat_map f (range_with_len a n))) ≡ true → (c : ℕ)
    × (c < a + n) × (is_among m (flat_map g (f c)) ≡ true)
told-by-car m g f a zero h = absurd (false≢true h)
told-by-car m g f a (suc n) h =
    elim (told-either m g (f a) (flat_map f (range_with_len (a + 1) n)) h) [
      | inl here ↦ (a, omega arith, here)
      | inr there ↦ (let later = told-by-car m g f (a + 1) n there in let below = later.1 in (later.0, omega (arith, below), later.2))
    ]

-- ---- events of riders

at-rider : (b : Bool) (moment m : ℕ) → is_among m (cond b (moment ∷ []) []) ≡ true → (b ≡ true) × (moment ≡ m)
at-rider true moment m h = elim (or_cases (eqb moment m) false h) [ inl e ↦ (refl, eqb-true moment m e) | inr none ↦ absurd (false≢true none) ]
at-rider false moment m h = absurd (false≢true h)

at-moment : (b : Bool) (moment : ℕ) → b ≡ true → is_among moment (cond b (moment ∷ []) []) ≡ true
at-moment true moment e = or_left (eqb moment moment) false (eq-eqb moment moment refl)
at-moment false moment e = absurd (false≢true e)

module _ (s : Snapshot) (c moment : ℕ) where
  -- who boards, by the events
  boarders : (xs : List ℕ) (n m : ℕ) → IsBoardedAt n m (map (boarding s c moment) xs) → (r : ℕ) × (is_among r xs ≡ true) × (id_of_rider s r ≡ n) × (moment ≡ m)
  boarders [] n m h = absurd (false≢true h)
  boarders (x ∷ xs) n m h =
      elim (told-either m (board_moment n) (boarding s c moment x ∷ []) (map (boarding s c moment) xs) h) [
        | inl here ↦ (let found = of_one here in (x, or_left (eqb x x) (is_among x xs) (eq-eqb x x refl), eqb-true (id_of_rider s x) n found.0, found.1))
        | inr there ↦ (let later = boarders xs n m there in (later.0, or_right (eqb x later.0) (is_among later.0 xs) later.1, later.2, later.3))
      ]
    where
      of_one : IsBoardedAt n m (boarding s c moment x ∷ []) → ((id_of_rider s x == n) ≡ true) × (moment ≡ m)
      of_one here = at-rider (id_of_rider s x == n) moment m (one (id_of_rider s x == n) here)
        where
          one : (b : Bool) → is_among m (cond b (moment ∷ []) [] ++ []) ≡ true → is_among m (cond b (moment ∷ []) []) ≡ true
          one true e = e
          one false e = e

  boards-him : (xs : List ℕ) (r : ℕ) → is_among r xs ≡ true → IsBoardedAt (id_of_rider s r) moment (map (boarding s c moment) xs)
  boards-him [] r h = absurd (false≢true h)
  boards-him (x ∷ xs) r h =
      let n = id_of_rider s r in
      elim (or_cases (eqb x r) (is_among r xs) h) [
        | inl e ↦ told-front moment (board_moment n) (boarding s c moment x ∷ []) (map (boarding s c moment) xs)
            (one (id_of_rider s x == n) (eq-eqb (id_of_rider s x) n (ap (id_of_rider s) (eqb-true x r e))))
        | inr e ↦ told-back moment (board_moment n) (boarding s c moment x ∷ []) (map (boarding s c moment) xs) (boards-him xs r e)
      ]
    where
      one : (b : Bool) → b ≡ true → is_among moment (cond b (moment ∷ []) [] ++ []) ≡ true
      one true e = at-moment true moment e
      one false e = absurd (false≢true e)

  leavers : (xs : List ℕ) (n m : ℕ) → IsDeliveredAt n m (map (delivery s c moment) xs) → (r : ℕ) × (is_among r xs ≡ true) × (id_of_rider s r ≡ n) × (moment ≡ m)
  leavers [] n m h = absurd (false≢true h)
  leavers (x ∷ xs) n m h =
      elim (told-either m (delivery_moment n) (delivery s c moment x ∷ []) (map (delivery s c moment) xs) h) [
        | inl here ↦ (let found = of_one here in (x, or_left (eqb x x) (is_among x xs) (eq-eqb x x refl), eqb-true (id_of_rider s x) n found.0, found.1))
        | inr there ↦ (let later = leavers xs n m there in (later.0, or_right (eqb x later.0) (is_among later.0 xs) later.1, later.2, later.3))
      ]
    where
      of_one : IsDeliveredAt n m (delivery s c moment x ∷ []) → ((id_of_rider s x == n) ≡ true) × (moment ≡ m)
      of_one here = at-rider (id_of_rider s x == n) moment m (one (id_of_rider s x == n) here)
        where
          one : (b : Bool) → is_among m (cond b (moment ∷ []) [] ++ []) ≡ true → is_among m (cond b (moment ∷ []) []) ≡ true
          one true e = e
          one false e = e

  none-boards : (xs : List ℕ) (n m : ℕ) → IsBoardedAt n m (map (delivery s c moment) xs) → ⊥
  none-boards [] n m h = absurd (false≢true h)
  none-boards (x ∷ xs) n m h = none-boards xs n m h

  none-leaves : (xs : List ℕ) (n m : ℕ) → IsDeliveredAt n m (map (boarding s c moment) xs) → ⊥
  none-leaves [] n m h = absurd (false≢true h)
  none-leaves (x ∷ xs) n m h = none-leaves xs n m h

-- ---- the moments of stops

-- the car is at the start of its tour, or leaves its last stop after the snapshot's moment
pub record HasStopped (s : Snapshot) (p : Progress) : Type 0 where
  pub begun : p.begun ≡ true
  pub late : s.moment ≤ p.leaves
  pub opened : p.opened ≤ p.leaves

abbrev IsUnderWay : Snapshot → ℕ → Progress → Type 0
IsUnderWay s c p = (p ≡ start_of s c) ⊎ HasStopped s p

leg-late : (b : Bool) (leaves time : ℕ) → leaves ≤ cond b (leaves + time) leaves
leg-late true leaves time = omega arith
leg-late false leaves time = omega arith

first-late : (s : Snapshot) (c g : ℕ) (state : CarState) → IsTimely s c state → may_stop_first s.building c s.moment state g ≡ true
    → s.moment ≤ cond (not (is_coming state)) (moment_of state + time_between s.building.travel (floor_of state) g) (moment_of state)
first-late s c g (Idle floor free) timely may = let low = timely.0 in omega (arith, low)
first-late s c g (Coming floor arrives) timely may = timely.0
first-late s c g (Moving from up left) timely may =
    leb-true s.moment (left + time_between s.building.travel from g) (and_parts _ (leb s.moment (left + time_between s.building.travel from g)) may).1

-- a stop comes not before the snapshot's moment, nor before the doors of the last one were open
arrives-late : (s : Snapshot) (c : ℕ) (p : Progress) (stop : Stop) → IsAccepted s → c < car_count s → IsUnderWay s c p → broken_at s c none_taken p stop ≡ None
    → (s.moment ≤ arrival s c p stop.floor) × (p.opened ≤ arrival s c p stop.floor)
arrives-late s c p stop a below (inl starts) fine =
    subst (λ (q : Progress). (s.moment ≤ arrival s c q stop.floor) × (q.opened ≤ arrival s c q stop.floor)) (sym starts) (
      first-late s c stop.floor (state_of s c) (a.placed c below).timely
          (first (subst (λ (q : Progress). broken_at s c none_taken q stop ≡ None) starts fine)),
      leg-late (has_leg s c (start_of s c)) (moment_of (state_of s c)) (time_between s.building.travel (floor_of (state_of s c)) stop.floor),
    )
  where
    first : broken_at s c none_taken (start_of s c) stop ≡ None → may_stop_first s.building c s.moment (state_of s c) stop.floor ≡ true
    first clear = not-false (may_stop_first s.building c s.moment (state_of s c) stop.floor)
        (AllClear-from (breaks s c none_taken (start_of s c) stop) rules_of_stop clear).0
arrives-late s c p stop a below (inr stopped) fine =
    let leg = leg-late (has_leg s c p) p.leaves (time_between s.building.travel p.floor stop.floor) in
    (let late = stopped.late in omega (arith, leg, late), let opened = stopped.opened in omega (arith, leg, opened))

stops-late : (s : Snapshot) (c : ℕ) (p : Progress) (stop : Stop) → s.moment ≤ arrival s c p stop.floor → HasStopped s (make_stop s c p stop)
stops-late s c p stop late = record { begun = refl; late = omega (arith, late); opened = omega arith }

-- ---- along the stops of a car

-- a group that was aboard the car at its start
abbrev IsGroupOf : Snapshot → (c r : ℕ) → Type 0
IsGroupOf s c r = (k : ℕ) × (k < length s.aboard) × (call_count s + k ≡ r) × ((group_of s k).car ≡ c)

-- one of the events boards the rider, not after the doors of the last stop were open
record HasBoarded (s : Snapshot) (events : List Event) (p : Progress) (r : ℕ) : Type 0 where
  event : IsBoardedAt (id_of_rider s r) (p.boarded_at r) events
  early : p.boarded_at r ≤ p.opened

abbrev IsCarried : Snapshot → (c : ℕ) → List Event → Progress → (r : ℕ) → Type 0
IsCarried s c events p r = IsGroupOf s c r ⊎ HasBoarded s events p r

-- a call that is open with this id was released by this moment
abbrev pub IsReleasedBy : Snapshot → (id moment : ℕ) → Type 0
IsReleasedBy s id moment = (call : Call) × Contains s.calls call × (call.id ≡ id) × (call.released ≤ moment)

-- who has this id boarded by this moment, as a group of the snapshot or by one of the events
abbrev pub HasBoardedBy : Snapshot → List Event → (id moment : ℕ) → Type 0
HasBoardedBy s events id moment =
    ((group : Aboard) × Contains s.aboard group × (group.id ≡ id) × (group.boarded ≤ moment))
    ⊎ ((before : ℕ) × IsBoardedAt id before events × (before ≤ moment))

-- what holds of some of the events, and of the riders at their end
record AreInTime (s : Snapshot) (c : ℕ) (events some : List Event) (p : Progress) (riders : List ℕ) : Type 0 where
  boards : (n m : ℕ) → IsBoardedAt n m some → IsReleasedBy s n m
  deliveries : (n m : ℕ) → IsDeliveredAt n m some → HasBoardedBy s events n m
  carried : (r : ℕ) → is_among r riders ≡ true → IsCarried s c events p r

module _ (s : Snapshot) (c : ℕ) (events : List Event) (a : IsAccepted s) (below : c < car_count s) where
  -- at one stop
  boards-here : (stop : Stop) (moment n m : ℕ) → s.moment ≤ moment → IsBoardedAt n m (map (boarding s c moment) (boards_by_id s stop)) → IsReleasedBy s n m
  boards-here stop moment n m late h =
      let found = boarders s c moment (boards_by_id s stop) n m h in
      let r = found.0 in
      let low = boards-call s stop r (sym (among-boards s stop r) ∙ found.1) in
      let released = (a.calls r low).released in
      let same = found.3 in
      (call_of s r, Contains-get_or s.calls r no_call low, sym (id-of-call s r low) ∙ found.2, omega (arith, released, late, same))

  leaves-here : (p : Progress) (moment n m r : ℕ) → id_of_rider s r ≡ n → moment ≡ m → s.moment + (spec_of s c).opening ≤ moment → p.opened ≤ moment
      → IsCarried s c events p r → HasBoardedBy s events n m
  leaves-here p moment n m r is same late order (inl group) =
      let k = group.0 in
      let soon = (a.groups k group.1).boarded in
      let opening = ap (λ (d : ℕ). (spec_of s d).opening) group.3 in
      inl (
        group_of s k,
        Contains-get_or s.aboard k no_group group.1,
        sym (id-of-group s k) ∙ ap (id_of_rider s) group.2 ∙ is,
        omega (arith, soon, opening, late, same),
      )
  leaves-here p moment n m r is same late order (inr boarded) =
      let early = boarded.early in
      inr (p.boarded_at r, subst (λ (i : ℕ). IsBoardedAt i (p.boarded_at r) events) is boarded.event, omega (arith, early, order, same))

  -- who rides on, and who boards
  rides-here : (p : Progress) (stop : Stop) (r : ℕ) → p.opened ≤ (make_stop s c p stop).opened
      → ((n m : ℕ) → IsBoardedAt n m (map (boarding s c (make_stop s c p stop).opened) (boards_by_id s stop)) → IsBoardedAt n m events)
      → (boards_at s stop r ≡ false → IsCarried s c events p r) → IsCarried s c events (make_stop s c p stop) r
  rides-here p stop r order known old =
      elim (cases_Bool (boards_at s stop r)) [ inl on ↦ inr (new on) | inr off ↦ kept off (old off) ]
    where
      opened : ℕ
      opened = (make_stop s c p stop).opened

      new : boards_at s stop r ≡ true → HasBoarded s events (make_stop s c p stop) r
      new on =
          let at : (make_stop s c p stop).boarded_at r ≡ opened = ap (λ (b : Bool). cond b opened (p.boarded_at r)) on in
          record {
            event =
                subst (λ (m : ℕ). IsBoardedAt (id_of_rider s r) m events) (sym at)
                (known (id_of_rider s r) opened (boards-him s c opened (boards_by_id s stop) r (among-boards s stop r ∙ on)));
            early = omega (arith, at);
          }

      kept : boards_at s stop r ≡ false → IsCarried s c events p r → IsCarried s c events (make_stop s c p stop) r
      kept off (inl group) = inl group
      kept off (inr boarded) =
          let at : (make_stop s c p stop).boarded_at r ≡ p.boarded_at r = ap (λ (b : Bool). cond b opened (p.boarded_at r)) off in
          let early = boarded.early in
          inr (record { event = subst (λ (m : ℕ). IsBoardedAt (id_of_rider s r) m events) (sym at) boarded.event; early = omega (arith, at, early, order) })

  along : (riders : List ℕ) (p : Progress) (stops : List Stop) → IsUnderWay s c p → AllFine s c p stops
      → ((n m : ℕ) → IsBoardedAt n m (events_from s c riders p stops) → IsBoardedAt n m events)
      → ((r : ℕ) → is_among r riders ≡ true → IsCarried s c events p r)
      → AreInTime s c events (events_from s c riders p stops) (after_stops s c p stops) (riders_after_all s riders stops)
  along riders p [] under fine known carried =
      record { boards = λ n m h. absurd (false≢true h); deliveries = λ n m h. absurd (false≢true h); carried = carried }
  along riders p (stop ∷ stops) under fine known carried =
      joined (along (riders_after s riders stop) next stops (inr (stops-late s c p stop arrives.0)) fine.1
      (λ n m h. known n m (told-back m (board_moment n) here there h)) rides)
    where
      next : Progress
      next = make_stop s c p stop

      opened : ℕ
      opened = next.opened

      leaving : List ℕ
      leaving = filter (λ r. destination_of s r == stop.floor) riders

      staying : List ℕ
      staying = filter (λ r. not (destination_of s r == stop.floor)) riders

      off : List Event
      off = map (delivery s c opened) leaving

      on : List Event
      on = map (boarding s c opened) (boards_by_id s stop)

      here : List Event
      here = events_at s c opened riders stop

      there : List Event
      there = events_from s c (riders_after s riders stop) next stops

      arrives : (s.moment ≤ arrival s c p stop.floor) × (p.opened ≤ arrival s c p stop.floor)
      arrives = arrives-late s c p stop a below under fine.0

      late : s.moment + (spec_of s c).opening ≤ opened
      late = let low = arrives.0 in omega (arith, low)

      order : p.opened ≤ opened
      order = let low = arrives.1 in omega (arith, low)

      boards-known : (n m : ℕ) → IsBoardedAt n m on → IsBoardedAt n m events
      boards-known n m h = known n m (told-front m (board_moment n) here there (told-back m (board_moment n) off on h))

      leaves : (n m : ℕ) → IsDeliveredAt n m off → HasBoardedBy s events n m
      leaves n m h =
          let found = leavers s c opened leaving n m h in
          let r = found.0 in
          leaves-here p opened n m r found.2 found.3 late order
          (carried r (and_parts (is_among r riders) (destination_of s r == stop.floor)
          (sym (among-filter (λ y. destination_of s y == stop.floor) riders r) ∙ found.1)).0)

      rides : (r : ℕ) → is_among r (riders_after s riders stop) ≡ true → IsCarried s c events next r
      rides r h =
          rides-here p stop r order boards-known
          (λ none. elim (or_cases (is_among r staying) (is_among r (boards_by_id s stop))
          (sym (list_any-append (λ y. eqb y r) staying (boards_by_id s stop)) ∙ h)) [
            | inl e ↦ carried r
                (and_parts (is_among r riders) (not (destination_of s r == stop.floor))
                (sym (among-filter (λ y. not (destination_of s y == stop.floor)) riders r) ∙ e)).0
            | inr e ↦ absurd (false≢true (sym none ∙ sym (among-boards s stop r) ∙ e))
          ])

      joined : AreInTime s c events there (after_stops s c next stops) (riders_after_all s (riders_after s riders stop) stops)
          → AreInTime s c events (here ++ there) (after_stops s c next stops) (riders_after_all s (riders_after s riders stop) stops)
      joined rest = record {
        boards = λ n m h. elim (told-either m (board_moment n) here there h) [
          | inl e ↦ (elim (told-either m (board_moment n) off on e) [
            | inl none ↦ absurd (none-boards s c opened leaving n m none)
            | inr some ↦ boards-here stop opened n m (omega (arith, late)) some
          ])
          | inr e ↦ rest.boards n m e
        ];
        deliveries = λ n m h. elim (told-either m (delivery_moment n) here there h) [
          | inl e ↦ (elim (told-either m (delivery_moment n) off on e) [
            | inl some ↦ leaves n m some
            | inr none ↦ absurd (none-leaves s c opened (boards_by_id s stop) n m none)
          ])
          | inr e ↦ rest.deliveries n m e
        ];
        carried = rest.carried;
      }

-- ---- of all cars

abbrev pub all_events : Snapshot → (ℕ → List Stop) → List Event
all_events s stops = for_cars s (λ c. events_of_car s c (stops c))

module _ (s : Snapshot) (stops : ℕ → List Stop) (a : IsAccepted s) (fine : (c : ℕ) → c < car_count s → AllFine s c (start_of s c) (stops c)) where
  of-car : (c : ℕ) → c < car_count s
      → AreInTime s c (all_events s stops) (events_of_car s c (stops c)) (after_stops s c (start_of s c) (stops c))
      (riders_after_all s (riders_at_start s c) (stops c))
  of-car c below =
      along s c (all_events s stops) a below (riders_at_start s c) (start_of s c) (stops c) (inl refl) (fine c below)
      (λ n m h. told-of-car m (board_moment n) (λ d. events_of_car s d (stops d)) 0 (car_count s) c (omega arith) (omega (arith, below)) h)
      (λ r h. inl (aboard-group s c r (among_chosen (is_aboard s c) (call_count s) (length s.aboard) r h).2))

  -- Who boards was open and had come.
  pub boards-released : (n m : ℕ) → IsBoardedAt n m (all_events s stops) → IsReleasedBy s n m
  boards-released n m h =
      let found = told-by-car m (board_moment n) (λ d. events_of_car s d (stops d)) 0 (car_count s) h in
      let below = found.1 in
      (of-car found.0 (omega (arith, below))).boards n m found.2

  -- Who is delivered boarded before.
  pub delivers-boarded : (n m : ℕ) → IsDeliveredAt n m (all_events s stops) → HasBoardedBy s (all_events s stops) n m
  delivers-boarded n m h =
      let found = told-by-car m (delivery_moment n) (λ d. events_of_car s d (stops d)) 0 (car_count s) h in
      let below = found.1 in
      (of-car found.0 (omega (arith, below))).deliveries n m found.2

-- ---- who is there later

-- the group was aboard, or one of the events boards it at its moment
abbrev pub HasGotOn : Snapshot → List Event → Aboard → Type 0
HasGotOn s events group = Contains s.aboard group ⊎ IsBoardedAt group.id group.boarded events

pub later-got-on : (w : World) (t : ℕ) → IsAccepted w.snapshot → IsFeasiblePlan w.snapshot w.plan
    → All (HasGotOn w.snapshot (events_by w t)) (advanced w t).snapshot.aboard
later-got-on w t a f =
    All-append P (map (group_of s) (staying_groups w t)) (for_cars s (new_groups w t))
    (All-map P (group_of s) (staying_groups w t) (all-among (λ k. P (group_of s k)) (staying_groups w t) stays))
    (all-ranges P (new_groups w t) 0 (car_count s)
    (λ c low high. All-map P (group_from s c (progress_at w t c)) (new_riders w t c)
    (all-among (λ r. P (group_from s c (progress_at w t c) r)) (new_riders w t c) (λ r h. new c r (omega (arith, high)) h))))
  where
    s : Snapshot
    s = w.snapshot

    P : Aboard → Type 0
    P = HasGotOn w.snapshot (events_by w t)

    stays : (k : ℕ) → is_among k (staying_groups w t) ≡ true → P (group_of s k)
    stays k h = let found = (among_chosen (rides_on w t) 0 (length s.aboard) k h).1 in inl (Contains-get_or s.aboard k no_group (omega (arith, found)))

    new : (c r : ℕ) → c < car_count s → is_among r (new_riders w t c) ≡ true → P (group_from s c (progress_at w t c) r)
    new c r below h =
        let riders = riders_after_all s (riders_at_start s c) (done_by w t c) in
        let parts = and_parts (is_among r riders) (ltb r (call_count s)) (sym (among-filter (λ x. ltb x (call_count s)) riders r) ∙ h) in
        let low = ltb-true r (call_count s) parts.1 in
        elim ((of-car s (done_by w t) a (done-fine w t a f) c below).carried r parts.0) [
          | inl group ↦ (let same = group.2 in absurd (omega (arith, same, low)))
          | inr boarded ↦ inr (subst (λ (i : ℕ). IsBoardedAt i ((progress_at w t c).boarded_at r) (events_by w t)) (id-of-call s r low) boarded.event)
        ]

pub later-open : (w : World) (t : ℕ) → All (Contains w.snapshot.calls) (advanced w t).snapshot.calls
later-open w t =
    All-map (Contains w.snapshot.calls) (call_of w.snapshot) (waiting w t)
    (all-among (λ j. Contains w.snapshot.calls (call_of w.snapshot j)) (waiting w t)
    (λ j h. let found = (among_chosen (is_waiting w t) 0 (call_count w.snapshot) j h).1 in
    Contains-get_or w.snapshot.calls j no_call (omega (arith, found))))
