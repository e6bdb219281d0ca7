-- What holds of a day between two rows stays so, and at the end each call is delivered.
use Rattle.std.proofs.Common.{◌==◌, ◌≡◌, ℕ, ◌+◌, ◌-◌, ◌<◌, ◌≤◌, ◌^◌, Bool, true, false, cond, ◌||◌, ltb, List, [], ◌∷◌, ◌++◌, map, length, get_or, All, refl}
use Rattle.std.proofs.Common.{sym, ap, ◌∙◌, subst, inl, inr, arith, Some, None, length-append}
use Rattle.std.specs.Prelude.{is_some}
use Rattle.std.specs.List.{count_by, list_all}
use Rattle.std.proofs.lemmas.Bool.{and_parts, and_from, or_right, eqb-true, eq-eqb, cases_Bool, both_ways, cases_lt, false_from_ne_true}
use Rattle.std.proofs.lemmas.List.Elements.{All-nil, All-cons, All-append, All-map, All-weaker, All-get_or, All-head, All-tail}
use Rattle.std.proofs.lemmas.List.{length-map, get_or-map, get_or_append_left, get_or-append-add}
use Rattle.std.proofs.lemmas.Simd.{map-map}
use Rattle.elevator_model.specs.declared.Aboard.{Aboard}
use Rattle.elevator_model.specs.declared.Call.{Call}
use Rattle.search_model.specs.declared.Event.{Event}
use Rattle.search_model.specs.declared.Event.TheVariants.{Board, Deliver}
use Rattle.search_model.specs.declared.Stated.{Stated}
use Rattle.elevator_model.specs.Snapshot.{Snapshot, IsAccepted, call_count, call_of, group_of, no_call, no_group}
use Rattle.elevator_model.specs.Tours.{rider_count}
use Rattle.elevator_model.specs.Plans.{IsFeasiblePlan}
use Rattle.search_model.specs.Advancing.{World, advanced, events_by, last_events, id_of_rider, is_waiting}
use Rattle.search_model.specs.Days.{Day, DayCall, Row, noted_in, calls_after, call_of_row, day_after_accepted, day_after_refused, opening_day, opening_world}
use Rattle.search_model.specs.Days.{places_of_call, calls_at_end, is_delivered_call, delivered_count}
use Rattle.tour_rules.proofs.Rising.{among_chosen}
use Rattle.tour_rules.proofs.RiderSums.{is_call, is_no_call, group_index}
use Rattle.day_state.specs.Openings.{IsOpeningSnapshot}
use Rattle.day_state.proofs.LaterRiders.{Seat, IsSeat, seats, all-seats, later-aboard, all-among, waiting}
use Rattle.day_laws.specs.Standing.{IdsRise, IsStanding, id_at, no_day_call, row_number}
use Rattle.day_laws.proofs.Counts.{count_of-cons, count_of-append}
use Rattle.day_laws.proofs.RiderCounts.{delivers}
use Rattle.day_laws.proofs.EarlyLemmas.{IsEarlyCall, early-events, early-after, early-new}
use Rattle.day_laws.proofs.Conserved.{places, conserved, all-delivered}

-- ---- events at one call

abbrev pub noted_by : List Event → DayCall → DayCall
noted_by [] x = x
noted_by (event ∷ events) x = noted_by events (noted_in event x)

map-same : {X : Type 0} (xs : List X) → map (λ x. x) xs ≡ xs
map-same [] = refl
map-same {X} (x ∷ xs) = ap (λ (ys : List X). x ∷ ys) (map-same xs)

pub calls-noted : (calls : List DayCall) (events : List Event) → calls_after calls events ≡ map (noted_by events) calls
calls-noted calls [] = sym (map-same calls)
calls-noted calls (event ∷ events) = calls-noted (map (noted_in event) calls) events ∙ map-map (noted_by events) (noted_in event) calls

pub noted-id : (event : Event) (x : DayCall) → (noted_in event x).id ≡ x.id
noted-id (Board call car moment) x = at (x.id == call)
  where
    at : (b : Bool) → (cond {A = DayCall} b (record { id = x.id; released = x.released; boarded = Some moment; delivered = x.delivered }) x).id ≡ x.id
    at true = refl
    at false = refl
noted-id (Deliver call car moment) x = at (x.id == call)
  where
    at : (b : Bool) → (cond {A = DayCall} b (record { id = x.id; released = x.released; boarded = x.boarded; delivered = Some moment }) x).id ≡ x.id
    at true = refl
    at false = refl

pub noted_by-id : (events : List Event) (x : DayCall) → (noted_by events x).id ≡ x.id
noted_by-id [] x = refl
noted_by-id (event ∷ events) x = noted_by-id events (noted_in event x) ∙ noted-id event x

-- whether it is delivered after the event
noted-delivered : (event : Event) (x : DayCall) → is_some (noted_in event x).delivered ≡ (delivers x.id event || is_some x.delivered)
noted-delivered (Board call car moment) x = at (x.id == call)
  where
    at : (b : Bool) → is_some (cond {A = DayCall} b (record { id = x.id; released = x.released; boarded = Some moment; delivered = x.delivered }) x).delivered
        ≡ is_some x.delivered
    at true = refl
    at false = refl
noted-delivered (Deliver call car moment) x = at (x.id == call) refl
  where
    at : (b : Bool) → (x.id == call) ≡ b
        → is_some (cond {A = DayCall} b (record { id = x.id; released = x.released; boarded = x.boarded; delivered = Some moment }) x).delivered
        ≡ ((call == x.id) || is_some x.delivered)
    at true e = ap (λ (y : Bool). y || is_some x.delivered) (sym (eq-eqb call x.id (sym (eqb-true x.id call e))))
    at false e = ap (λ (y : Bool). y || is_some x.delivered)
        (sym (false_from_ne_true (call == x.id) (λ h. both_ways (x.id == call) e (eq-eqb x.id call (sym (eqb-true call x.id h))))))

-- how often the events deliver the call, and whether it is delivered after them
abbrev pub times : List Event → ℕ → ℕ
times events x = count_by (delivers x) events

times-noted : (event : Event) (events : List Event) (x : DayCall) → times events (noted_in event x).id ≡ times events x.id
times-noted event events x = ap (times events) (noted-id event x)

still-delivered : (events : List Event) (x : DayCall) → is_some x.delivered ≡ true → is_some (noted_by events x).delivered ≡ true
still-delivered [] x h = h
still-delivered (event ∷ events) x h =
    still-delivered events (noted_in event x) (noted-delivered event x ∙ or_right (delivers x.id event) (is_some x.delivered) h)

not-delivered : (events : List Event) (x : DayCall) → times events x.id ≡ 0 → is_some (noted_by events x).delivered ≡ is_some x.delivered
not-delivered [] x none = refl
not-delivered (event ∷ events) x none =
    let first = count_of-cons (delivers x.id) event events in
    let same = times-noted event events x in
    not-delivered events (noted_in event x) (omega (arith, none, first, same)) ∙ noted-delivered event x
    ∙ ap (λ (b : Bool). b || is_some x.delivered) (here (delivers x.id event) (omega (arith, none, first)))
  where
    here : (b : Bool) → cond {A = ℕ} b 1 0 ≡ 0 → b ≡ false
    here true e = absurd (omega (arith, e))
    here false e = refl

then-delivered : (events : List Event) (x : DayCall) → 1 ≤ times events x.id → is_some (noted_by events x).delivered ≡ true
then-delivered [] x some = absurd (omega (arith, some))
then-delivered (event ∷ events) x some =
    let first = count_of-cons (delivers x.id) event events in
    let same = times-noted event events x in
    elim (cases_Bool (delivers x.id event)) [
      | inl e ↦ still-delivered events (noted_in event x) (noted-delivered event x ∙ ap (λ (b : Bool). b || is_some x.delivered) e)
      | inr e ↦ (let none = ap {B = ℕ} (λ (b : Bool). cond b 1 0) e in then-delivered events (noted_in event x) (omega (arith, some, first, same, none)))
    ]

-- ---- one place

-- A call that has one place has one after events that deliver it as often as it is there no more.
one-place : (s later : Snapshot) (events : List Event) (x : DayCall) → places later x.id + times events x.id ≡ places s x.id → places_of_call s x ≡ 1
    → places_of_call later (noted_by events x) ≡ 1
one-place s later events x kept one =
    let same = ap (places later) (noted_by-id events x) in
    elim (cases_Bool (is_some x.delivered)) [
      | inl e ↦ (let before = ap {B = ℕ} (λ (b : Bool). cond b 1 0) e in let after = ap {B = ℕ} (λ (b : Bool). cond b 1 0) (still-delivered events x e) in
          omega (arith, kept, one, same, before, after))
      | inr e ↦ (let before = ap {B = ℕ} (λ (b : Bool). cond b 1 0) e in elim (cases_lt (times events x.id) 1) [
        | inl none ↦ (let zero_times : times events x.id ≡ 0 = omega (arith, none) in
            let after = ap {B = ℕ} (λ (b : Bool). cond b 1 0) (not-delivered events x zero_times ∙ e) in
            omega (arith, kept, one, same, before, after, zero_times))
        | inr some ↦ (let after = ap {B = ℕ} (λ (b : Bool). cond b 1 0) (then-delivered events x some) in omega (arith, kept, one, same, before, after, some))
      ])
    ]

all-mapped : (t u : DayCall → Bool) (f : DayCall → DayCall) (xs : List DayCall) → All (λ x. t x ≡ true → u (f x) ≡ true) xs → list_all t xs ≡ true
    → list_all u (map f xs) ≡ true
all-mapped t u f [] each h = refl
all-mapped t u f (x ∷ xs) each h =
    let both = and_parts (t x) (list_all t xs) h in
    and_from (u (f x)) (list_all u (map f xs)) (All-head (λ y. t y ≡ true → u (f y) ≡ true) x xs each both.0)
    (all-mapped t u f xs (All-tail (λ y. t y ≡ true → u (f y) ≡ true) x xs each) both.1)

all-appended : (t : DayCall → Bool) (xs : List DayCall) (x : DayCall) → list_all t xs ≡ true → t x ≡ true → list_all t (xs ++ x ∷ []) ≡ true
all-appended t [] x h last = and_from (t x) true last refl
all-appended t (y ∷ xs) x h last =
    let both = and_parts (t y) (list_all t xs) h in
    and_from (t y) (list_all t (xs ++ x ∷ [])) both.0 (all-appended t xs x both.1 last)

-- every item
each-item : {X : Type 0} (P : X → Type 0) (xs : List X) → ((x : X) → P x) → All P xs
each-item P [] each = All-nil P
each-item P (x ∷ xs) each = All-cons P x xs (each x) (each-item P xs each)

-- ---- the later snapshot's ids

id-of-call : (s : Snapshot) (j : ℕ) → j < call_count s → id_of_rider s j ≡ (call_of s j).id
id-of-call s j below = ap (λ (b : Bool). cond b (call_of s j).id (group_of s (j - call_count s)).id) (is_call s j below)

id-of-group : (s : Snapshot) (k : ℕ) → id_of_rider s (call_count s + k) ≡ (group_of s k).id
id-of-group s k = ap (λ (b : Bool). cond b (call_of s (call_count s + k)).id (group_of s (call_count s + k - call_count s)).id) (is_no_call s k)
    ∙ ap (λ (i : ℕ). (group_of s i).id) (group_index s k)

rider-known : (s : Snapshot) (n r : ℕ) → All (λ (call : Call). call.id < n) s.calls → All (λ (group : Aboard). group.id < n) s.aboard → r < rider_count s
    → id_of_rider s r < n
rider-known s n r calls groups below =
    elim (cases_lt r (call_count s)) [
      | inl low ↦ subst (λ (i : ℕ). i < n) (sym (id-of-call s r low)) (All-get_or (λ (call : Call). call.id < n) s.calls r no_call low calls)
      | inr high ↦ (let e : call_count s + (r - call_count s) ≡ r = omega (arith, high) in
          subst (λ (i : ℕ). i < n) (sym (id-of-group s (r - call_count s)) ∙ ap (id_of_rider s) e)
          (All-get_or (λ (group : Aboard). group.id < n) s.aboard (r - call_count s) no_group (omega (arith, high, below)) groups))
    ]

pub later-calls-known : (w : World) (t n : ℕ) → All (λ (call : Call). call.id < n) w.snapshot.calls
    → All (λ (call : Call). call.id < n) (advanced w t).snapshot.calls
later-calls-known w t n known =
    All-map (λ (call : Call). call.id < n) (call_of w.snapshot) (waiting w t)
    (all-among (λ j. (call_of w.snapshot j).id < n) (waiting w t)
    (λ j h. let found = (among_chosen (is_waiting w t) 0 (call_count w.snapshot) j h).1 in
    All-get_or (λ (call : Call). call.id < n) w.snapshot.calls j no_call (omega (arith, found)) known))

pub later-aboard-known : (w : World) (t n : ℕ) → IsAccepted w.snapshot → IsFeasiblePlan w.snapshot w.plan → All (λ (call : Call). call.id < n) w.snapshot.calls
    → All (λ (group : Aboard). group.id < n) w.snapshot.aboard → All (λ (group : Aboard). group.id < n) (advanced w t).snapshot.aboard
later-aboard-known w t n a f calls groups =
    subst (All (λ (group : Aboard). group.id < n)) (sym (later-aboard w t))
    (All-map (λ (group : Aboard). group.id < n) (λ (y : Seat). y.group) (seats w t)
    (All-weaker (IsSeat w t) (λ (y : Seat). y.group.id < n)
    (λ y is. subst (λ (i : ℕ). i < n) (sym is.id) (rider-known w.snapshot n y.rider calls groups is.rider)) (seats w t) (all-seats w t a f)))

-- ---- rising ids

id-noted : (events : List Event) (calls : List DayCall) (k : ℕ) → k < length calls → id_at (map (noted_by events) calls) k ≡ id_at calls k
id-noted events calls k below = ap (λ (x : DayCall). x.id) (get_or-map (noted_by events) calls k no_day_call no_day_call below)
    ∙ noted_by-id events (get_or calls k no_day_call)

pub rise-noted : (events : List Event) (calls : List DayCall) → IdsRise calls → IdsRise (map (noted_by events) calls)
rise-noted events calls rise i j low high =
    let size = length-map calls (noted_by events) in
    let first = id-noted events calls i (omega (arith, low, high, size)) in
    let second = id-noted events calls j (omega (arith, high, size)) in
    let less = rise i j low (omega (arith, high, size)) in
    omega (arith, first, second, less)

rise-more : (calls : List DayCall) (x : DayCall) → IdsRise calls → All (λ (y : DayCall). y.id < x.id) calls → IdsRise (calls ++ x ∷ [])
rise-more calls x rise below i j low high =
    let size = length-append calls (x ∷ []) in
    elim (cases_lt j (length calls)) [
      | inl front ↦ (let first = ap (λ (y : DayCall). y.id) (get_or_append_left calls (x ∷ []) no_day_call i (omega (arith, low, front))) in
          let second = ap (λ (y : DayCall). y.id) (get_or_append_left calls (x ∷ []) no_day_call j front) in let less = rise i j low front in
          omega (arith, first, second, less))
      | inr last ↦ (let at : length calls + 0 ≡ j = omega (arith, last, high, size) in
          let second = ap (λ (k : ℕ). id_at (calls ++ x ∷ []) k) (sym at) ∙ ap (λ (y : DayCall). y.id) (get_or-append-add calls (x ∷ []) 0 no_day_call) in
          let front : i < length calls = omega (arith, low, at) in
          let first = ap (λ (y : DayCall). y.id) (get_or_append_left calls (x ∷ []) no_day_call i front) in
          let less = All-get_or (λ (y : DayCall). y.id < x.id) calls i no_day_call front below in omega (arith, first, second, less))
    ]

-- ---- the day

pub opening-stands : (s : Snapshot) → IsAccepted s → IsOpeningSnapshot s → IsFeasiblePlan s (opening_world s).plan → IsStanding (opening_day s)
opening-stands s a o f = record {
  accepted = a;
  feasible = f;
  rising = λ i j low high. absurd (omega (arith, high));
  known = All-nil (λ (x : DayCall). x.id < 1);
  open_known = subst (All (λ (call : Call). call.id < 1)) (sym (empty s.calls o.calls)) (All-nil (λ (call : Call). call.id < 1));
  aboard_known = subst (All (λ (group : Aboard). group.id < 1)) (sym (empty s.aboard o.aboard)) (All-nil (λ (group : Aboard). group.id < 1));
  none_lost = refl;
  early = All-nil IsEarlyCall;
  unsolved = omega arith;
  few = omega arith;
}
  where
    empty : {X : Type 0} (xs : List X) → length xs ≡ 0 → xs ≡ []
    empty [] e = refl
    empty (x ∷ xs) e = absurd (omega (arith, e))

weaker-ids : (n : ℕ) (xs : List DayCall) → All (λ (x : DayCall). x.id < n) xs → All (λ (x : DayCall). x.id < n + 1) xs
weaker-ids n xs all = All-weaker (λ (x : DayCall). x.id < n) (λ (x : DayCall). x.id < n + 1) (λ x h. omega (arith, h)) xs all

pub weaker-calls : (n m : ℕ) (xs : List Call) → n ≤ m → All (λ (x : Call). x.id < n) xs → All (λ (x : Call). x.id < m) xs
weaker-calls n m xs le all = All-weaker (λ (x : Call). x.id < n) (λ (x : Call). x.id < m) (λ x h. omega (arith, h, le)) xs all

pub weaker-groups : (n m : ℕ) (xs : List Aboard) → n ≤ m → All (λ (x : Aboard). x.id < n) xs → All (λ (x : Aboard). x.id < m) xs
weaker-groups n m xs le all = All-weaker (λ (x : Aboard). x.id < n) (λ (x : Aboard). x.id < m) (λ x h. omega (arith, h, le)) xs all

pub weaker-day-calls : (n m : ℕ) (xs : List DayCall) → n ≤ m → All (λ (x : DayCall). x.id < n) xs → All (λ (x : DayCall). x.id < m) xs
weaker-day-calls n m xs le all = All-weaker (λ (x : DayCall). x.id < n) (λ (x : DayCall). x.id < m) (λ x h. omega (arith, h, le)) xs all

pub refused-stands : (day : Day) → IsStanding day → row_number day < 2 ^ 32 → IsStanding (day_after_refused day)
refused-stands day is room = record {
  accepted = is.accepted;
  feasible = is.feasible;
  rising = is.rising;
  known = weaker-day-calls (row_number day) (row_number (day_after_refused day)) day.calls (omega arith) is.known;
  open_known = weaker-calls (row_number day) (row_number (day_after_refused day)) day.world.snapshot.calls (omega arith) is.open_known;
  aboard_known = weaker-groups (row_number day) (row_number (day_after_refused day)) day.world.snapshot.aboard (omega arith) is.aboard_known;
  none_lost = is.none_lost;
  early = is.early;
  unsolved = is.unsolved;
  few = omega (arith, room);
}

-- no item of a list has an id that is above all of theirs
pub count-above : {X : Type 0} (id : X → ℕ) (n : ℕ) (xs : List X) → All (λ x. id x < n) xs → count_by (λ x. id x == n) xs ≡ 0
count-above id n [] all = refl
count-above id n (x ∷ xs) all =
    let first = count_of-cons (λ y. id y == n) x xs in
    let rest = count-above id n xs (All-tail (λ y. id y < n) x xs all) in
    let below = All-head (λ y. id y < n) x xs all in
    let here = ap {B = ℕ} (λ (b : Bool). cond b 1 0) (false_from_ne_true (id x == n) (λ h. let e = eqb-true (id x) n h in omega (arith, e, below))) in
    omega (arith, first, rest, here)

pub accepted-stands : (day : Day) (row : Row) (printed : Stated) → IsStanding day → row_number day < 2 ^ 32
    → IsAccepted (day_after_accepted day (row_number day) row printed).world.snapshot
    → IsFeasiblePlan (day_after_accepted day (row_number day) row printed).world.snapshot printed.plan
    → IsStanding (day_after_accepted day (row_number day) row printed)
accepted-stands day row printed is room a f =
    let n = row_number day in
    let t = row.time in
    let w = day.world in
    let next = day_after_accepted day n row printed in
    let there = (advanced w t).snapshot in
    let events = events_by w t in
    let calls = calls-noted day.calls events in
    let noted : List DayCall = map (noted_by events) day.calls in
    let new : DayCall = record { id = n; released = t; boarded = None; delivered = None } in
    let same : next.calls ≡ noted ++ new ∷ [] = ap (λ (xs : List DayCall). xs ++ new ∷ []) calls in
    let size : length next.calls ≡ length day.calls + 1 = ap length same ∙ length-append noted (new ∷ [])
    ∙ ap (λ (k : ℕ). k + 1) (length-map day.calls (noted_by events)) in
    let known_noted : All (λ (x : DayCall). x.id < n) noted =
    All-map (λ (x : DayCall). x.id < n) (noted_by events) day.calls
    (All-weaker (λ (x : DayCall). x.id < n) (λ (x : DayCall). (noted_by events x).id < n)
    (λ x h. subst (λ (i : ℕ). i < n) (sym (noted_by-id events x)) h) day.calls is.known) in
    let calls_known = later-calls-known w t n is.open_known in
    let groups_known = later-aboard-known w t n is.accepted is.feasible is.open_known is.aboard_known in
    let more : n + 1 ≤ row_number next = omega (arith, size) in
    record {
      accepted = a;
      feasible = f;
      rising = subst IdsRise (sym same) (rise-more noted new (rise-noted events day.calls is.rising) known_noted);
      known = subst (All (λ (x : DayCall). x.id < row_number next)) (sym same)
          (All-append (λ (x : DayCall). x.id < row_number next) noted (new ∷ []) (weaker-day-calls n (row_number next) noted (omega (arith, more)) known_noted)
          (All-cons (λ (x : DayCall). x.id < row_number next) new [] (omega (arith, more)) (All-nil (λ (x : DayCall). x.id < row_number next))));
      open_known = All-append (λ (call : Call). call.id < row_number next) there.calls (call_of_row n row ∷ [])
          (weaker-calls n (row_number next) there.calls (omega (arith, more)) calls_known)
          (All-cons (λ (call : Call). call.id < row_number next) (call_of_row n row) [] (omega (arith, more))
          (All-nil (λ (call : Call). call.id < row_number next)));
      aboard_known = weaker-groups n (row_number next) there.aboard (omega (arith, more)) groups_known;
      none_lost = subst (λ (xs : List DayCall). list_all (λ (x : DayCall). places_of_call next.world.snapshot x == 1) xs ≡ true) (sym same)
          (all-appended (λ (x : DayCall). places_of_call next.world.snapshot x == 1) noted new
          (all-mapped (λ (x : DayCall). places_of_call w.snapshot x == 1) (λ (x : DayCall). places_of_call next.world.snapshot x == 1)
          (noted_by events) day.calls
          (All-weaker (λ (x : DayCall). x.id < n)
          (λ (x : DayCall). (places_of_call w.snapshot x == 1) ≡ true → (places_of_call next.world.snapshot (noted_by events x) == 1) ≡ true)
          (λ x below h. old-call x below (eqb-true (places_of_call w.snapshot x) 1 h)) day.calls is.known) is.none_lost)
          (eq-eqb (places_of_call next.world.snapshot new) 1 (new-call calls_known groups_known)));
      early = All-append IsEarlyCall (calls_after day.calls events) (new ∷ [])
          (early-after day.calls events (early-events w t is.accepted is.feasible) is.early)
          (All-cons IsEarlyCall new [] (early-new n t) (All-nil IsEarlyCall));
      unsolved = (let old = is.unsolved in omega (arith, size, old, one-more (ltb printed.bound printed.cost)));
      few = omega (arith, size, room);
    }
  where
    one-more : (b : Bool) → cond {A = ℕ} b 1 0 ≤ 1
    one-more true = omega arith
    one-more false = omega arith

    with-new : (x : ℕ) → places (day_after_accepted day (row_number day) row printed).world.snapshot x
        ≡ places (advanced day.world row.time).snapshot x + cond (row_number day == x) 1 0
    with-new x =
        let calls = count_of-append (λ (call : Call). call.id == x) (advanced day.world row.time).snapshot.calls (call_of_row (row_number day) row ∷ []) in
        let last = count_of-cons (λ (call : Call). call.id == x) (call_of_row (row_number day) row) [] in
        omega (arith, calls, last)

    old-call : (x : DayCall) → x.id < row_number day → places_of_call day.world.snapshot x ≡ 1
        → (places_of_call (day_after_accepted day (row_number day) row printed).world.snapshot (noted_by (events_by day.world row.time) x) == 1) ≡ true
    old-call x below one =
        let events = events_by day.world row.time in
        let kept = conserved day.world row.time is.accepted is.feasible x.id in
        let there = one-place day.world.snapshot (advanced day.world row.time).snapshot events x kept one in
        let id = noted_by-id events x in
        let more = with-new (noted_by events x).id in
        let none = ap {B = ℕ} (λ (b : Bool). cond b 1 0)
        (false_from_ne_true (row_number day == (noted_by events x).id)
        (λ h. let e = eqb-true (row_number day) (noted_by events x).id h in omega (arith, e, id, below))) in
        eq-eqb (places_of_call (day_after_accepted day (row_number day) row printed).world.snapshot (noted_by events x)) 1 (omega (arith, there, more, none))

    new-call : All (λ (call : Call). call.id < row_number day) (advanced day.world row.time).snapshot.calls
        → All (λ (group : Aboard). group.id < row_number day) (advanced day.world row.time).snapshot.aboard
        → places (day_after_accepted day (row_number day) row printed).world.snapshot (row_number day) + 0 ≡ 1
    new-call calls groups =
        let more = with-new (row_number day) in
        let waiting_none = count-above (λ (call : Call). call.id) (row_number day) (advanced day.world row.time).snapshot.calls calls in
        let aboard_none = count-above (λ (group : Aboard). group.id) (row_number day) (advanced day.world row.time).snapshot.aboard groups in
        let here = ap {B = ℕ} (λ (b : Bool). cond b 1 0) (eq-eqb (row_number day) (row_number day) refl) in
        omega (arith, more, waiting_none, aboard_none, here)

-- ---- the end

-- a list of which each item passes
pub count-all : {X : Type 0} (t : X → Bool) (xs : List X) → All (λ x. t x ≡ true) xs → count_by t xs ≡ length xs
count-all t [] all = refl
count-all t (x ∷ xs) all =
    let first = count_of-cons t x xs in
    let here = ap {B = ℕ} (λ (b : Bool). cond b 1 0) (All-head (λ y. t y ≡ true) x xs all) in
    let rest = count-all t xs (All-tail (λ y. t y ≡ true) x xs all) in
    omega (arith, first, here, rest)

all-from : (t : DayCall → Bool) (xs : List DayCall) → list_all t xs ≡ true → All (λ x. t x ≡ true) xs
all-from t [] h = All-nil (λ x. t x ≡ true)
all-from t (x ∷ xs) h = let both = and_parts (t x) (list_all t xs) h in All-cons (λ y. t y ≡ true) x xs both.0 (all-from t xs both.1)

-- Once the plan is run to its end each accepted call is delivered.
pub end-delivered : (day : Day) → IsStanding day → delivered_count day ≡ length day.calls
end-delivered day is =
    let events = last_events day.world in
    ap (count_by is_delivered_call) (calls-noted day.calls events)
    ∙ count-all is_delivered_call (map (noted_by events) day.calls)
    (All-map (λ x. is_delivered_call x ≡ true) (noted_by events) day.calls
    (All-weaker (λ (x : DayCall). (places_of_call day.world.snapshot x == 1) ≡ true) (λ (x : DayCall). is_delivered_call (noted_by events x) ≡ true)
    (λ x h. each x (eqb-true (places_of_call day.world.snapshot x) 1 h)) day.calls
    (all-from (λ (x : DayCall). places_of_call day.world.snapshot x == 1) day.calls is.none_lost))) ∙ length-map day.calls (noted_by events)
  where
    each : (x : DayCall) → places_of_call day.world.snapshot x ≡ 1 → is_delivered_call (noted_by (last_events day.world) x) ≡ true
    each x one =
        let all = all-delivered day.world is.accepted is.feasible x.id in
        elim (cases_Bool (is_some x.delivered)) [
          | inl e ↦ still-delivered (last_events day.world) x e
          | inr e ↦ (let none = ap {B = ℕ} (λ (b : Bool). cond b 1 0) e in then-delivered (last_events day.world) x (omega (arith, all, one, none)))
        ]

-- as many calls are there at the end as were accepted
pub end-length : (day : Day) → length (calls_at_end day) ≡ length day.calls
end-length day = ap length (calls-noted day.calls (last_events day.world)) ∙ length-map day.calls (noted_by (last_events day.world))
