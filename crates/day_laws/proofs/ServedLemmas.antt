-- What all events so far tell of each accepted call: it boards once and is delivered once, in time.
use Rattle.std.proofs.Common.{◌==◌, ◌≡◌, ℕ, ◌+◌, ◌<◌, ◌≤◌, Bool, true, false, cond, eqb, ltb, List, [], ◌∷◌, ◌++◌, map, length, length-append, refl, sym, ap}
use Rattle.std.proofs.Common.{◌∙◌, subst, inl, inr, arith, Option, Some, None}
use Rattle.std.specs.Prelude.{All, Contains, is_some, unwrap_or}
use Rattle.std.specs.List.{count_by, flat_map, list_all}
use Rattle.std.proofs.lemmas.Bool.{and_from, or_cases, or_left, false≢true, eqb-true, eq-eqb, false_from_ne_true, ltb-false}
use Rattle.std.proofs.lemmas.List.{length-map}
use Rattle.std.proofs.lemmas.List.Concat.{flat_map-append}
use Rattle.std.proofs.lemmas.List.Elements.{All-nil, All-cons, All-append, All-map, All-head, All-tail, All-weaker, All-contains}
use Rattle.elevator_model.specs.declared.Aboard.{Aboard}
use Rattle.elevator_model.specs.declared.Call.{Call}
use Rattle.search_model.specs.declared.Event.{Event}
use Rattle.search_model.specs.declared.Event.TheVariants.{Board, Deliver}
use Rattle.search_model.specs.declared.RowFault.{RowFault}
use Rattle.search_model.specs.declared.RowFault.TheVariants.{BeforeNow, NoRow}
use Rattle.search_model.specs.declared.Served.{Served}
use Rattle.search_model.specs.declared.Stated.{Stated}
use Rattle.call_sets.specs.Counting.{is_among}
use Rattle.elevator_model.specs.Snapshot.{Snapshot, IsAccepted}
use Rattle.elevator_model.specs.Plans.{IsFeasiblePlan, tour_of}
use Rattle.search_model.specs.Advancing.{World, advanced, done_by, events_by, last_events}
use Rattle.search_model.specs.Days.{Day, DayCall, Row, noted_in, calls_after, call_of_row, day_after_accepted, day_after_refused, fault_of_good_row}
use Rattle.search_model.specs.Days.{fault_of_new_call, fault_of_row, is_row, opening_day, opening_world, calls_at_end, delivered_count, is_delivered_call}
use Rattle.search_model.specs.Days.{loses_none, places_of_call}
use Rattle.day_state.specs.Openings.{IsOpeningSnapshot, taken}
use Rattle.day_state.proofs.AdvanceLaws.{accepted-there}
use Rattle.day_state.proofs.TakenLaws.{has-place, taken-accepted}
use Rattle.day_state.proofs.Renaming.{same_test}
use Rattle.day_laws.specs.Once.{IsServedOnce, board_moment, delivery_moment, moments_boarded, moments_delivered}
use Rattle.day_laws.specs.Standing.{row_number}
use Rattle.day_laws.proofs.Counts.{count_of-cons, count_of-append}
use Rattle.day_laws.proofs.RiderCounts.{delivers}
use Rattle.day_laws.proofs.Conserved.{places, conserved, all-delivered, done-fine, tour-fine}
use Rattle.day_laws.proofs.NoneLost.{count-all, noted_by, calls-noted, noted-id, noted_by-id, later-calls-known, later-aboard-known, count-above, weaker-calls}
use Rattle.day_laws.proofs.NoneLost.{weaker-groups, weaker-day-calls}
use Rattle.day_laws.proofs.RowFaults.{call-is-new, is-good}
use Rattle.day_laws.proofs.BoardCounts.{boards, opens, boards-kept, all-boarded}
use Rattle.day_laws.proofs.EventMoments.{IsBoardedAt, IsDeliveredAt, IsReleasedBy, HasBoardedBy, HasGotOn, told-front, told-back, told-either, boards-released}
use Rattle.day_laws.proofs.EventMoments.{delivers-boarded, later-got-on, later-open}

-- ---- moments and counts

same-ids : (a b : ℕ) → (a == b) ≡ (b == a)
same-ids a b = same_test (eqb a b) (eqb b a) (λ h. eq-eqb b a (sym (eqb-true a b h))) (λ h. eq-eqb a b (sym (eqb-true b a h)))

one-moment : (b : Bool) (moment : ℕ) → length (cond b (moment ∷ []) []) ≡ cond b 1 0
one-moment true moment = refl
one-moment false moment = refl

board-moments : (n : ℕ) (event : Event) → length (board_moment n event) ≡ cond (boards n event) 1 0
board-moments n (Board call car moment) = one-moment (call == n) moment
board-moments n (Deliver call car moment) = refl

delivery-moments : (n : ℕ) (event : Event) → length (delivery_moment n event) ≡ cond (delivers n event) 1 0
delivery-moments n (Board call car moment) = refl
delivery-moments n (Deliver call car moment) = one-moment (call == n) moment

counted : (g : Event → List ℕ) (t : Event → Bool) → ((event : Event) → length (g event) ≡ cond (t event) 1 0) → (events : List Event)
    → length (flat_map g events) ≡ count_by t events
counted g t each [] = refl
counted g t each (event ∷ events) =
    let both = length-append (g event) (flat_map g events) in
    let here = each event in
    let rest = counted g t each events in
    let all = count_of-cons t event events in
    omega (arith, both, here, rest, all)

boards-counted : (n : ℕ) (events : List Event) → length (moments_boarded n events) ≡ count_by (boards n) events
boards-counted n events = counted (board_moment n) (boards n) (board-moments n) events

deliveries-counted : (n : ℕ) (events : List Event) → length (moments_delivered n events) ≡ count_by (delivers n) events
deliveries-counted n events = counted (delivery_moment n) (delivers n) (delivery-moments n) events

one-item : (xs : List ℕ) → length xs ≡ 1 → (m : ℕ) × (xs ≡ m ∷ [])
one-item [] e = absurd (omega (arith, e))
one-item (m ∷ []) e = (m, refl)
one-item (m ∷ k ∷ xs) e = absurd (omega (arith, e))

none-among : (xs : List ℕ) → ((m : ℕ) → is_among m xs ≡ true → ⊥) → length xs ≡ 0
none-among [] none = refl
none-among (x ∷ xs) none = absurd (none x (or_left (eqb x x) (is_among x xs) (eq-eqb x x refl)))

-- ---- what is noted

-- the last moment, or what was noted before
abbrev pub last_of : Option ℕ → List ℕ → Option ℕ
last_of before [] = before
last_of before (m ∷ ms) = last_of (Some m) ms

last-append : (before : Option ℕ) (xs ys : List ℕ) → last_of before (xs ++ ys) ≡ last_of (last_of before xs) ys
last-append before [] ys = refl
last-append before (x ∷ xs) ys = last-append (Some x) xs ys

noted-board : (event : Event) (x : DayCall) → (noted_in event x).boarded ≡ last_of x.boarded (board_moment x.id event)
noted-board (Board call car moment) x = at (x.id == call) ∙ ap (λ (b : Bool). last_of x.boarded (cond b (moment ∷ []) [])) (same-ids x.id call)
  where
    at : (b : Bool) → (cond {A = DayCall} b (record { id = x.id; released = x.released; boarded = Some moment; delivered = x.delivered }) x).boarded
        ≡ last_of x.boarded (cond b (moment ∷ []) [])
    at true = refl
    at false = refl
noted-board (Deliver call car moment) x = at (x.id == call)
  where
    at : (b : Bool) → (cond {A = DayCall} b (record { id = x.id; released = x.released; boarded = x.boarded; delivered = Some moment }) x).boarded ≡ x.boarded
    at true = refl
    at false = refl

noted-delivery : (event : Event) (x : DayCall) → (noted_in event x).delivered ≡ last_of x.delivered (delivery_moment x.id event)
noted-delivery (Board call car moment) x = at (x.id == call)
  where
    at : (b : Bool) → (cond {A = DayCall} b (record { id = x.id; released = x.released; boarded = Some moment; delivered = x.delivered }) x).delivered
        ≡ x.delivered
    at true = refl
    at false = refl
noted-delivery (Deliver call car moment) x = at (x.id == call) ∙ ap (λ (b : Bool). last_of x.delivered (cond b (moment ∷ []) [])) (same-ids x.id call)
  where
    at : (b : Bool) → (cond {A = DayCall} b (record { id = x.id; released = x.released; boarded = x.boarded; delivered = Some moment }) x).delivered
        ≡ last_of x.delivered (cond b (moment ∷ []) [])
    at true = refl
    at false = refl

noted-released : (event : Event) (x : DayCall) → (noted_in event x).released ≡ x.released
noted-released (Board call car moment) x = at (x.id == call)
  where
    at : (b : Bool) → (cond {A = DayCall} b (record { id = x.id; released = x.released; boarded = Some moment; delivered = x.delivered }) x).released
        ≡ x.released
    at true = refl
    at false = refl
noted-released (Deliver call car moment) x = at (x.id == call)
  where
    at : (b : Bool) → (cond {A = DayCall} b (record { id = x.id; released = x.released; boarded = x.boarded; delivered = Some moment }) x).released ≡ x.released
    at true = refl
    at false = refl

noted_by-released : (events : List Event) (x : DayCall) → (noted_by events x).released ≡ x.released
noted_by-released [] x = refl
noted_by-released (event ∷ events) x = noted_by-released events (noted_in event x) ∙ noted-released event x

noted_by-boarded : (events : List Event) (x : DayCall) → (noted_by events x).boarded ≡ last_of x.boarded (moments_boarded x.id events)
noted_by-boarded [] x = refl
noted_by-boarded (event ∷ events) x =
    noted_by-boarded events (noted_in event x) ∙ ap (λ (n : ℕ). last_of (noted_in event x).boarded (moments_boarded n events)) (noted-id event x)
    ∙ ap (λ (o : Option ℕ). last_of o (moments_boarded x.id events)) (noted-board event x)
    ∙ sym (last-append x.boarded (board_moment x.id event) (moments_boarded x.id events))

noted_by-delivered : (events : List Event) (x : DayCall) → (noted_by events x).delivered ≡ last_of x.delivered (moments_delivered x.id events)
noted_by-delivered [] x = refl
noted_by-delivered (event ∷ events) x =
    noted_by-delivered events (noted_in event x) ∙ ap (λ (n : ℕ). last_of (noted_in event x).delivered (moments_delivered n events)) (noted-id event x)
    ∙ ap (λ (o : Option ℕ). last_of o (moments_delivered x.id events)) (noted-delivery event x)
    ∙ sym (last-append x.delivered (delivery_moment x.id event) (moments_delivered x.id events))

-- the same of more events
still-last : (g : Event → List ℕ) (before now : Option ℕ) (past events : List Event) → before ≡ last_of None (flat_map g past)
    → now ≡ last_of before (flat_map g events) → now ≡ last_of None (flat_map g (past ++ events))
still-last g before now past events was is =
    is ∙ ap (λ (o : Option ℕ). last_of o (flat_map g events)) was ∙ sym (last-append None (flat_map g past) (flat_map g events))
    ∙ ap (last_of None) (sym (flat_map-append g past events))

-- ---- what is told so far

-- of a call with this id: with the snapshot each is counted once, what is noted is what the events tell, and it boarded after
-- its release
pub record IsCallTold (s : Snapshot) (past : List Event) (id released : ℕ) (boarded delivered : Option ℕ) : Type 0 where
  pub boards : opens s id + count_by (boards id) past ≡ 1
  pub deliveries : places s id + count_by (delivers id) past ≡ 1
  pub boarded_is : boarded ≡ last_of None (moments_boarded id past)
  pub delivered_is : delivered ≡ last_of None (moments_delivered id past)
  pub late : (m : ℕ) → IsBoardedAt id m past → released ≤ m
  pub same : All (λ (call : Call). call.id ≡ id → call.released ≡ released) s.calls

abbrev pub IsTold : Snapshot → List Event → DayCall → Type 0
IsTold s past x = IsCallTold s past x.id x.released x.boarded x.delivered

pub record AreTold (bound : ℕ) (s : Snapshot) (calls : List DayCall) (past : List Event) : Type 0 where
  pub each : All (IsTold s past) calls
  pub aboard : All (λ (group : Aboard). IsBoardedAt group.id group.boarded past) s.aboard
  pub order : (n m : ℕ) → IsDeliveredAt n m past → (before : ℕ) × IsBoardedAt n before past × (before ≤ m)
  pub known : (n m : ℕ) → IsBoardedAt n m past → n < bound

-- ---- by events that lead to a later snapshot

record LeadsTo (s : Snapshot) (events : List Event) (later : Snapshot) : Type 0 where
  boards : (n : ℕ) → opens later n + count_by (boards n) events ≡ opens s n
  deliveries : (n : ℕ) → places later n + count_by (delivers n) events ≡ places s n
  released : (n m : ℕ) → IsBoardedAt n m events → IsReleasedBy s n m
  boarded : (n m : ℕ) → IsDeliveredAt n m events → HasBoardedBy s events n m
  got_on : All (HasGotOn s events) later.aboard
  is_open : All (Contains s.calls) later.calls

advance-leads : (w : World) (t : ℕ) → IsAccepted w.snapshot → IsFeasiblePlan w.snapshot w.plan → LeadsTo w.snapshot (events_by w t) (advanced w t).snapshot
advance-leads w t a f = record {
  boards = boards-kept w t a f;
  deliveries = conserved w t a f;
  released = boards-released w.snapshot (done_by w t) a (done-fine w t a f);
  boarded = delivers-boarded w.snapshot (done_by w t) a (done-fine w t a f);
  got_on = later-got-on w t a f;
  is_open = later-open w t;
}

-- the snapshot once all are delivered
abbrev emptied : Snapshot → Snapshot
emptied s = record { version = s.version; building = s.building; moment = s.moment; states = s.states; aboard = []; calls = [] }

end-leads : (w : World) → IsAccepted w.snapshot → IsFeasiblePlan w.snapshot w.plan → LeadsTo w.snapshot (last_events w) (emptied w.snapshot)
end-leads w a f = record {
  boards = λ n. (let none : opens (emptied w.snapshot) n ≡ 0 = refl in let all = all-boarded w a f n in omega (arith, none, all));
  deliveries = λ n. (let none : places (emptied w.snapshot) n ≡ 0 = refl in let all = all-delivered w a f n in omega (arith, none, all));
  released = boards-released w.snapshot (tour_of w.plan) a (tour-fine w a f);
  boarded = delivers-boarded w.snapshot (tour_of w.plan) a (tour-fine w a f);
  got_on = All-nil (HasGotOn w.snapshot (last_events w));
  is_open = All-nil (Contains w.snapshot.calls);
}

module _ (s : Snapshot) (events : List Event) (later : Snapshot) (leads : LeadsTo s events later) (past : List Event) where
  one-later : (x : DayCall) → IsTold s past x → IsTold later (past ++ events) (noted_by events x)
  one-later x told =
      let id = sym (noted_by-id events x) in
      let released = sym (noted_by-released events x) in
      let noted = noted_by events x in
      subst (λ (i : ℕ). IsCallTold later (past ++ events) i noted.released noted.boarded noted.delivered) id
      (subst (λ (r : ℕ). IsCallTold later (past ++ events) x.id r noted.boarded noted.delivered) released (record {
        boards = (let kept = leads.boards x.id in let was = told.boards in let both = count_of-append (boards x.id) past events in
            omega (arith, kept, was, both));
        deliveries = (let kept = leads.deliveries x.id in let was = told.deliveries in let both = count_of-append (delivers x.id) past events in
            omega (arith, kept, was, both));
        boarded_is = still-last (board_moment x.id) x.boarded noted.boarded past events told.boarded_is (noted_by-boarded events x);
        delivered_is = still-last (delivery_moment x.id) x.delivered noted.delivered past events told.delivered_is (noted_by-delivered events x);
        late = λ m h. elim (told-either m (board_moment x.id) past events h) [
          | inl before ↦ told.late m before
          | inr now ↦ (let found = leads.released x.id m now in
              let same = All-contains (λ (call : Call). call.id ≡ x.id → call.released ≡ x.released) s.calls found.0 told.same found.1 found.2 in
              let early = found.3 in omega (arith, same, early))
        ];
        same = All-weaker (Contains s.calls) (λ (call : Call). call.id ≡ x.id → call.released ≡ x.released)
            (λ call there. All-contains (λ (call : Call). call.id ≡ x.id → call.released ≡ x.released) s.calls call told.same there) later.calls leads.is_open;
      }))

  told-later : (bound : ℕ) (calls : List DayCall) → All (λ (call : Call). call.id < bound) s.calls → AreTold bound s calls past
      → AreTold bound later (map (noted_by events) calls) (past ++ events)
  told-later bound calls open_known told = record {
    each = All-map (IsTold later (past ++ events)) (noted_by events) calls
        (All-weaker (IsTold s past) (λ x. IsTold later (past ++ events) (noted_by events x)) one-later calls told.each);
    aboard = All-weaker (HasGotOn s events) (λ (group : Aboard). IsBoardedAt group.id group.boarded (past ++ events)) got-on later.aboard leads.got_on;
    order = λ n m h. elim (told-either m (delivery_moment n) past events h) [
      | inl before ↦ (let found = told.order n m before in (found.0, told-front found.0 (board_moment n) past events found.1, found.2))
      | inr now ↦ now-order n m (leads.boarded n m now)
    ];
    known = λ n m h. elim (told-either m (board_moment n) past events h) [
      | inl before ↦ told.known n m before
      | inr now ↦ (let found = leads.released n m now in
          subst (λ (i : ℕ). i < bound) found.2 (All-contains (λ (call : Call). call.id < bound) s.calls found.0 open_known found.1))
    ];
  }
    where
      was-aboard : (group : Aboard) → Contains s.aboard group → IsBoardedAt group.id group.boarded (past ++ events)
      was-aboard group there =
          told-front group.boarded (board_moment group.id) past events
          (All-contains (λ (g : Aboard). IsBoardedAt g.id g.boarded past) s.aboard group told.aboard there)

      got-on : (group : Aboard) → HasGotOn s events group → IsBoardedAt group.id group.boarded (past ++ events)
      got-on group (inl there) = was-aboard group there
      got-on group (inr now) = told-back group.boarded (board_moment group.id) past events now

      now-order : (n m : ℕ) → HasBoardedBy s events n m → (before : ℕ) × IsBoardedAt n before (past ++ events) × (before ≤ m)
      now-order n m (inl aboard) =
          (aboard.0.boarded, subst (λ (i : ℕ). IsBoardedAt i aboard.0.boarded (past ++ events)) aboard.2 (was-aboard aboard.0 aboard.1), aboard.3)
      now-order n m (inr now) = (now.0, told-back now.0 (board_moment n) past events now.1, now.2)

-- ---- a call more

abbrev with_one : Snapshot → Call → Snapshot
with_one s call = record { version = s.version; building = s.building; moment = s.moment; states = s.states; aboard = s.aboard; calls = s.calls ++ call ∷ [] }

abbrev new_call : ℕ → Call → DayCall
new_call n call = record { id = n; released = call.released; boarded = None; delivered = None }

opens-more : (s : Snapshot) (call : Call) (x : ℕ) → opens (with_one s call) x ≡ opens s x + cond (call.id == x) 1 0
opens-more s call x =
    let both = count_of-append (λ (c : Call). c.id == x) s.calls (call ∷ []) in
    let last = count_of-cons (λ (c : Call). c.id == x) call [] in
    omega (arith, both, last)

empty-list : (xs : List ℕ) → length xs ≡ 0 → xs ≡ []
empty-list [] e = refl
empty-list (x ∷ xs) e = absurd (omega (arith, e))

-- its id is that of no call before
module _ (n : ℕ) (s : Snapshot) (call : Call) (calls : List DayCall) (past : List Event) (is : call.id ≡ n) (told : AreTold n s calls past) where
  old-told : (x : DayCall) → x.id < n → IsTold s past x → IsTold (with_one s call) past x
  old-told x below was =
      let more = opens-more s call x.id in
      let none = ap {B = ℕ} (λ (b : Bool). cond b 1 0)
      (false_from_ne_true (call.id == x.id) (λ h. let same = eqb-true call.id x.id h in omega (arith, same, is, below))) in
      record {
        boards = (let old = was.boards in omega (arith, more, none, old));
        deliveries = (let old = was.deliveries in omega (arith, more, none, old));
        boarded_is = was.boarded_is;
        delivered_is = was.delivered_is;
        late = was.late;
        same = All-append (λ (c : Call). c.id ≡ x.id → c.released ≡ x.released) s.calls (call ∷ []) was.same
            (All-cons (λ (c : Call). c.id ≡ x.id → c.released ≡ x.released) call [] (λ e. absurd (omega (arith, e, is, below)))
            (All-nil (λ (c : Call). c.id ≡ x.id → c.released ≡ x.released)));
      }

  not-boarded : (m : ℕ) → IsBoardedAt n m past → ⊥
  not-boarded m h = let below = told.known n m h in omega (arith, below)

  not-delivered : (m : ℕ) → IsDeliveredAt n m past → ⊥
  not-delivered m h = let found = told.order n m h in not-boarded found.0 found.1

  new-told : All (λ (c : Call). c.id < n) s.calls → All (λ (group : Aboard). group.id < n) s.aboard → IsTold (with_one s call) past (new_call n call)
  new-told calls_known groups_known =
      let more = opens-more s call n in
      let here = ap {B = ℕ} (λ (b : Bool). cond b 1 0) (eq-eqb call.id n is) in
      let none_open = count-above (λ (c : Call). c.id) n s.calls calls_known in
      let none_aboard = count-above (λ (group : Aboard). group.id) n s.aboard groups_known in
      let boarded = none-among (moments_boarded n past) not-boarded in
      let delivered = none-among (moments_delivered n past) not-delivered in
      let boards_none = boards-counted n past in
      let deliveries_none = deliveries-counted n past in
      record {
        boards = omega (arith, more, here, none_open, boarded, boards_none);
        deliveries = omega (arith, more, here, none_open, none_aboard, delivered, deliveries_none);
        boarded_is = ap (last_of None) (sym (empty-list (moments_boarded n past) boarded));
        delivered_is = ap (last_of None) (sym (empty-list (moments_delivered n past) delivered));
        late = λ m h. absurd (not-boarded m h);
        same = All-append (λ (c : Call). c.id ≡ n → c.released ≡ call.released) s.calls (call ∷ [])
            (All-weaker (λ (c : Call). c.id < n) (λ (c : Call). c.id ≡ n → c.released ≡ call.released)
            (λ c below e. absurd (omega (arith, below, e))) s.calls calls_known)
            (All-cons (λ (c : Call). c.id ≡ n → c.released ≡ call.released) call [] (λ e. refl)
            (All-nil (λ (c : Call). c.id ≡ n → c.released ≡ call.released)));
      }

  one-more : All (λ (c : Call). c.id < n) s.calls → All (λ (group : Aboard). group.id < n) s.aboard → All (λ (x : DayCall). x.id < n) calls
      → AreTold (n + 1) (with_one s call) (calls ++ new_call n call ∷ []) past
  one-more calls_known groups_known ids_known = record {
    each = All-append (IsTold (with_one s call) past) calls (new_call n call ∷ []) (both-known calls ids_known told.each)
        (All-cons (IsTold (with_one s call) past) (new_call n call) [] (new-told calls_known groups_known) (All-nil (IsTold (with_one s call) past)));
    aboard = told.aboard;
    order = told.order;
    known = λ i m h. (let below = told.known i m h in omega (arith, below));
  }
    where
      both-known : (xs : List DayCall) → All (λ (x : DayCall). x.id < n) xs → All (IsTold s past) xs → All (IsTold (with_one s call) past) xs
      both-known [] known each = All-nil (IsTold (with_one s call) past)
      both-known (x ∷ xs) known each =
          All-cons (IsTold (with_one s call) past) x xs (old-told x (All-head (λ (y : DayCall). y.id < n) x xs known) (All-head (IsTold s past) x xs each))
          (both-known xs (All-tail (λ (y : DayCall). y.id < n) x xs known) (All-tail (IsTold s past) x xs each))

-- ---- the day

-- what holds between two rows of the next of which this is the number, by the events of the rows that came
pub record IsServing (number : ℕ) (w : World) (calls : List DayCall) (past : List Event) : Type 0 where
  pub accepted : IsAccepted w.snapshot
  pub feasible : IsFeasiblePlan w.snapshot w.plan
  pub known : All (λ (x : DayCall). x.id < number) calls
  pub open_known : All (λ (call : Call). call.id < number) w.snapshot.calls
  pub aboard_known : All (λ (group : Aboard). group.id < number) w.snapshot.aboard
  pub told : AreTold number w.snapshot calls past

abbrev pub IsDayServing : Day → (past : List Event) → Type 0
IsDayServing day past = IsServing (row_number day) day.world day.calls past

pub opening-serves : (s : Snapshot) → IsAccepted s → IsOpeningSnapshot s → IsFeasiblePlan s (opening_world s).plan → IsDayServing (opening_day s) []
opening-serves s a o f = record {
  accepted = a;
  feasible = f;
  known = All-nil (λ (x : DayCall). x.id < 1);
  open_known = subst (All (λ (call : Call). call.id < 1)) (sym (empty s.calls o.calls)) (All-nil (λ (call : Call). call.id < 1));
  aboard_known = subst (All (λ (group : Aboard). group.id < 1)) (sym (empty s.aboard o.aboard)) (All-nil (λ (group : Aboard). group.id < 1));
  told = record {
    each = All-nil (IsTold s []);
    aboard = subst (All (λ (group : Aboard). IsBoardedAt group.id group.boarded [])) (sym (empty s.aboard o.aboard))
        (All-nil (λ (group : Aboard). IsBoardedAt group.id group.boarded []));
    order = λ n m h. absurd (false≢true h);
    known = λ n m h. absurd (false≢true h);
  };
}
  where
    empty : {X : Type 0} (xs : List X) → length xs ≡ 0 → xs ≡ []
    empty [] e = refl
    empty (x ∷ xs) e = absurd (omega (arith, e))

pub refused-serves : (day : Day) (past : List Event) → IsDayServing day past → IsDayServing (day_after_refused day) past
refused-serves day past is =
    let n = row_number day in
    let more : n ≤ row_number (day_after_refused day) = omega arith in
    let told = is.told in
    record {
      accepted = is.accepted;
      feasible = is.feasible;
      known = weaker-day-calls n (row_number (day_after_refused day)) day.calls more is.known;
      open_known = weaker-calls n (row_number (day_after_refused day)) day.world.snapshot.calls more is.open_known;
      aboard_known = weaker-groups n (row_number (day_after_refused day)) day.world.snapshot.aboard more is.aboard_known;
      told = record {
        each = told.each;
        aboard = told.aboard;
        order = told.order;
        known = λ i m h. (let below = told.known i m h in omega (arith, below, more));
      };
    }

-- the snapshot with the call of a row that is not refused
accepted-next : (w : World) (n : ℕ) (row : Row) → IsAccepted w.snapshot → IsFeasiblePlan w.snapshot w.plan
    → All (λ (call : Call). call.id < n) w.snapshot.calls → All (λ (group : Aboard). group.id < n) w.snapshot.aboard → fault_of_row w n (Some row) ≡ None
    → IsAccepted (taken (advanced w row.time).snapshot (call_of_row n row))
accepted-next w n row a f open_known aboard_known none =
    let there = (advanced w row.time).snapshot in
    let call = call_of_row n row in
    let good = first (is_row w.snapshot.building row) (fault_of_good_row w n row) none in
    let in_time = second (ltb row.time w.snapshot.moment) (fault_of_new_call there call) good.1 in
    let place = has-place there call in_time.1 in
    taken-accepted there call (accepted-there w row.time a f (ltb-false row.time w.snapshot.moment in_time.0) (is-good w.snapshot.building row good.0).time)
    (call-is-new w n row a f open_known aboard_known good.0) place.room place.car
  where
    first : (b : Bool) (o : Option RowFault) → cond {A = Option RowFault} b o (Some NoRow) ≡ None → (b ≡ true) × (o ≡ None)
    first true o h = (refl, h)
    first false o h = absurd cc

    second : (b : Bool) (o : Option RowFault) → cond {A = Option RowFault} b (Some BeforeNow) o ≡ None → (b ≡ false) × (o ≡ None)
    second true o h = absurd cc
    second false o h = (refl, h)

pub accepted-serves : (day : Day) (row : Row) (printed : Stated) (past : List Event) → IsDayServing day past
    → fault_of_row day.world (row_number day) (Some row) ≡ None
    → IsFeasiblePlan (day_after_accepted day (row_number day) row printed).world.snapshot printed.plan
    → IsDayServing (day_after_accepted day (row_number day) row printed) (past ++ events_by day.world row.time)
accepted-serves day row printed past is none feasible =
    let n = row_number day in
    let w = day.world in
    let there = (advanced w row.time).snapshot in
    let events = events_by w row.time in
    let call = call_of_row n row in
    let new = new_call n call in
    let noted : List DayCall = map (noted_by events) day.calls in
    let next = day_after_accepted day n row printed in
    let same = sym (calls-noted day.calls events) in
    let told = told-later w.snapshot events there (advance-leads w row.time is.accepted is.feasible) past n day.calls is.open_known is.told in
    let known : All (λ (x : DayCall). x.id < n) noted =
    All-map (λ (x : DayCall). x.id < n) (noted_by events) day.calls
    (All-weaker (λ (x : DayCall). x.id < n) (λ (x : DayCall). (noted_by events x).id < n)
    (λ x h. subst (λ (i : ℕ). i < n) (sym (noted_by-id events x)) h) day.calls is.known) in
    let calls = later-calls-known w row.time n is.open_known in
    let groups = later-aboard-known w row.time n is.accepted is.feasible is.open_known is.aboard_known in
    let size = length-append (calls_after day.calls events) (new ∷ []) in
    let kept = ap length same in
    let mapped = length-map day.calls (noted_by events) in
    let number : n + 1 ≡ row_number next = omega (arith, size, kept, mapped) in
    let more : n ≤ n + 1 = omega arith in
    let all : IsServing (n + 1) next.world (noted ++ new ∷ []) (past ++ events) = record {
      accepted = accepted-next w n row is.accepted is.feasible is.open_known is.aboard_known none;
      feasible = feasible;
      known = All-append (λ (x : DayCall). x.id < n + 1) noted (new ∷ []) (weaker-day-calls n (n + 1) noted more known)
          (All-cons (λ (x : DayCall). x.id < n + 1) new [] (omega arith) (All-nil (λ (x : DayCall). x.id < n + 1)));
      open_known = All-append (λ (c : Call). c.id < n + 1) there.calls (call ∷ []) (weaker-calls n (n + 1) there.calls more calls)
          (All-cons (λ (c : Call). c.id < n + 1) call [] (omega arith) (All-nil (λ (c : Call). c.id < n + 1)));
      aboard_known = weaker-groups n (n + 1) there.aboard more groups;
      told = one-more n there call noted (past ++ events) refl told calls groups known;
    } in
    subst (λ (bound : ℕ). IsServing bound next.world next.calls (past ++ events)) number
    (subst (λ (xs : List DayCall). IsServing (n + 1) next.world (xs ++ new ∷ []) (past ++ events)) same all)

-- ---- the end

has-one : (m : ℕ) (xs : List ℕ) → xs ≡ m ∷ [] → is_among m xs ≡ true
has-one m xs e = ap (is_among m) e ∙ or_left (eqb m m) false (eq-eqb m m refl)

is-one : (b m : ℕ) (xs : List ℕ) → xs ≡ m ∷ [] → is_among b xs ≡ true → m ≡ b
is-one b m xs e h = elim (or_cases (eqb m b) false (sym (ap (is_among b) e) ∙ h)) [ inl same ↦ eqb-true m b same | inr none ↦ absurd (false≢true none) ]

served-call : (s : Snapshot) (past : List Event) (x : DayCall) → ((n m : ℕ) → IsDeliveredAt n m past → (before : ℕ) × IsBoardedAt n before past × (before ≤ m))
    → IsTold (emptied s) past x → IsServedOnce past x
served-call s past x order told =
    let on = one-item (moments_boarded x.id past)
    (let count = boards-counted x.id past in let none : opens (emptied s) x.id ≡ 0 = refl in let all = told.boards in omega (arith, count, none, all)) in
    let off = one-item (moments_delivered x.id past)
    (let count = deliveries-counted x.id past in let none : places (emptied s) x.id ≡ 0 = refl in let all = told.deliveries in
    omega (arith, count, none, all)) in
    let before = order x.id off.0 (has-one off.0 (moments_delivered x.id past) off.1) in
    let same = is-one before.0 on.0 (moments_boarded x.id past) on.1 before.1 in
    record {
      boarded = on.0;
      delivered = off.0;
      boards = on.1;
      deliveries = off.1;
      not_before_release = told.late on.0 (has-one on.0 (moments_boarded x.id past) on.1);
      not_before_board = (let early = before.2 in omega (arith, early, same));
      told = ap {B = Served} (λ (o : Option ℕ). record { call = x.id; released = x.released; boarded = unwrap_or o 0; delivered = unwrap_or x.delivered 0 })
          (told.boarded_is ∙ ap (last_of None) on.1)
          ∙ ap {B = Served} (λ (o : Option ℕ). record { call = x.id; released = x.released; boarded = on.0; delivered = unwrap_or o 0 })
          (told.delivered_is ∙ ap (last_of None) off.1);
    }

-- Once the plan is run to its end each accepted call boarded once and was delivered once, in time.
pub end-served : (day : Day) (past : List Event) → IsDayServing day past → All (IsServedOnce (past ++ last_events day.world)) (calls_at_end day)
end-served day past is =
    let s = day.world.snapshot in
    let last = last_events day.world in
    let later = told-later s last (emptied s) (end-leads day.world is.accepted is.feasible) past (row_number day) day.calls is.open_known is.told in
    subst (All (IsServedOnce (past ++ last))) (sym (calls-noted day.calls last))
    (All-weaker (IsTold (emptied s) (past ++ last)) (IsServedOnce (past ++ last)) (λ x each. served-call s (past ++ last) x later.order each)
    (map (noted_by last) day.calls) later.each)

-- of no calls there is nothing to tell
pub none-served : (day : Day) (events : List Event) → day.calls ≡ [] → All (IsServedOnce events) (calls_at_end day)
none-served day events none =
    let last = last_events day.world in
    subst (All (IsServedOnce events)) (sym (calls-noted day.calls last ∙ ap (map (noted_by last)) none)) (All-nil (IsServedOnce events))

-- ---- no call is lost

some-last : (before : Option ℕ) (ms : List ℕ) → is_some before ≡ true → is_some (last_of before ms) ≡ true
some-last before [] h = h
some-last before (m ∷ ms) h = some-last (Some m) ms refl

-- a call of which this is told is in one place
told-one : (s : Snapshot) (past : List Event) (x : DayCall) → IsTold s past x → places_of_call s x ≡ 1
told-one s past x told =
    let all = told.deliveries in
    let count = deliveries-counted x.id past in
    let here = at (moments_delivered x.id past) x.delivered told.delivered_is (omega (arith, all, count)) in
    omega (arith, here)
  where
    at : (ms : List ℕ) (o : Option ℕ) → o ≡ last_of None ms → places s x.id + length ms ≡ 1 → places s x.id + cond (is_some o) 1 0 ≡ 1
    at [] o is all = subst (λ (p : Option ℕ). places s x.id + cond (is_some p) 1 0 ≡ 1) (sym is) all
    at (m ∷ ms) o is all = let here = ap {B = ℕ} (λ (b : Bool). cond b 1 0) (ap is_some is ∙ some-last (Some m) ms refl) in omega (arith, all, here)

-- where it is neither open nor aboard it is delivered
told-delivered : (s : Snapshot) (past : List Event) (x : DayCall) → places s x.id ≡ 0 → IsTold s past x → is_some x.delivered ≡ true
told-delivered s past x none told =
    let one = one-item (moments_delivered x.id past)
    (let count = deliveries-counted x.id past in let all = told.deliveries in omega (arith, count, none, all)) in
    ap is_some (told.delivered_is ∙ ap (last_of None) one.1)

pub serving-loses-none : (day : Day) (past : List Event) → IsDayServing day past → loses_none day ≡ true
serving-loses-none day past is = each day.calls is.told.each
  where
    each : (xs : List DayCall) → All (IsTold day.world.snapshot past) xs → list_all (λ (x : DayCall). places_of_call day.world.snapshot x == 1) xs ≡ true
    each [] all = refl
    each (x ∷ xs) all =
        and_from (places_of_call day.world.snapshot x == 1) (list_all (λ (y : DayCall). places_of_call day.world.snapshot y == 1) xs)
        (eq-eqb (places_of_call day.world.snapshot x) 1 (told-one day.world.snapshot past x (All-head (IsTold day.world.snapshot past) x xs all)))
        (each xs (All-tail (IsTold day.world.snapshot past) x xs all))

-- Once the plan is run to its end each accepted call is delivered.
pub serving-delivered : (day : Day) (past : List Event) → IsDayServing day past → delivered_count day ≡ length day.calls
serving-delivered day past is =
    let s = day.world.snapshot in
    let last = last_events day.world in
    let later = told-later s last (emptied s) (end-leads day.world is.accepted is.feasible) past (row_number day) day.calls is.open_known is.told in
    ap (count_by is_delivered_call) (calls-noted day.calls last)
    ∙ count-all is_delivered_call (map (noted_by last) day.calls)
    (All-weaker (IsTold (emptied s) (past ++ last)) (λ (x : DayCall). is_delivered_call x ≡ true)
    (λ x told. told-delivered (emptied s) (past ++ last) x refl told) (map (noted_by last) day.calls) later.each)
    ∙ length-map day.calls (noted_by last)
