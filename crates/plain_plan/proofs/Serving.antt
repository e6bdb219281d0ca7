-- A car that lets off those aboard and then serves its calls one after another breaks no rule.
use Rattle.std.proofs.Common.{◌≡◌, ℕ, ◌+◌, ◌<◌, ◌≤◌, Bool, true, false, cond, not, ◌&&◌, ◌||◌, eqb, List, [], ◌∷◌, refl, sym, ap, ◌∙◌, subst, inl, inr, arith}
use Rattle.std.proofs.Common.{Option, Some, None}
use Rattle.std.proofs.lemmas.Bool.{or_from, or_left, or_right, or_cases, and_parts, and_from, and_left, and_right, false≢true, true≢false, both_ways, eqb-true}
use Rattle.std.proofs.lemmas.Bool.{eqb-false, eq-eqb, ne_eqb, cases_Bool, not_from_true, not_from_false, not-true, cond-true, cond-false}
use Rattle.elevator_model.specs.declared.CarState.{CarState}
use Rattle.elevator_model.specs.declared.CarState.TheVariants.{Idle, Coming, Moving}
use Rattle.elevator_model.specs.declared.Rule.{Rule}
use Rattle.elevator_model.specs.declared.Rule.TheVariants.{FirstStop, Delivery}
use Rattle.elevator_model.specs.declared.Stop.{Stop}
use Rattle.elevator_model.specs.Building.{Building}
use Rattle.call_sets.specs.Counting.{any_below, is_among}
use Rattle.elevator_model.specs.Snapshot.{Snapshot, IsAccepted, call_of, spec_of, state_of, is_idle, may_stop_first, serves}
use Rattle.elevator_model.specs.Tours.{Progress, broken_at, broken_at_end, broken_or, first_broken_from, none_taken, make_stop, gets_off, stays_on, has_leg}
use Rattle.elevator_model.specs.Tours.{turns_with, persons_where, persons_of, rider_count, destination_of, is_later_in_queue, start_of, IsFeasible}
use Rattle.elevator_model.specs.Plans.{is_boarded_in}
use Rattle.call_sets.proofs.BelowTests.{any_below-at, any_below-true, any_below-none}
use Rattle.call_sets.proofs.Sums.{sum_below-same, sum_where-one}
use Rattle.plain_plan.specs.PlainTours.{at, after_pending, served, opened, AreServable}
use Rattle.plain_plan.specs.Openings.{Reaches, IsBeyond, Opens, IsOpening}
use Rattle.plain_plan.proofs.StopClear.{AllGoTo, NoneLater, no_turn, no_turn-all, none_stays, fewer_stay, empty_clear, board_clear, persons_fit}
use Rattle.plain_plan.proofs.StopClear.{persons_of-call, destination_of-call, serves_destination, boarded_more, boarded_same, carried_less, carried_alone}

-- each stop breaks no rule, and the tour may end after the last
abbrev pub IsFine : Snapshot → ℕ → Progress → List Stop → Type 0
IsFine s c p [] = broken_at_end s c p ≡ None
IsFine s c p (st ∷ stops) = (broken_at s c none_taken p st ≡ None) × IsFine s c (make_stop s c p st) stops

pub fine_feasible : (s : Snapshot) (c : ℕ) (p : Progress) (k : ℕ) (stops : List Stop) → IsFine s c p stops → first_broken_from s c none_taken p k stops ≡ None
fine_feasible s c p k [] fine = ap (λ (o : Option Rule). broken_or o k None) fine
fine_feasible s c p k (st ∷ stops) fine =
    ap (λ (o : Option Rule). broken_or o k (first_broken_from s c none_taken (make_stop s c p st) (k + 1) stops)) fine.0
    ∙ fine_feasible s c (make_stop s c p st) (k + 1) stops fine.1

fine_after : (s : Snapshot) (c : ℕ) (p : Progress) (f g : ℕ) (stops : List Stop) → (f ≡ g → IsFine s c p stops)
    → ((f ≡ g → ⊥) → IsFine s c p (at f [] ∷ stops)) → IsFine s c p (after_pending (Some f) g stops)
fine_after s c p f g stops here there =
    elim (cases_Bool (eqb f g)) [
      | inl e ↦ subst (IsFine s c p) (sym (cond-true (eqb f g) stops (at f [] ∷ stops) e)) (here (eqb-true f g e))
      | inr e ↦ subst (IsFine s c p) (sym (cond-false (eqb f g) stops (at f [] ∷ stops) e)) (there (eqb-false f g e))
    ]

-- none of these calls has boarded, nor a later one of their queues
pub record AreWaiting (s : Snapshot) (p : Progress) (js : List ℕ) : Type 0 where
  pub fresh : (i : ℕ) → is_among i js ≡ true → p.boarded i ≡ false
  pub first : (i : ℕ) → is_among i js ≡ true → NoneLater s p i

-- the car has to stop next at floor f, for all that it carries
pub record Waits (s : Snapshot) (c : ℕ) (p : Progress) (f : ℕ) (js : List ℕ) : Type 0 where
  pub reaches : Reaches s c p f
  pub all : AllGoTo s p f
  pub useful : (p.begun || is_idle (state_of s c)) ≡ true → any_below (rider_count s) (gets_off s p f) ≡ true
  pub fits : persons_where s p.carried ≤ (spec_of s c).capacity
  pub served : serves s.building c f ≡ true
  pub waiting : AreWaiting s p js

-- ---- a call boards

waiting_rest : (s : Snapshot) (p : Progress) (j : ℕ) (js : List ℕ) → AreWaiting s p (j ∷ js) → AreWaiting s p js
waiting_rest s p j js w = record {
  fresh = λ i h. w.fresh i (or_right (eqb j i) (is_among i js) h);
  first = λ i h. w.first i (or_right (eqb j i) (is_among i js) h);
}

waiting_same : (s : Snapshot) (c : ℕ) (p : Progress) (g : ℕ) (js : List ℕ) → AreWaiting s p js → AreWaiting s (make_stop s c p (at g [])) js
waiting_same s c p g js w = record {
  fresh = λ i h. boarded_same s c p g i ∙ w.fresh i h;
  first = λ i h k below on. w.first i h k below (sym (boarded_same s c p g k) ∙ on);
}

waiting_after : (s : Snapshot) (c j : ℕ) (js : List ℕ) (p : Progress) → AreServable s c (j ∷ js) → AreWaiting s p (j ∷ js)
    → AreWaiting s (make_stop s c p (at (call_of s j).origin (j ∷ []))) js
waiting_after s c j js p can w = record { fresh = fresh_of; first = first_of }
  where
    fresh_of : (i : ℕ) → is_among i js ≡ true → (make_stop s c p (at (call_of s j).origin (j ∷ []))).boarded i ≡ false
    fresh_of i h =
        boarded_more s c p (call_of s j).origin j can.0 i
        ∙ or_from (p.boarded i) (eqb j i) (w.fresh i (or_right (eqb j i) (is_among i js) h)) (ne_eqb j i (can.2 i h))

    first_of : (i : ℕ) → is_among i js ≡ true → NoneLater s (make_stop s c p (at (call_of s j).origin (j ∷ []))) i
    first_of i h k below on =
        elim (or_cases (p.boarded k) (eqb j k) (sym (boarded_more s c p (call_of s j).origin j can.0 k) ∙ on)) [
          | inl e ↦ w.first i (or_right (eqb j i) (is_among i js) h) k below e
          | inr e ↦ subst (λ (x : ℕ). is_later_in_queue (call_of s x) (call_of s i) ≡ false) (eqb-true j k e) (can.3 i h)
        ]

-- after a stop the way to another floor, where all go that are carried
reaches_all : (s : Snapshot) (c : ℕ) (q : Progress) (g : ℕ) → q.begun ≡ true → (q.floor ≡ g → ⊥) → AllGoTo s q g → Reaches s c q g
reaches_all s c q g begun apart all = record {
  first = λ e. absurd (both_ways q.begun e begun);
  apart = λ _ same. apart same;
  no_turn = and_right (has_leg s c q) (turns_with s q q.floor g) (no_turn-all s q q.floor g all);
}

-- the call boards where all others get off, and is then carried alone
waits_after : (s : Snapshot) (c j : ℕ) (js : List ℕ) (p : Progress) → IsAccepted s → AreServable s c (j ∷ js) → AreWaiting s p (j ∷ js)
    → AllGoTo s p (call_of s j).origin → Waits s c (make_stop s c p (at (call_of s j).origin (j ∷ []))) (call_of s j).destination js
waits_after s c j js p ok can w all = record {
  reaches = reaches_all s c (make_stop s c p (at (call_of s j).origin (j ∷ []))) (call_of s j).destination refl (ok.calls j can.0).travels all_go;
  all = all_go;
  useful = λ _. any_below-at (rider_count s) (gets_off s (make_stop s c p (at (call_of s j).origin (j ∷ []))) (call_of s j).destination) j riders
      (and_from ((make_stop s c p (at (call_of s j).origin (j ∷ []))).carried j) (eqb (destination_of s j) (call_of s j).destination)
      (alone j riders ∙ eq-eqb j j refl) (eq-eqb (destination_of s j) (call_of s j).destination (destination_of-call s j can.0)));
  fits = (let a = sum_below-same (rider_count s) (λ r. cond ((make_stop s c p (at (call_of s j).origin (j ∷ []))).carried r) (persons_of s r) 0)
      (λ r. cond (eqb j r) (persons_of s r) 0) (λ r b. ap (λ (x : Bool). cond x (persons_of s r) 0) (alone r b)) in
      let one = sum_where-one (rider_count s) (persons_of s) j riders in let e = persons_of-call s j can.0 in let le = persons_fit s c j can.1 in
      omega (arith, a, one, e, le));
  served = serves_destination s c j can.1;
  waiting = waiting_after s c j js p can w;
}
  where
    riders : j < rider_count s
    riders = let b = can.0 in omega arith

    alone : (r : ℕ) → r < rider_count s → (make_stop s c p (at (call_of s j).origin (j ∷ []))).carried r ≡ eqb j r
    alone r b = carried_alone s c p (call_of s j).origin j can.0 all r b

    all_go : AllGoTo s (make_stop s c p (at (call_of s j).origin (j ∷ []))) (call_of s j).destination
    all_go r b on =
        let same = eqb-true j r (sym (alone r b) ∙ on) in
        subst (λ (x : ℕ). destination_of s x ≡ (call_of s j).destination) same (destination_of-call s j can.0)

board_here : (s : Snapshot) (c j : ℕ) (js : List ℕ) (p : Progress) → AreServable s c (j ∷ js) → AreWaiting s p (j ∷ js) → Reaches s c p (call_of s j).origin
    → AllGoTo s p (call_of s j).origin → broken_at s c none_taken p (at (call_of s j).origin (j ∷ [])) ≡ None
board_here s c j js p can w to all =
    let here = or_left (eqb j j) (is_among j js) (eq-eqb j j refl) in
    board_clear s c j p can.0 can.1 (w.fresh j here) (w.first j here) to all

-- ---- all get off

empty_here : (s : Snapshot) (c : ℕ) (p : Progress) (f : ℕ) (js : List ℕ) → Waits s c p f js → broken_at s c none_taken p (at f []) ≡ None
empty_here s c p f js w = empty_clear s c p f w.reaches w.useful w.fits w.served

nobody_after : (s : Snapshot) (c : ℕ) (p : Progress) (f : ℕ) → AllGoTo s p f → (r : ℕ) → r < rider_count s → (make_stop s c p (at f [])).carried r ≡ false
nobody_after s c p f all r b = carried_less s c p f r ∙ none_stays s p f all r b

pub nobody_goes : (s : Snapshot) (p : Progress) (g : ℕ) → ((r : ℕ) → r < rider_count s → p.carried r ≡ false) → AllGoTo s p g
nobody_goes s p g none r b on = absurd (both_ways (p.carried r) (none r b) on)

end_fine : (s : Snapshot) (c : ℕ) (p : Progress) → (p.begun || is_idle (state_of s c)) ≡ true → ((r : ℕ) → r < rider_count s → p.carried r ≡ false)
    → broken_at_end s c p ≡ None
end_fine s c p may none =
    cond-false (not p.begun && not (is_idle (state_of s c))) (Some FirstStop) (cond (any_below (rider_count s) p.carried) (Some Delivery) None)
    (elim (or_cases p.begun (is_idle (state_of s c)) may) [
      | inl e ↦ and_left (not p.begun) _ (not_from_true _ e)
      | inr e ↦ and_right (not p.begun) _ (not_from_true _ e)
    ]) ∙ cond-false (any_below (rider_count s) p.carried) (Some Delivery) None (any_below-none (rider_count s) p.carried none)

-- ---- the calls, one after another

pub served_fine : (s : Snapshot) (c : ℕ) (p : Progress) (f : ℕ) (js : List ℕ) → IsAccepted s → AreServable s c js → Waits s c p f js
    → IsFine s c p (served s (Some f) js)
served_fine s c p f [] ok can w = (empty_here s c p f [] w, end_fine s c (make_stop s c p (at f [])) refl (nobody_after s c p f w.all))
served_fine s c p f (j ∷ js) ok can w =
    let g = (call_of s j).origin in
    let d = (call_of s j).destination in
    let p1 = make_stop s c p (at f []) in
    fine_after s c p f g (at g (j ∷ []) ∷ served s (Some d) js)
    (λ same. let to = subst (Reaches s c p) same w.reaches in let all = subst (AllGoTo s p) same w.all in (
      board_here s c j js p can w.waiting to all,
      served_fine s c (make_stop s c p (at g (j ∷ []))) d js ok can.4 (waits_after s c j js p ok can w.waiting all),
    ))
    (λ apart. let all = nobody_goes s p1 g (nobody_after s c p f w.all) in let now_waiting = waiting_same s c p f (j ∷ js) w.waiting in (
      empty_here s c p f (j ∷ js) w,
      (
        board_here s c j js p1 can now_waiting (reaches_all s c p1 g refl apart all) all,
        served_fine s c (make_stop s c p1 (at g (j ∷ []))) d js ok can.4 (waits_after s c j js p1 ok can now_waiting all),
      ),
    ))

-- ---- those aboard first

waiting_none : (s : Snapshot) (p : Progress) (js : List ℕ) → ((j : ℕ) → p.boarded j ≡ false) → AreWaiting s p js
waiting_none s p js fresh = record { fresh = λ i h. fresh i; first = λ i h k below on. absurd (both_ways (p.boarded k) (fresh k) on) }

opens_waits : (s : Snapshot) (c : ℕ) (p : Progress) (f : ℕ) (js : List ℕ) → Opens s c p f [] → Waits s c p f js
opens_waits s c p f js o = record {
  reaches = o.reaches;
  all = λ r b on. elim (or_cases (eqb f (destination_of s r)) false (o.goes r b on)) [
    | inl e ↦ sym (eqb-true f (destination_of s r) e)
    | inr e ↦ absurd (false≢true e)
  ];
  useful = o.useful;
  fits = o.fits;
  served = o.served;
  waiting = waiting_none s p js o.fresh;
}

-- who gets off at another floor still does after the stop
still_off : (s : Snapshot) (c : ℕ) (p : Progress) (f h : ℕ) → (f ≡ h → ⊥) → any_below (rider_count s) (gets_off s p h) ≡ true
    → any_below (rider_count s) (gets_off s (make_stop s c p (at f [])) h) ≡ true
still_off s c p f h apart off =
    let r = any_below-true (rider_count s) (gets_off s p h) off in
    let parts = and_parts (p.carried r.0) (eqb (destination_of s r.0) h) r.2 in
    let to = eqb-true (destination_of s r.0) h parts.1 in
    any_below-at (rider_count s) (gets_off s (make_stop s c p (at f [])) h) r.0 r.1
    (and_from _ (eqb (destination_of s r.0) h)
    (carried_less s c p f r.0 ∙ and_from (p.carried r.0) _ parts.0 (not_from_false _ (ne_eqb (destination_of s r.0) f (λ same. apart (sym same ∙ to)))))
    parts.1)

-- who is carried after the stop goes to a later floor
goes_later : (s : Snapshot) (c : ℕ) (p : Progress) (f : ℕ) (gs : List ℕ)
    → ((r : ℕ) → r < rider_count s → p.carried r ≡ true → is_among (destination_of s r) (f ∷ gs) ≡ true) → (r : ℕ) → r < rider_count s
    → (make_stop s c p (at f [])).carried r ≡ true → is_among (destination_of s r) gs ≡ true
goes_later s c p f gs goes r b on =
    let parts = and_parts (p.carried r) _ (sym (carried_less s c p f r) ∙ on) in
    elim (or_cases (eqb f (destination_of s r)) (is_among (destination_of s r) gs) (goes r b parts.0)) [
      | inl e ↦ absurd (both_ways (eqb (destination_of s r) f) (not-true _ parts.1) (eq-eqb (destination_of s r) f (sym (eqb-true f (destination_of s r) e))))
      | inr e ↦ e
    ]

pub ahead_of : (f g d : ℕ) (gs : List ℕ) → ((h : ℕ) → is_among h gs ≡ true → IsBeyond f g h) → is_among d (g ∷ gs) ≡ true → (f < g → g ≤ d) × (g < f → d ≤ g)
ahead_of f g d gs beyond h =
    elim (or_cases (eqb g d) (is_among d gs) h) [ inl e ↦ (let same = eqb-true g d e in (λ _. omega arith, λ _. omega arith)) | inr e ↦ beyond d e ]

opens_after : (s : Snapshot) (c : ℕ) (p : Progress) (f g : ℕ) (gs : List ℕ) → Opens s c p f (g ∷ gs) → Opens s c (make_stop s c p (at f [])) g gs
opens_after s c p f g gs o =
    let p1 = make_stop s c p (at f []) in
    let here = or_left (eqb g g) (is_among g gs) (eq-eqb g g refl) in
    let goes = goes_later s c p f (g ∷ gs) o.goes in
    record {
      reaches = record {
        first = λ e. absurd (true≢false e);
        apart = λ _ same. o.way.0 g here same;
        no_turn =
            and_right (has_leg s c p1) _ (no_turn s p1 f g (λ r b on. ahead_of f g (destination_of s r) gs o.way.1 (goes r b on)));
      };
      useful = λ _. still_off s c p f g (o.way.0 g here) (o.later_useful g here);
      fits = fits_after;
      served = o.later_served g here;
      goes = goes;
      way = o.way.2;
      later_served = λ h e. o.later_served h (or_right (eqb g h) (is_among h gs) e);
      later_useful = λ h e. let later = or_right (eqb g h) (is_among h gs) e in still_off s c p f h (o.way.0 h later) (o.later_useful h later);
      fresh = λ j. boarded_same s c p f j ∙ o.fresh j;
    }
  where
    fits_after : persons_where s (make_stop s c p (at f [])).carried ≤ (spec_of s c).capacity
    fits_after =
        let a = sum_below-same (rider_count s) (λ r. cond ((make_stop s c p (at f [])).carried r) (persons_of s r) 0)
        (λ r. cond (stays_on s p f r) (persons_of s r) 0) (λ r b. ap (λ (x : Bool). cond x (persons_of s r) 0) (carried_less s c p f r)) in
        let le = fewer_stay s p f in
        let fits = o.fits in
        omega (arith, a, le, fits)

pub opened_fine : (s : Snapshot) (c : ℕ) (p : Progress) (f : ℕ) (gs js : List ℕ) → IsAccepted s → AreServable s c js → Opens s c p f gs
    → IsFine s c p (opened s (Some f) gs js)
opened_fine s c p f [] js ok can o = served_fine s c p f js ok can (opens_waits s c p f js o)
opened_fine s c p f (g ∷ gs) js ok can o =
    let here = or_left (eqb g g) (is_among g gs) (eq-eqb g g refl) in
    fine_after s c p f g (opened s (Some g) gs js)
    (λ same. absurd (o.way.0 g here same))
    (λ apart. (empty_clear s c p f o.reaches o.useful o.fits o.served, opened_fine s c (make_stop s c p (at f [])) g gs js ok can (opens_after s c p f g gs o)))

pub idle_may : (b : Building) (c t : ℕ) (st : CarState) (g : ℕ) → is_idle st ≡ true → may_stop_first b c t st g ≡ true
idle_may b c t (Idle floor free) g h = refl
idle_may b c t (Coming floor arrives) g h = absurd (false≢true h)
idle_may b c t (Moving from up left) g h = absurd (false≢true h)

-- a car with nobody aboard that has not moved
rest_fine : (s : Snapshot) (c : ℕ) (js : List ℕ) → IsAccepted s → IsOpening s c [] → AreServable s c js → IsFine s c (start_of s c) (served s None js)
rest_fine s c [] ok opening can = end_fine s c (start_of s c) opening.0 opening.1
rest_fine s c (j ∷ js) ok opening can =
    let p = start_of s c in
    let g = (call_of s j).origin in
    let all = nobody_goes s p g opening.1 in
    let to : Reaches s c p g =
    record {
      first = λ _. idle_may s.building c s.moment (state_of s c) g opening.0;
      apart = λ e. absurd (false≢true e);
      no_turn =
          and_right (has_leg s c p) (turns_with s p p.floor g) (no_turn-all s p p.floor g all);
    } in
    let waiting = waiting_none s p (j ∷ js) (λ _. refl) in (
      board_here s c j js p can waiting to all,
      served_fine s c (make_stop s c p (at g (j ∷ []))) (call_of s j).destination js ok can.4 (waits_after s c j js p ok can waiting all),
    )

-- A car that makes its opening stops and then serves its calls has a feasible tour.
pub plain_fine : (s : Snapshot) (c : ℕ) (gs js : List ℕ) → IsAccepted s → IsOpening s c gs → AreServable s c js → IsFeasible s c (opened s None gs js)
plain_fine s c [] js ok opening can = fine_feasible s c (start_of s c) 1 (served s None js) (rest_fine s c js ok opening can)
plain_fine s c (g ∷ gs) js ok opening can =
    fine_feasible s c (start_of s c) 1 (opened s (Some g) gs js) (opened_fine s c (start_of s c) g gs js ok can opening)

-- ---- the calls that board

or_again : (a x y : Bool) → x ≡ y → ((a || false) || x) ≡ (a || y)
or_again true x y e = refl
or_again false x y e = e

boarded_after : (pending : Option ℕ) (g : ℕ) (stops : List Stop) (j : ℕ) → is_boarded_in (after_pending pending g stops) j ≡ is_boarded_in stops j
boarded_after None g stops j = refl
boarded_after (Some f) g stops j = either (eqb f g)
  where
    either : (b : Bool) → is_boarded_in (cond b stops (at f [] ∷ stops)) j ≡ is_boarded_in stops j
    either true = refl
    either false = refl

boarded_served : (s : Snapshot) (pending : Option ℕ) (js : List ℕ) (j : ℕ) → is_boarded_in (served s pending js) j ≡ is_among j js
boarded_served s None [] j = refl
boarded_served s (Some f) [] j = refl
boarded_served s pending (i ∷ js) j =
    boarded_after pending (call_of s i).origin (at (call_of s i).origin (i ∷ []) ∷ served s (Some (call_of s i).destination) js) j
    ∙ or_again (eqb i j) _ _ (boarded_served s (Some (call_of s i).destination) js j)

-- The plain tour boards its calls and no others.
pub boarded_opened : (s : Snapshot) (pending : Option ℕ) (gs js : List ℕ) (j : ℕ) → is_boarded_in (opened s pending gs js) j ≡ is_among j js
boarded_opened s pending [] js j = boarded_served s pending js j
boarded_opened s pending (g ∷ gs) js j = boarded_after pending g (opened s (Some g) gs js) j ∙ boarded_opened s (Some g) gs js j
