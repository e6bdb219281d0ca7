-- Which calls have boarded a car at a moment: of the stops left, only calls that wait board.
use Rattle.std.proofs.Common.{◌≡◌, ℕ, ◌+◌, ◌<◌, Bool, true, false, cond, ◌||◌, ltb, leb, List, [], ◌∷◌, ◌++◌, drop, length, refl, sym, ap, ◌∙◌, subst, inl, inr}
use Rattle.std.proofs.Common.{arith, None}
use Rattle.std.proofs.lemmas.Bool.{and_parts, or_cases, or_left, or_right, false≢true, both_ways, not_from_false, false_from_ne_true, cases_order, cases_Bool}
use Rattle.elevator_model.specs.declared.Stop.{Stop}
use Rattle.call_sets.specs.Counting.{any_below, is_among}
use Rattle.elevator_model.specs.Snapshot.{Snapshot, call_count, car_count}
use Rattle.elevator_model.specs.Tours.{Progress, boards_at, arrival, make_stop, start_of, after_stops, breaks, broken_at, none_taken, rules_of_stop}
use Rattle.elevator_model.specs.Tours.{first_broken_from}
use Rattle.elevator_model.specs.Plans.{IsFeasiblePlan, is_boarded_in, tour_of, times_served}
use Rattle.search_model.specs.Advancing.{World, done_from, done_by, left_at, progress_at, is_waiting}
use Rattle.call_sets.proofs.BelowTests.{any_below-none}
use Rattle.call_sets.proofs.ListTests.{list_any-append}
use Rattle.call_sets.proofs.Sums.{sum_where-step}
use Rattle.tour_rules.proofs.BoundedTests.{AllClear-from}
use Rattle.tour_rules.proofs.Settled.{boards_once}
use Rattle.tour_rules.proofs.Sound.{AllFine}
use Rattle.tour_rules.proofs.Reached.{broken_or-none}
use Rattle.tour_rules.proofs.Taken.{stop_calls, tour_apart}
use Rattle.tour_cost.proofs.Short.{AllFine-feasible}
use Rattle.day_state.proofs.LaterTours.{StopsWait}

-- ---- the stops done and those left

-- the stops done are a front of the stops
pub done-left : (s : Snapshot) (c t : ℕ) (p : Progress) (stops : List Stop) → done_from s c t p stops ++ drop (length (done_from s c t p stops)) stops ≡ stops
done-left s c t p [] = refl
done-left s c t p (stop ∷ stops) = cut (leb (arrival s c p stop.floor) t) (done-left s c t (make_stop s c p stop) stops)
  where
    cut : (b : Bool) → done_from s c t (make_stop s c p stop) stops ++ drop (length (done_from s c t (make_stop s c p stop) stops)) stops ≡ stops
        → cond b (stop ∷ done_from s c t (make_stop s c p stop) stops) []
        ++ drop (length (cond b (stop ∷ done_from s c t (make_stop s c p stop) stops) [])) (stop ∷ stops) ≡ stop ∷ stops
    cut true e = ap (λ (xs : List Stop). stop ∷ xs) e
    cut false e = refl

-- both parts of stops that break no rule break none
pub fine-parts : (s : Snapshot) (c : ℕ) (p : Progress) (front back : List Stop) → AllFine s c p (front ++ back) → AllFine s c p front
    × AllFine s c (after_stops s c p front) back
fine-parts s c p [] back fine = (tt, fine)
fine-parts s c p (stop ∷ front) back fine =
    let rest = fine-parts s c (make_stop s c p stop) front back fine.1 in
    ((fine.0, rest.0), rest.1)

-- and the first broken rule of a tour is looked for behind its front
pub broken-after : (s : Snapshot) (c : ℕ) (p : Progress) (k : ℕ) (front back : List Stop) → first_broken_from s c none_taken p k (front ++ back) ≡ None
    → (m : ℕ) × (first_broken_from s c none_taken (after_stops s c p front) m back ≡ None)
broken-after s c p k [] back h = (k, h)
broken-after s c p k (stop ∷ front) back h =
    let parts = broken_or-none (broken_at s c none_taken p stop) k (first_broken_from s c none_taken (make_stop s c p stop) (k + 1) (front ++ back)) h in
    broken-after s c (make_stop s c p stop) (k + 1) front back parts.1

-- ---- who boarded

-- who boarded keeps so
pub boarded-on : (s : Snapshot) (c : ℕ) (p : Progress) (stops : List Stop) (j : ℕ) → p.boarded j ≡ true → (after_stops s c p stops).boarded j ≡ true
boarded-on s c p [] j h = h
boarded-on s c p (stop ∷ stops) j h = boarded-on s c (make_stop s c p stop) stops j (or_left (p.boarded j) (boards_at s stop j) h)

-- who boarded did so at one of the stops
pub boarded-in : (s : Snapshot) (c : ℕ) (p : Progress) (stops : List Stop) (j : ℕ) → (after_stops s c p stops).boarded j ≡ true → p.boarded j ≡ false
    → is_boarded_in stops j ≡ true
boarded-in s c p [] j h none = absurd (both_ways (p.boarded j) none h)
boarded-in s c p (stop ∷ stops) j h none =
    elim (cases_Bool (boards_at s stop j)) [
      | inl e ↦ or_left (is_among j stop.boards) (is_boarded_in stops j) (and_parts (ltb j (call_count s)) (is_among j stop.boards) e).1
      | inr e ↦ or_right (is_among j stop.boards) (is_boarded_in stops j)
          (boarded-in s c (make_stop s c p stop) stops j h (neither (p.boarded j) (boards_at s stop j) none e))
    ]
  where
    neither : (a b : Bool) → a ≡ false → b ≡ false → (a || b) ≡ false
    neither false false e g = refl
    neither true b e g = absurd (false≢true (sym e))
    neither false true e g = absurd (false≢true (sym g))

-- who boarded does not board again at stops that break no rule
pub boarded-once : (s : Snapshot) (c : ℕ) (p : Progress) (stops : List Stop) → AllFine s c p stops → (j : ℕ) → p.boarded j ≡ true
    → is_boarded_in stops j ≡ true → ⊥
boarded-once s c p [] fine j h again = false≢true again
boarded-once s c p (stop ∷ stops) fine j h again =
    elim (or_cases (is_among j stop.boards) (is_boarded_in stops j) again) [
      | inl e ↦ both_ways (p.boarded j)
          (boards_once s c p stop (AllClear-from (breaks s c none_taken p stop) rules_of_stop fine.0) j (stop_calls s c none_taken p stop fine.0 j e)) h
      | inr e ↦ boarded-once s c (make_stop s c p stop) stops fine.1 j (or_left (p.boarded j) (boards_at s stop j) h) e
    ]

-- ---- the cars of a feasible plan

-- no call boards in the tours of two cars
two_tours : (plan : List (List Stop)) (j c d : ℕ) → times_served plan j ≡ 1 → c < d → d < length plan → is_boarded_in (tour_of plan c) j ≡ true
    → is_boarded_in (tour_of plan d) j ≡ true → ⊥
two_tours plan j c d once low high in_c in_d =
    let first = sum_where-step d c (λ i. is_boarded_in (tour_of plan i) j) (λ i. is_boarded_in (tour_of plan i) j) (λ _. 1) low in_c (λ i h. h) in
    let second = sum_where-step (length plan) d (λ i. is_boarded_in (tour_of plan i) j) (λ i. is_boarded_in (tour_of plan i) j) (λ _. 1) high in_d (λ i h. h) in
    omega (arith, once, first, second)

pub one-tour : (s : Snapshot) (plan : List (List Stop)) (j c d : ℕ) → IsFeasiblePlan s plan → j < call_count s → c < car_count s → d < car_count s
    → is_boarded_in (tour_of plan c) j ≡ true → is_boarded_in (tour_of plan d) j ≡ true → c ≡ d
one-tour s plan j c d f below bc bd in_c in_d =
    let cars = f.cars in
    let once = f.serves_once j below in
    elim (cases_order c d) [
      | inl e ↦ e
      | inr either ↦ elim either [
        | inl lt ↦ absurd (two_tours plan j c d once lt (omega (arith, cars, bd)) in_c in_d)
        | inr gt ↦ absurd (two_tours plan j d c once gt (omega (arith, cars, bc)) in_d in_c)
      ]
    ]

-- what is known of a car of a world with a feasible plan
pub record IsPlanned (w : World) (t c : ℕ) : Type 0 where
  pub done : AllFine w.snapshot c (start_of w.snapshot c) (done_by w t c)
  pub left : AllFine w.snapshot c (progress_at w t c) (left_at w t c)
  pub ends : (m : ℕ) × (first_broken_from w.snapshot c none_taken (progress_at w t c) m (left_at w t c) ≡ None)
  pub tour : done_by w t c ++ left_at w t c ≡ tour_of w.plan c

pub planned : (w : World) (t c : ℕ) → IsFeasiblePlan w.snapshot w.plan → c < car_count w.snapshot → IsPlanned w t c
planned w t c f below =
    let s = w.snapshot in
    let tour = tour_of w.plan c in
    let joined = done-left s c t (start_of s c) tour in
    let feasible = f.tours c below in
    let fine = subst (AllFine s c (start_of s c)) (sym joined) (AllFine-feasible s c (start_of s c) 1 tour feasible) in
    let parts = fine-parts s c (start_of s c) (done_by w t c) (left_at w t c) fine in
    record {
      done = parts.0;
      left = parts.1;
      ends = broken-after s c (start_of s c) 1 (done_by w t c) (left_at w t c)
          (subst (λ (xs : List Stop). first_broken_from s c none_taken (start_of s c) 1 xs ≡ None) (sym joined) feasible);
      tour = joined;
    }

-- who boarded the car does so in its tour
pub boarded-tour : (w : World) (t c j : ℕ) → IsFeasiblePlan w.snapshot w.plan → c < car_count w.snapshot → (progress_at w t c).boarded j ≡ true
    → is_boarded_in (tour_of w.plan c) j ≡ true
boarded-tour w t c j f below h =
    let p = planned w t c f below in
    let in_done = boarded-in w.snapshot c (start_of w.snapshot c) (done_by w t c) j h refl in
    ap (λ (xs : List Stop). is_boarded_in xs j) (sym p.tour) ∙ list_any-append (λ (stop : Stop). is_among j stop.boards) (done_by w t c) (left_at w t c)
    ∙ or_left (is_boarded_in (done_by w t c) j) (is_boarded_in (left_at w t c) j) in_done

pub left-tour : (w : World) (t c j : ℕ) → IsFeasiblePlan w.snapshot w.plan → c < car_count w.snapshot → is_boarded_in (left_at w t c) j ≡ true
    → is_boarded_in (tour_of w.plan c) j ≡ true
left-tour w t c j f below h =
    let p = planned w t c f below in
    ap (λ (xs : List Stop). is_boarded_in xs j) (sym p.tour) ∙ list_any-append (λ (stop : Stop). is_among j stop.boards) (done_by w t c) (left_at w t c)
    ∙ or_right (is_boarded_in (done_by w t c) j) (is_boarded_in (left_at w t c) j) h

pub tour-call : (w : World) (c j : ℕ) → IsFeasiblePlan w.snapshot w.plan → c < car_count w.snapshot → is_boarded_in (tour_of w.plan c) j ≡ true
    → j < call_count w.snapshot
tour-call w c j f below h = (tour_apart w.snapshot c none_taken (start_of w.snapshot c) 1 (tour_of w.plan c) (f.tours c below) j h).0

-- a call boards one car at most
pub one-car : (w : World) (t c d j : ℕ) → IsFeasiblePlan w.snapshot w.plan → c < car_count w.snapshot → d < car_count w.snapshot
    → (progress_at w t c).boarded j ≡ true → (progress_at w t d).boarded j ≡ true → c ≡ d
one-car w t c d j f bc bd in_c in_d =
    let tour_c = boarded-tour w t c j f bc in_c in
    one-tour w.snapshot w.plan j c d f (tour-call w c j f bc tour_c) bc bd tour_c (boarded-tour w t d j f bd in_d)

-- Of the stops left only calls that wait board.
pub left-wait : (w : World) (t c : ℕ) → IsFeasiblePlan w.snapshot w.plan → c < car_count w.snapshot → StopsWait w.snapshot (is_waiting w t) (left_at w t c)
left-wait w t c f below = record { each = λ j h. (tour-call w c j f below (left-tour w t c j f below h), waits j h) }
  where
    waits : (j : ℕ) → is_boarded_in (left_at w t c) j ≡ true → is_waiting w t j ≡ true
    waits j h =
        let tour_c = left-tour w t c j f below h in
        not_from_false (any_below (car_count w.snapshot) (λ d. (progress_at w t d).boarded j))
        (any_below-none (car_count w.snapshot) (λ d. (progress_at w t d).boarded j) (λ d bd. false_from_ne_true ((progress_at w t d).boarded j) (λ k.
        let same = one-tour w.snapshot w.plan j c d f (tour-call w c j f below tour_c) below bd tour_c (boarded-tour w t d j f bd k) in
        boarded-once w.snapshot c (progress_at w t c) (left_at w t c) (planned w t c f below).left j
        (subst (λ (x : ℕ). (progress_at w t x).boarded j ≡ true) (sym same) k) h)))
