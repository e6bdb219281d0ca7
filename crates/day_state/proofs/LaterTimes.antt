-- Where a car is after the stops that it has reached by a moment: its times, its load, its floor.
use Rattle.std.proofs.Common.{◌≡◌, ℕ, zero, suc, ◌+◌, ◌-◌, ◌<◌, ◌≤◌, Bool, true, false, cond, not, ◌&&◌, ◌||◌, eqb, ltb, leb, List, [], ◌∷◌, drop, length, refl}
use Rattle.std.proofs.Common.{sym, ap, ◌∙◌, subst, inl, inr, arith, None}
use Rattle.std.proofs.Math.Nat.{mul-le-mul_right}
use Rattle.std.proofs.lemmas.Bool.{and_parts, or_cases, false≢true, ltb-true, ltb-false, leb-true, leb-false, eqb-true, eq-eqb, both_ways, not-true, not-false}
use Rattle.elevator_model.specs.declared.Stop.{Stop}
use Rattle.call_sets.specs.Counting.{any_below, sum_where, is_among}
use Rattle.elevator_model.specs.Snapshot.{Snapshot, IsAccepted, car_count, call_count, call_of, group_of, spec_of, serves, persons_aboard, is_possible}
use Rattle.elevator_model.specs.Snapshot.{is_pinned_elsewhere, can_take}
use Rattle.elevator_model.specs.Building.{car_of}
use Rattle.std.specs.List.{list_any}
use Rattle.call_sets.proofs.ListTests.{list_any-false}
use Rattle.elevator_model.specs.Tours.{Progress, rider_count, destination_of, persons_of, persons_where, is_aboard, boards_at, gets_off, stays_on, arrival}
use Rattle.elevator_model.specs.Tours.{make_stop, start_of, after_stops, breaks, broken_at, none_taken, rules_of_stop, is_call_for}
use Rattle.search_model.specs.Advancing.{done_from}
use Rattle.call_sets.proofs.BelowTests.{any_below-false}
use Rattle.call_sets.proofs.Sums.{sum_where-less, sum_where-none}
use Rattle.tour_rules.proofs.BoundedTests.{AllClear-from}
use Rattle.tour_rules.proofs.RiderSums.{is_aboard-call, is_aboard-group, persons_of-group, destination_of-call, destination_of-group, sum_riders}
use Rattle.tour_rules.proofs.Settled.{boards-call, IsKept-start}
use Rattle.tour_rules.proofs.Sound.{AllFine}

-- the persons aboard a car at its start
pub aboard-persons : (s : Snapshot) (c : ℕ) → persons_where s (is_aboard s c) ≡ persons_aboard s c
aboard-persons s c =
    let both = sum_riders s (is_aboard s c) (persons_of s) (λ _. false) (λ k. eqb (group_of s k).car c) (λ _. 0) (λ k. (group_of s k).persons)
    (λ j b. is_aboard-call s c j b) (λ j b h. absurd (both_ways (is_aboard s c j) (is_aboard-call s c j b) h)) (λ k b. is_aboard-group s c k b)
    (λ k b. persons_of-group s k) in
    let none = sum_where-none (call_count s) (λ _. false) (λ _. 0) (λ k b. refl) in
    omega (arith, both, none)

sum_where-either : (n : ℕ) (t u : ℕ → Bool) (f : ℕ → ℕ) → sum_where n (λ k. t k || u k) f ≤ sum_where n t f + sum_where n u f
sum_where-either zero t u f = omega arith
sum_where-either (suc n) t u f =
    let before = sum_where-either n t u f in
    let here = either (t n) (u n) (f n) in
    omega (arith, before, here)
  where
    either : (a b : Bool) (x : ℕ) → cond (a || b) x 0 ≤ cond a x 0 + cond b x 0
    either true b x = omega arith
    either false b x = omega arith

pub record IsTimelyAt (s : Snapshot) (c t : ℕ) (p : Progress) : Type 0 where
  pub leaves : p.begun ≡ true → p.leaves ≤ t + 100000000
  pub boarded : (r : ℕ) → p.carried r ≡ true → p.boarded_at r ≤ t + (spec_of s c).opening
  pub load : persons_where s p.carried ≤ (spec_of s c).capacity
  pub served : serves s.building c p.floor ≡ true
  -- the car serves the floor of everyone whom it carries
  pub bound : (r : ℕ) → p.carried r ≡ true → serves s.building c (destination_of s r) ≡ true
  -- who is carried after a stop does not go to its floor
  pub apart : p.begun ≡ true → (r : ℕ) → p.carried r ≡ true → destination_of s r ≡ p.floor → ⊥

-- a group of the car
pub aboard-group : (s : Snapshot) (c r : ℕ) → is_aboard s c r ≡ true → (k : ℕ) × (k < length s.aboard) × (call_count s + k ≡ r) × ((group_of s k).car ≡ c)
aboard-group s c r h =
    let both = and_parts (leb (call_count s) r && ltb r (rider_count s)) (eqb (group_of s (r - call_count s)).car c) h in
    let range = and_parts (leb (call_count s) r) (ltb r (rider_count s)) both.0 in
    let low = leb-true (call_count s) r range.0 in
    let high = ltb-true r (rider_count s) range.1 in
    (r - call_count s, omega (arith, low, high), omega (arith, low), eqb-true (group_of s (r - call_count s)).car c both.1)

pub timely-start : (s : Snapshot) (c t : ℕ) → IsAccepted s → c < car_count s → s.moment ≤ t → IsTimelyAt s c t (start_of s c)
timely-start s c t a below later = record {
  leaves = λ e. absurd (false≢true e);
  boarded = boarded_before_now;
  load = (let same = aboard-persons s c in let fits = (a.placed c below).capacity in omega (arith, same, fits));
  served = (a.placed c below).served;
  bound = λ r h. let g = aboard-group s c r h in
      subst (λ (x : ℕ). serves s.building c (destination_of s x) ≡ true) g.2
      (subst (λ (d : ℕ). serves s.building c d ≡ true) (sym (destination_of-group s g.0))
      (subst (λ (d : ℕ). serves s.building d (group_of s g.0).destination ≡ true) g.3 (a.groups g.0 g.1).served));
  apart = λ e. absurd (false≢true e);
}
  where
    boarded_before_now : (r : ℕ) → is_aboard s c r ≡ true → (start_of s c).boarded_at r ≤ t + (spec_of s c).opening
    boarded_before_now r h =
        let g = aboard-group s c r h in
        let soon = (a.groups g.0 g.1).boarded in
        let opening = ap (λ (d : ℕ). (spec_of s d).opening) g.3 in
        let same = subst (λ (x : ℕ). (start_of s c).boarded_at x ≡ (group_of s g.0).boarded) g.2 ((IsKept-start s c).groups g.0) in
        omega (arith, soon, opening, same, later)

-- at a stop that is reached by the moment
pub timely-stop : (s : Snapshot) (c t : ℕ) (p : Progress) (stop : Stop) → IsAccepted s → c < car_count s → IsTimelyAt s c t p → arrival s c p stop.floor ≤ t
    → broken_at s c none_taken p stop ≡ None → IsTimelyAt s c t (make_stop s c p stop)
timely-stop s c t p stop a below timely soon fine =
    let clear = AllClear-from (breaks s c none_taken p stop) rules_of_stop fine in
    let spec = a.building.cars c below in
    let fits = ltb-false (spec_of s c).capacity (persons_where s (stays_on s p stop.floor) + persons_where s (boards_at s stop)) clear.1.1.1.1.0 in
    let off_few = sum_where-less (rider_count s) (gets_off s p stop.floor) p.carried (persons_of s)
    (λ r h. (and_parts (p.carried r) (eqb (destination_of s r) stop.floor) h).0) in
    let load = timely.load in
    let off = mul-le-mul_right (persons_where s (gets_off s p stop.floor)) spec.alighting in
    let on = mul-le-mul_right (persons_where s (boards_at s stop)) spec.boarding in
    record {
      leaves = λ _. omega (arith, soon, fits, off_few, load, off, on, spec.opening, spec.closing, spec.capacity_high);
      boarded = λ r h. moments (boards_at s stop r) (arrival s c p stop.floor + (spec_of s c).opening) (p.boarded_at r) (p.carried r)
          (not (eqb (destination_of s r) stop.floor)) (omega (arith, soon)) (timely.boarded r) h;
      load = (let joined = sum_where-either (rider_count s) (stays_on s p stop.floor) (boards_at s stop) (persons_of s) in omega (arith, joined, fits));
      served = not-false (serves s.building c stop.floor) clear.1.1.1.1.1.1.1.0;
      bound = λ r h. elim (or_cases (stays_on s p stop.floor r) (boards_at s stop r) h) [
        | inl e ↦ timely.bound r (and_parts (p.carried r) (not (eqb (destination_of s r) stop.floor)) e).0
        | inr e ↦ bound_for r e clear.1.1.1.1.1.1.0
      ];
      apart = λ _ r h same. elim (or_cases (stays_on s p stop.floor r) (boards_at s stop r) h) [
        | inl e ↦ both_ways (eqb (destination_of s r) stop.floor)
            (not-true (eqb (destination_of s r) stop.floor) (and_parts (p.carried r) (not (eqb (destination_of s r) stop.floor)) e).1)
            (eq-eqb (destination_of s r) stop.floor same)
        | inr e ↦ goes_on r e clear.1.1.1.1.1.1.1.1.1.0 same
      ];
    }
  where
    moments : (b : Bool) (opened before : ℕ) (k d : Bool) → opened ≤ t + (spec_of s c).opening → (k ≡ true → before ≤ t + (spec_of s c).opening)
        → ((k && d) || b) ≡ true → cond b opened before ≤ t + (spec_of s c).opening
    moments true opened before k d now old h = now
    moments false opened before true d now old h = old refl
    moments false opened before false d now old h = absurd (false≢true h)

    bound_for : (r : ℕ) → boards_at s stop r ≡ true → list_any (λ j. not (is_call_for s c j)) stop.boards ≡ false
        → serves s.building c (destination_of s r) ≡ true
    bound_for r e none =
        let low = boards-call s stop r e in
        let for_car = not-false (is_call_for s c r)
        (list_any-false (λ j. not (is_call_for s c j)) stop.boards r none (and_parts (ltb r (call_count s)) (is_among r stop.boards) e).1) in
        let possible = (and_parts (ltb r (call_count s)) (is_possible s c (call_of s r)) for_car).1 in
        let takes = (and_parts (not (is_pinned_elsewhere (call_of s r).pin c)) (can_take s.building c (call_of s r)) possible).1 in
        let goes = (and_parts (leb (call_of s r).persons (car_of s.building c).capacity && serves s.building c (call_of s r).origin)
        (serves s.building c (call_of s r).destination) takes).1 in
        subst (λ (d : ℕ). serves s.building c d ≡ true) (sym (destination_of-call s r low)) goes

    at_origin : (b o : Bool) → b ≡ true → (b && not o) ≡ false → o ≡ true
    at_origin true true e h = refl
    at_origin true false e h = absurd (false≢true (sym h))
    at_origin false o e h = absurd (false≢true e)

    goes_on : (r : ℕ) → boards_at s stop r ≡ true → any_below (call_count s) (λ j. boards_at s stop j && not (eqb (call_of s j).origin stop.floor)) ≡ false
        → destination_of s r ≡ stop.floor → ⊥
    goes_on r e none same =
        let low = boards-call s stop r e in
        let here = any_below-false (call_count s) (λ j. boards_at s stop j && not (eqb (call_of s j).origin stop.floor)) r none low in
        let origin = eqb-true (call_of s r).origin stop.floor (at_origin (boards_at s stop r) (eqb (call_of s r).origin stop.floor) e here) in
        (a.calls r low).travels (origin ∙ sym (sym (destination_of-call s r low) ∙ same))

-- after all stops that are reached by the moment
pub timely-done : (s : Snapshot) (c t : ℕ) (p : Progress) (stops : List Stop) → IsAccepted s → c < car_count s → IsTimelyAt s c t p
    → AllFine s c p (done_from s c t p stops) → IsTimelyAt s c t (after_stops s c p (done_from s c t p stops))
timely-done s c t p [] a below timely fine = timely
timely-done s c t p (stop ∷ stops) a below timely fine =
    cut (leb (arrival s c p stop.floor) t) refl fine (λ next rest. timely-done s c t (make_stop s c p stop) stops a below next rest)
  where
    cut : (b : Bool) → leb (arrival s c p stop.floor) t ≡ b → AllFine s c p (cond b (stop ∷ done_from s c t (make_stop s c p stop) stops) [])
        → (IsTimelyAt s c t (make_stop s c p stop) → AllFine s c (make_stop s c p stop) (done_from s c t (make_stop s c p stop) stops)
        → IsTimelyAt s c t (after_stops s c (make_stop s c p stop) (done_from s c t (make_stop s c p stop) stops)))
        → IsTimelyAt s c t (after_stops s c p (cond b (stop ∷ done_from s c t (make_stop s c p stop) stops) []))
    cut false e parts later = timely
    cut true e parts later = later (timely-stop s c t p stop a below timely (leb-true (arrival s c p stop.floor) t e) parts.0) parts.1

-- the first stop that is left is reached later
pub next-late : (s : Snapshot) (c t : ℕ) (p : Progress) (stops : List Stop) (stop : Stop) (rest : List Stop)
    → drop (length (done_from s c t p stops)) stops ≡ stop ∷ rest → t < arrival s c (after_stops s c p (done_from s c t p stops)) stop.floor
next-late s c t p [] stop rest e = absurd (cc)
next-late s c t p (first ∷ stops) stop rest e =
    cut (leb (arrival s c p first.floor) t) refl e (λ h. next-late s c t (make_stop s c p first) stops stop rest h)
  where
    cut : (b : Bool) → leb (arrival s c p first.floor) t ≡ b
        → drop (length (cond b (first ∷ done_from s c t (make_stop s c p first) stops) [])) (first ∷ stops) ≡ stop ∷ rest
        → (drop (length (done_from s c t (make_stop s c p first) stops)) stops ≡ stop ∷ rest
        → t < arrival s c (after_stops s c (make_stop s c p first) (done_from s c t (make_stop s c p first) stops)) stop.floor)
        → t < arrival s c (after_stops s c p (cond b (first ∷ done_from s c t (make_stop s c p first) stops) [])) stop.floor
    cut true is h later = later h
    cut false is h later = let same : first ≡ stop = cc in subst (λ (x : Stop). t < arrival s c p x.floor) same (leb-false (arrival s c p first.floor) t is)
