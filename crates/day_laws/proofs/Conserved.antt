-- Whoever is in a world is there later or was let off: by a moment, and by the end of the plan.
use Rattle.std.proofs.Common.{◌==◌, ◌≡◌, ℕ, zero, suc, ◌+◌, ◌-◌, ◌*◌, ◌<◌, ◌≤◌, Bool, true, false, cond, not, ◌&&◌, ◌||◌, eqb, ltb, leb, List, [], ◌∷◌, ◌++◌}
use Rattle.std.proofs.Common.{map, length, All, refl, sym, ap, ◌∙◌, subst, inl, inr, arith, Option, Some, None}
use Rattle.std.specs.List.{count_by, filter, flat_map, range_with_len}
use Rattle.std.proofs.lemmas.Bool.{and_parts, and_from, or_cases, or_right, false≢true, lt-ltb, ltb-true, eqb-true, eq-eqb, both_ways, false_from_ne_true}
use Rattle.std.proofs.lemmas.Bool.{cases_lt}
use Rattle.std.proofs.lemmas.List.Elements.{All-weaker, All-head, All-tail}
use Rattle.elevator_model.specs.declared.Aboard.{Aboard}
use Rattle.elevator_model.specs.declared.Call.{Call}
use Rattle.elevator_model.specs.declared.Rule.{Rule}
use Rattle.elevator_model.specs.declared.Rule.TheVariants.{FirstStop, Delivery}
use Rattle.elevator_model.specs.declared.Stop.{Stop}
use Rattle.call_sets.specs.Counting.{any_below, is_among, sum_below}
use Rattle.elevator_model.specs.Snapshot.{Snapshot, IsAccepted, car_count, call_count, call_of, group_of, state_of, is_idle, no_call, no_group}
use Rattle.elevator_model.specs.Tours.{Progress, rider_count, is_aboard, boards_at, start_of, make_stop, after_stops, broken_at, broken_at_end, none_taken}
use Rattle.elevator_model.specs.Tours.{first_broken_from}
use Rattle.elevator_model.specs.Plans.{IsFeasiblePlan, is_boarded_in, tour_of}
use Rattle.search_model.specs.Advancing.{World, advanced, done_by, progress_at, id_of_rider, riders_at_start, riders_after_all, rides_on, for_cars, is_waiting}
use Rattle.search_model.specs.Advancing.{events_by, events_of_car, last_events}
use Rattle.call_sets.proofs.BelowTests.{any_below-false, any_below-true}
use Rattle.call_sets.proofs.Sums.{sum_below-same, sum_below-zero, sum_below-add, sum_below-split, sum_below-list, sum_where-one}
use Rattle.tour_rules.proofs.Reached.{broken_or-none}
use Rattle.tour_rules.proofs.Rising.{among_chosen, chosen_has, count-cons, count-none, count-append, count-chosen}
use Rattle.tour_rules.proofs.RiderSums.{is_call, is_no_call, group_index, is_aboard-call, is_aboard-group}
use Rattle.tour_rules.proofs.Sound.{AllFine}
use Rattle.tour_cost.proofs.Short.{AllFine-feasible}
use Rattle.day_state.proofs.Boarding.{planned, boarded-on, boarded-in, one-car}
use Rattle.day_state.proofs.LaterNumbers.{seat-riders, old-inside}
use Rattle.day_state.proofs.LaterRiders.{Seat, IsSeat, seats, all-seats, later-aboard, all-among, waiting, staying_groups, new_riders, old_riders}
use Rattle.day_state.proofs.ListedRiders.{AreListed, listed-start, listed-after, lists-start}
use Rattle.day_state.proofs.Renaming.{same_test}
use Rattle.day_laws.proofs.Counts.{count_of-append, count_of-map, count_of-same, count_of-ranges, count-numbers}
use Rattle.day_laws.proofs.RiderCounts.{delivers, has_id, let_off, taken_on, delivered-along, riders-kept, count-test, count-some, boarded-along}

-- how often a call or a group of the snapshot has this id
abbrev pub places : Snapshot → ℕ → ℕ
places s x = count_by (λ (call : Call). call.id == x) s.calls + count_by (λ (group : Aboard). group.id == x) s.aboard

-- ---- riders by their ids

pub id-of-call : (s : Snapshot) (j : ℕ) → j < call_count s → id_of_rider s j ≡ (call_of s j).id
id-of-call s j below = ap (λ (b : Bool). cond b (call_of s j).id (group_of s (j - call_count s)).id) (is_call s j below)

pub id-of-group : (s : Snapshot) (k : ℕ) → id_of_rider s (call_count s + k) ≡ (group_of s k).id
id-of-group s k = ap (λ (b : Bool). cond b (call_of s (call_count s + k)).id (group_of s (call_count s + k - call_count s)).id) (is_no_call s k)
    ∙ ap (λ (i : ℕ). (group_of s i).id) (group_index s k)

numbered : (s : Snapshot) (x : ℕ) → sum_below (rider_count s) (λ r. cond (has_id s x r) 1 0) ≡ places s x
numbered s x =
    let one : ℕ → ℕ = λ i. cond (eqb i x) 1 0 in
    let split = sum_below-split (call_count s) (length s.aboard) (λ r. cond (has_id s x r) 1 0) in
    let calls = sum_below-same (call_count s) (λ r. cond (has_id s x r) 1 0) (λ j. one (call_of s j).id) (λ j b. ap one (id-of-call s j b))
    ∙ sum_below-list (λ (call : Call). one call.id) s.calls no_call in
    let groups = sum_below-same (length s.aboard) (λ k. cond (has_id s x (call_count s + k)) 1 0) (λ k. one (group_of s k).id)
    (λ k b. ap one (id-of-group s k)) ∙ sum_below-list (λ (group : Aboard). one group.id) s.aboard no_group in
    omega (arith, split, calls, groups)

-- a list that has each rider once has each id as often as the snapshot
once-each : (s : Snapshot) (x : ℕ) (xs : List ℕ) → ((r : ℕ) → r < rider_count s → count_by (λ y. y == r) xs ≡ 1)
    → ((r : ℕ) → rider_count s ≤ r → count_by (λ y. y == r) xs ≡ 0) → count_by (has_id s x) xs ≡ places s x
once-each s x xs once outside =
    count-numbers (has_id s x) (rider_count s) xs (all-among (λ r. r < rider_count s) xs (λ r h. elim (cases_lt r (rider_count s)) [
      | inl low ↦ low
      | inr high ↦ (let some = count-some r xs h in let none = outside r high in absurd (omega (arith, some, none)))
    ])) ∙ sum_below-same (rider_count s) (λ r. count_by (λ y. y == r) xs * cond (has_id s x r) 1 0) (λ r. cond (has_id s x r) 1 0)
    (λ r b. ap (λ (m : ℕ). m * cond (has_id s x r) 1 0) (once r b) ∙ omega arith) ∙ numbered s x

-- ---- along the stops of each car

module _ (s : Snapshot) (stops : ℕ → List Stop) (fine : (c : ℕ) → c < car_count s → AllFine s c (start_of s c) (stops c)) where
  abbrev end_of : ℕ → Progress
  end_of c = after_stops s c (start_of s c) (stops c)

  abbrev riding : ℕ → List ℕ
  riding c = riders_after_all s (riders_at_start s c) (stops c)

  abbrev off : ℕ → List ℕ
  off c = let_off s (riders_at_start s c) (stops c)

  pub listed-end : (c : ℕ) → c < car_count s → AreListed s c (end_of c) (riding c)
  listed-end c below = listed-after s c (start_of s c) (riders_at_start s c) (stops c) (fine c below) (listed-start s c)

  pub riding-is : (c r : ℕ) → c < car_count s → count_by (λ y. y == r) (riding c) ≡ cond ((end_of c).carried r) 1 0
  riding-is c r below =
      let lists = (listed-end c below).lists in
      count-test r (riding c) (lists.once r) ∙ ap {B = ℕ} (λ (b : Bool). cond b 1 0) (lists.among r)

  start-is : (c r : ℕ) → count_by (λ y. y == r) (riders_at_start s c) ≡ cond (is_aboard s c r) 1 0
  start-is c r =
      let lists = lists-start s c in
      count-test r (riders_at_start s c) (lists.once r) ∙ ap {B = ℕ} (λ (b : Bool). cond b 1 0) (lists.among r)

  pub on-is : (c r : ℕ) → c < car_count s → count_by (λ y. y == r) (taken_on s (stops c)) ≡ cond ((end_of c).boarded r) 1 0
  on-is c r below = let e = boarded-along s c (start_of s c) (stops c) r (fine c below) in omega (arith, e)

  -- of all cars together
  pub all-kept : (r : ℕ)
      → sum_below (car_count s) (λ c. count_by (λ y. y == r) (riding c)) + sum_below (car_count s) (λ c. count_by (λ y. y == r) (off c))
      ≡ sum_below (car_count s) (λ c. cond (is_aboard s c r) 1 0) + sum_below (car_count s) (λ c. cond ((end_of c).boarded r) 1 0)
  all-kept r =
      let before = sum_below-add (car_count s) (λ c. count_by (λ y. y == r) (riding c)) (λ c. count_by (λ y. y == r) (off c)) in
      let after = sum_below-add (car_count s) (λ c. cond (is_aboard s c r) 1 0) (λ c. cond ((end_of c).boarded r) 1 0) in
      let each = sum_below-same (car_count s) (λ c. count_by (λ y. y == r) (riding c) + count_by (λ y. y == r) (off c))
      (λ c. cond (is_aboard s c r) 1 0 + cond ((end_of c).boarded r) 1 0)
      (λ c b. (let kept = riders-kept s (riders_at_start s c) (stops c) r in let start = start-is c r in let on = on-is c r b in
      omega (arith, kept, start, on))) in
      omega (arith, before, after, each)

  no-call-boarded : (c r : ℕ) → c < car_count s → call_count s ≤ r → (end_of c).boarded r ≡ false
  no-call-boarded c r below high = false_from_ne_true ((end_of c).boarded r) (λ h. let low = (listed-end c below).kept.calls r h in omega (arith, low, high))

  -- no call is aboard at the start
  call-aboard : (r : ℕ) → r < call_count s → sum_below (car_count s) (λ c. cond (is_aboard s c r) 1 0) ≡ 0
  call-aboard r low = sum_below-same (car_count s) (λ c. cond (is_aboard s c r) 1 0) (λ c. 0)
      (λ c b. ap {B = ℕ} (λ (x : Bool). cond x 1 0) (is_aboard-call s c r low)) ∙ sum_below-zero (car_count s)

  -- and no group boards
  pub group-boards : (r : ℕ) → call_count s ≤ r → sum_below (car_count s) (λ c. cond ((end_of c).boarded r) 1 0) ≡ 0
  group-boards r high =
      sum_below-same (car_count s) (λ c. cond ((end_of c).boarded r) 1 0) (λ c. 0) (λ c b. ap {B = ℕ} (λ (x : Bool). cond x 1 0) (no-call-boarded c r b high))
      ∙ sum_below-zero (car_count s)

  -- a group is aboard its car
  group-aboard : (k : ℕ) → k < length s.aboard → (group_of s k).car < car_count s
      → sum_below (car_count s) (λ c. cond (is_aboard s c (call_count s + k)) 1 0) ≡ 1
  group-aboard k below car =
      sum_below-same (car_count s) (λ c. cond (is_aboard s c (call_count s + k)) 1 0) (λ c. cond (eqb (group_of s k).car c) 1 0)
      (λ c b. ap {B = ℕ} (λ (x : Bool). cond x 1 0) (is_aboard-group s c k below)) ∙ sum_where-one (car_count s) (λ _. 1) (group_of s k).car car

  -- who is no rider is nowhere
  outside-aboard : (r : ℕ) → rider_count s ≤ r → sum_below (car_count s) (λ c. cond (is_aboard s c r) 1 0) ≡ 0
  outside-aboard r high =
      sum_below-same (car_count s) (λ c. cond (is_aboard s c r) 1 0) (λ c. 0)
      (λ c b. ap {B = ℕ} (λ (x : Bool). cond x 1 0)
      (false_from_ne_true (is_aboard s c r)
      (λ h. let parts = and_parts (leb (call_count s) r && ltb r (rider_count s)) (eqb (group_of s (r - call_count s)).car c) h in
      let low = ltb-true r (rider_count s) (and_parts (leb (call_count s) r) (ltb r (rider_count s)) parts.0).1 in omega (arith, low, high))))
      ∙ sum_below-zero (car_count s)

  -- a group rides in its own car alone
  pub group-riding : (k : ℕ) → k < length s.aboard → (group_of s k).car < car_count s
      → sum_below (car_count s) (λ c. count_by (λ y. y == call_count s + k) (riding c)) ≡ cond ((end_of (group_of s k).car).carried (call_count s + k)) 1 0
  group-riding k below car =
      let r = call_count s + k in
      let own = (group_of s k).car in
      sum_below-same (car_count s) (λ c. count_by (λ y. y == r) (riding c)) (λ c. cond (eqb own c) (cond ((end_of c).carried r) 1 0) 0)
      (λ c b. riding-is c r b ∙ only c b (eqb own c) refl ((end_of c).carried r) refl)
      ∙ sum_where-one (car_count s) (λ c. cond ((end_of c).carried r) 1 0) own car
    where
      only : (c : ℕ) → c < car_count s → (e : Bool) → eqb (group_of s k).car c ≡ e → (b : Bool) → (end_of c).carried (call_count s + k) ≡ b
          → cond {A = ℕ} b 1 0 ≡ cond e (cond b 1 0) 0
      only c low true same b h = refl
      only c low false same false h = refl
      only c low false same true h =
          let r = call_count s + k in
          absurd (elim (or_cases ((end_of c).boarded r) (is_aboard s c r) ((listed-end c low).kept.carried r h)) [
            | inl e ↦ both_ways ((end_of c).boarded r) (no-call-boarded c r low (omega arith)) e
            | inr e ↦ both_ways (eqb (group_of s k).car c) same (sym (is_aboard-group s c k below) ∙ e)
          ])

  pub call-kept : (r : ℕ) → r < call_count s
      → sum_below (car_count s) (λ c. count_by (λ y. y == r) (riding c)) + sum_below (car_count s) (λ c. count_by (λ y. y == r) (off c))
      ≡ sum_below (car_count s) (λ c. cond ((end_of c).boarded r) 1 0)
  call-kept r low = let all = all-kept r in let none = call-aboard r low in omega (arith, all, none)

  pub group-kept : (k : ℕ) → k < length s.aboard → (group_of s k).car < car_count s
      → sum_below (car_count s) (λ c. count_by (λ y. y == call_count s + k) (riding c)) + sum_below (car_count s)
      (λ c. count_by (λ y. y == call_count s + k) (off c)) ≡ 1
  group-kept k below car =
      let all = all-kept (call_count s + k) in
      let one = group-aboard k below car in
      let none = group-boards (call_count s + k) (omega arith) in
      omega (arith, all, one, none)

  pub outside-kept : (r : ℕ) → rider_count s ≤ r → sum_below (car_count s) (λ c. count_by (λ y. y == r) (off c)) ≡ 0
  outside-kept r high =
      let all = all-kept r in
      let none = outside-aboard r high in
      let boards = group-boards r (omega (arith, high)) in
      omega (arith, all, none, boards)

-- what the events deliver, as the riders let off
delivered : (s : Snapshot) (stops : ℕ → List Stop) (x : ℕ)
    → count_by (delivers x) (for_cars s (λ c. events_of_car s c (stops c)))
    ≡ count_by (has_id s x) (for_cars s (λ c. let_off s (riders_at_start s c) (stops c)))
delivered s stops x =
    count_of-ranges (delivers x) (λ c. events_of_car s c (stops c)) (car_count s)
    ∙ sum_below-same (car_count s) (λ c. count_by (delivers x) (events_of_car s c (stops c)))
    (λ c. count_by (has_id s x) (let_off s (riders_at_start s c) (stops c))) (λ c b. delivered-along s c (riders_at_start s c) (start_of s c) (stops c) x)
    ∙ sym (count_of-ranges (has_id s x) (λ c. let_off s (riders_at_start s c) (stops c)) (car_count s))

-- a number at or above a bound, from there
from-there : (n r : ℕ) → n ≤ r → (k : ℕ) × (n + k ≡ r)
from-there n r high = (r - n, omega arith)

-- ---- by a moment

module _ (w : World) (t : ℕ) (a : IsAccepted w.snapshot) (f : IsFeasiblePlan w.snapshot w.plan) where
  pub done-fine : (c : ℕ) → c < car_count w.snapshot → AllFine w.snapshot c (start_of w.snapshot c) (done_by w t c)
  done-fine c below = (planned w t c f below).done

  abbrev gone : List ℕ
  gone = for_cars w.snapshot (λ c. let_off w.snapshot (riders_at_start w.snapshot c) (done_by w t c))

  gone-is : (r : ℕ) → count_by (λ y. y == r) gone
      ≡ sum_below (car_count w.snapshot) (λ c. count_by (λ y. y == r) (let_off w.snapshot (riders_at_start w.snapshot c) (done_by w t c)))
  gone-is r = count_of-ranges (λ y. y == r) (λ c. let_off w.snapshot (riders_at_start w.snapshot c) (done_by w t c)) (car_count w.snapshot)

  -- the later riders, by parts
  parts : (r : ℕ) → count_by (λ y. y == r) (old_riders w t)
      ≡ count_by (λ y. y == r) (waiting w t) +
      (count_by (λ y. y == r) (map (λ k. call_count w.snapshot + k) (staying_groups w t)) + sum_below (car_count w.snapshot)
      (λ c. count_by (λ y. y == r) (new_riders w t c)))
  parts r =
      count-append r (waiting w t) (map (λ (x : Seat). x.rider) (seats w t))
      ∙ ap (λ (n : ℕ). count_by (λ y. y == r) (waiting w t) + n)
      (ap (count_by (λ y. y == r)) (seat-riders w t)
      ∙ count-append r (map (λ k. call_count w.snapshot + k) (staying_groups w t)) (flat_map (new_riders w t) (range_with_len 0 (car_count w.snapshot)))
      ∙ ap (λ (n : ℕ). count_by (λ y. y == r) (map (λ k. call_count w.snapshot + k) (staying_groups w t)) + n)
      (count_of-ranges (λ y. y == r) (new_riders w t) (car_count w.snapshot)))

  pub waiting-is : (r : ℕ) → r < call_count w.snapshot → count_by (λ y. y == r) (waiting w t) ≡ cond (is_waiting w t r) 1 0
  waiting-is r low =
      count-test r (waiting w t) (count-chosen (is_waiting w t) 0 (call_count w.snapshot) r)
      ∙ ap {B = ℕ} (λ (b : Bool). cond b 1 0)
      (same_test (is_among r (waiting w t)) (is_waiting w t r) (λ h. (among_chosen (is_waiting w t) 0 (call_count w.snapshot) r h).2)
      (λ h. chosen_has (is_waiting w t) 0 (call_count w.snapshot) r (omega arith) (omega (arith, low)) h))

  pub waiting-none : (r : ℕ) → call_count w.snapshot ≤ r → count_by (λ y. y == r) (waiting w t) ≡ 0
  waiting-none r high =
      count-none r (waiting w t)
      (false_from_ne_true (is_among r (waiting w t))
      (λ h. let found = (among_chosen (is_waiting w t) 0 (call_count w.snapshot) r h).1 in omega (arith, found, high)))

  staying-is : (k : ℕ) → k < length w.snapshot.aboard → count_by (λ y. y == k) (staying_groups w t) ≡ cond (rides_on w t k) 1 0
  staying-is k low =
      count-test k (staying_groups w t) (count-chosen (rides_on w t) 0 (length w.snapshot.aboard) k)
      ∙ ap {B = ℕ} (λ (b : Bool). cond b 1 0)
      (same_test (is_among k (staying_groups w t)) (rides_on w t k) (λ h. (among_chosen (rides_on w t) 0 (length w.snapshot.aboard) k h).2)
      (λ h. chosen_has (rides_on w t) 0 (length w.snapshot.aboard) k (omega arith) (omega (arith, low)) h))

  -- the call waits, or boarded one car
  pub waits-or-boarded : (n : ℕ) (b : ℕ → Bool) → ((c d : ℕ) → c < d → d < n → b c ≡ true → b d ≡ true → ⊥)
      → cond (not (any_below n b)) 1 0 + sum_below n (λ c. cond (b c) 1 0) ≡ 1
  waits-or-boarded zero b apart = refl
  waits-or-boarded (suc n) b apart = last (any_below n b) (b n) refl refl (waits-or-boarded n b (λ c d low high. apart c d low (omega arith)))
    where
      last : (e h : Bool) → any_below n b ≡ e → b n ≡ h → cond (not e) 1 0 + sum_below n (λ c. cond (b c) 1 0) ≡ 1
          → cond (not (e || h)) 1 0 + (sum_below n (λ c. cond (b c) 1 0) + cond h 1 0) ≡ 1
      last true true any here before = let found = any_below-true n b any in absurd (apart found.0 n found.1 (omega arith) found.2 here)
      last true false any here before = omega (arith, before)
      last false true any here before = omega (arith, before)
      last false false any here before = omega (arith, before)

  count-passed : (u : ℕ → Bool) (xs : List ℕ) (r : ℕ) → u r ≡ true → count_by (λ y. y == r) (filter u xs) ≡ count_by (λ y. y == r) xs
  count-passed u [] r h = refl
  count-passed u (x ∷ xs) r h = cut (u x) refl (count-passed u xs r h)
    where
      cut : (b : Bool) → u x ≡ b → count_by (λ y. y == r) (filter u xs) ≡ count_by (λ y. y == r) xs
          → count_by (λ y. y == r) (cond b (x ∷ filter u xs) (filter u xs)) ≡ count_by (λ y. y == r) (x ∷ xs)
      cut true e rest =
          let first = count-cons r x (filter u xs) in
          let all = count-cons r x xs in
          omega (arith, first, all, rest)
      cut false e rest =
          let all = count-cons r x xs in
          let apart = ap {B = ℕ} (λ (b : Bool). cond b 1 0)
          (false_from_ne_true (eqb x r) (λ k. both_ways (u x) e (subst (λ (y : ℕ). u y ≡ true) (sym (eqb-true x r k)) h))) in
          omega (arith, all, rest, apart)

  count-stopped : (u : ℕ → Bool) (xs : List ℕ) (r : ℕ) → u r ≡ false → count_by (λ y. y == r) (filter u xs) ≡ 0
  count-stopped u [] r h = refl
  count-stopped u (x ∷ xs) r h = cut (u x) refl (count-stopped u xs r h)
    where
      cut : (b : Bool) → u x ≡ b → count_by (λ y. y == r) (filter u xs) ≡ 0 → count_by (λ y. y == r) (cond b (x ∷ filter u xs) (filter u xs)) ≡ 0
      cut true e rest =
          let first = count-cons r x (filter u xs) in
          let apart = ap {B = ℕ} (λ (b : Bool). cond b 1 0)
          (false_from_ne_true (eqb x r) (λ k. both_ways (u r) h (subst (λ (y : ℕ). u y ≡ true) (eqb-true x r k) e))) in
          omega (arith, first, rest, apart)
      cut false e rest = rest

  moved-low : (n r : ℕ) (xs : List ℕ) → r < n → count_by (λ y. y == r) (map (λ k. n + k) xs) ≡ 0
  moved-low n r xs low = count_of-map (λ y. y == r) (λ k. n + k) xs
      ∙ count_of-same (λ k. (n + k) == r) (λ _. false) xs
      (all-among (λ k. ((n + k) == r) ≡ false) xs
      (λ k h. false_from_ne_true (eqb (n + k) r) (λ e. let same = eqb-true (n + k) r e in omega (arith, same, low)))) ∙ nothing xs
    where
      nothing : (ys : List ℕ) → count_by (λ _. false) ys ≡ 0
      nothing [] = refl
      nothing (y ∷ ys) = nothing ys

  moved-high : (n k : ℕ) (xs : List ℕ) → count_by (λ y. y == n + k) (map (λ i. n + i) xs) ≡ count_by (λ y. y == k) xs
  moved-high n k xs = count_of-map (λ y. y == n + k) (λ i. n + i) xs
      ∙ count_of-same (λ i. (n + i) == (n + k)) (λ i. i == k) xs
      (all-among (λ i. ((n + i) == (n + k)) ≡ (i == k)) xs
      (λ i h. same_test (eqb (n + i) (n + k)) (eqb i k) (λ e. let same = eqb-true (n + i) (n + k) e in eq-eqb i k (omega (arith, same)))
      (λ e. eq-eqb (n + i) (n + k) (ap (λ (y : ℕ). n + y) (eqb-true i k e)))))

  call-once : (r : ℕ) → r < call_count w.snapshot → count_by (λ y. y == r) (old_riders w t) + count_by (λ y. y == r) gone ≡ 1
  call-once r low =
      let s = w.snapshot in
      let all = parts r in
      let here = waiting-is r low in
      let groups = moved-low (call_count s) r (staying_groups w t) low in
      let news = sum_below-same (car_count s) (λ c. count_by (λ y. y == r) (new_riders w t c))
      (λ c. count_by (λ y. y == r) (riders_after_all s (riders_at_start s c) (done_by w t c)))
      (λ c b. count-passed (λ y. ltb y (call_count s)) (riders_after_all s (riders_at_start s c) (done_by w t c)) r (lt-ltb r (call_count s) low)) in
      let kept = call-kept s (done_by w t) done-fine r low in
      let off = gone-is r in
      let one = waits-or-boarded (car_count s) (λ c. (progress_at w t c).boarded r)
      (λ c d order high in_c in_d. let bc : c < car_count s = omega (arith, order, high) in let same = one-car w t c d r f bc high in_c in_d in
      omega (arith, same, order)) in
      omega (arith, all, here, groups, news, kept, off, one)

  group-once : (k : ℕ) → k < length w.snapshot.aboard
      → count_by (λ y. y == call_count w.snapshot + k) (old_riders w t) + count_by (λ y. y == call_count w.snapshot + k) gone ≡ 1
  group-once k low =
      let s = w.snapshot in
      let r = call_count s + k in
      let car = (a.groups k low).car in
      let all = parts r in
      let none = waiting-none r (omega arith) in
      let groups = moved-high (call_count s) k (staying_groups w t) ∙ staying-is k low in
      let news = sum_below-same (car_count s) (λ c. count_by (λ y. y == r) (new_riders w t c)) (λ c. 0)
      (λ c b. count-stopped (λ y. ltb y (call_count s)) (riders_after_all s (riders_at_start s c) (done_by w t c)) r (is_no_call s k))
      ∙ sum_below-zero (car_count s) in
      let riding = group-riding s (done_by w t) done-fine k low car in
      let kept = group-kept s (done_by w t) done-fine k low car in
      let off = gone-is r in
      omega (arith, all, none, groups, news, riding, kept, off)

  pub rider-once : (r : ℕ) → r < rider_count w.snapshot → count_by (λ y. y == r) (old_riders w t) + count_by (λ y. y == r) gone ≡ 1
  rider-once r below =
      elim (cases_lt r (call_count w.snapshot)) [
        | inl low ↦ call-once r low
        | inr high ↦ (let at = from-there (call_count w.snapshot) r high in let e = at.1 in
            subst (λ (y : ℕ). count_by (λ x. x == y) (old_riders w t) + count_by (λ x. x == y) gone ≡ 1) at.1 (group-once at.0 (omega (arith, e, below))))
      ]

  old-outside : (r : ℕ) → rider_count w.snapshot ≤ r → count_by (λ y. y == r) (old_riders w t) ≡ 0
  old-outside r high =
      count-none r (old_riders w t)
      (false_from_ne_true (is_among r (old_riders w t)) (λ h. let low = all-below (old_riders w t) (old-inside w t a f) r h in omega (arith, low, high)))
    where
      all-below : (xs : List ℕ) → All (λ x. x < rider_count w.snapshot) xs → (r : ℕ) → is_among r xs ≡ true → r < rider_count w.snapshot
      all-below [] all r h = absurd (false≢true h)
      all-below (x ∷ xs) all r h =
          elim (or_cases (eqb x r) (is_among r xs) h) [
            | inl e ↦ subst (λ (y : ℕ). y < rider_count w.snapshot) (eqb-true x r e) (All-head (λ y. y < rider_count w.snapshot) x xs all)
            | inr e ↦ all-below xs (All-tail (λ y. y < rider_count w.snapshot) x xs all) r e
          ]

  places-later : (x : ℕ) → places (advanced w t).snapshot x ≡ count_by (has_id w.snapshot x) (old_riders w t)
  places-later x =
      let s = w.snapshot in
      let open_calls = count_of-map (λ (call : Call). call.id == x) (call_of s) (waiting w t)
      ∙ count_of-same (λ j. (call_of s j).id == x) (has_id s x) (waiting w t)
      (all-among (λ j. ((call_of s j).id == x) ≡ has_id s x j) (waiting w t)
      (λ j h. let found = (among_chosen (is_waiting w t) 0 (call_count s) j h).1 in
      ap (λ (i : ℕ). eqb i x) (sym (id-of-call s j (omega (arith, found)))))) in
      let seated = ap (count_by (λ (group : Aboard). group.id == x)) (later-aboard w t)
      ∙ count_of-map (λ (group : Aboard). group.id == x) (λ (y : Seat). y.group) (seats w t)
      ∙ count_of-same (λ (y : Seat). y.group.id == x) (λ (y : Seat). has_id s x y.rider) (seats w t)
      (All-weaker (IsSeat w t) (λ (y : Seat). (y.group.id == x) ≡ has_id s x y.rider) (λ y is. ap (λ (i : ℕ). eqb i x) is.id) (seats w t)
      (all-seats w t a f)) ∙ sym (count_of-map (has_id s x) (λ (y : Seat). y.rider) (seats w t)) in
      let both = count_of-append (has_id s x) (waiting w t) (map (λ (y : Seat). y.rider) (seats w t)) in
      omega (arith, open_calls, seated, both)

  -- Each id is there as often as before, but for deliveries.
  pub conserved : (x : ℕ) → places (advanced w t).snapshot x + count_by (delivers x) (events_by w t) ≡ places w.snapshot x
  conserved x =
      let s = w.snapshot in
      let there = places-later x in
      let off = delivered s (done_by w t) x in
      let both = count_of-append (has_id s x) (old_riders w t) gone in
      let all = once-each s x (old_riders w t ++ gone) (λ r b. count-append r (old_riders w t) gone ∙ rider-once r b)
      (λ r high. (let sum = count-append r (old_riders w t) gone in let first = old-outside r high in let second = gone-is r in
      let none = outside-kept s (done_by w t) done-fine r high in omega (arith, sum, first, second, none))) in
      omega (arith, there, off, both, all)

-- ---- by the end of the plan

-- a call that boards along the stops has boarded
in-boarded : (s : Snapshot) (c : ℕ) (p : Progress) (stops : List Stop) (j : ℕ) → j < call_count s → is_boarded_in stops j ≡ true
    → (after_stops s c p stops).boarded j ≡ true
in-boarded s c p [] j low h = absurd (false≢true h)
in-boarded s c p (stop ∷ stops) j low h =
    elim (or_cases (is_among j stop.boards) (is_boarded_in stops j) h) [
      | inl e ↦ boarded-on s c (make_stop s c p stop) stops j
          (or_right (p.boarded j) (boards_at s stop j) (and_from (ltb j (call_count s)) (is_among j stop.boards) (lt-ltb j (call_count s) low) e))
      | inr e ↦ in-boarded s c (make_stop s c p stop) stops j low e
    ]

end-clear : (b d : Bool) → cond {A = Option Rule} b (Some FirstStop) (cond d (Some Delivery) None) ≡ None → d ≡ false
end-clear true d h = absurd cc
end-clear false true h = absurd cc
end-clear false false h = refl

module _ (w : World) (a : IsAccepted w.snapshot) (f : IsFeasiblePlan w.snapshot w.plan) where
  abbrev tours : ℕ → List Stop
  tours = tour_of w.plan

  pub tour-fine : (c : ℕ) → c < car_count w.snapshot → AllFine w.snapshot c (start_of w.snapshot c) (tours c)
  tour-fine c below = AllFine-feasible w.snapshot c (start_of w.snapshot c) 1 (tours c) (f.tours c below)

  -- at the end of a feasible tour nobody is carried
  none-carried : (c r : ℕ) → c < car_count w.snapshot → r < rider_count w.snapshot
      → (after_stops w.snapshot c (start_of w.snapshot c) (tours c)).carried r ≡ false
  none-carried c r below low = ends w.snapshot c (start_of w.snapshot c) 1 (tours c) (f.tours c below) r low
    where
      ends : (s : Snapshot) (c : ℕ) (p : Progress) (k : ℕ) (stops : List Stop) → first_broken_from s c none_taken p k stops ≡ None → (r : ℕ)
          → r < rider_count s → (after_stops s c p stops).carried r ≡ false
      ends s c p k [] h r low =
          any_below-false (rider_count s) p.carried r
          (end-clear (not p.begun && not (is_idle (state_of s c))) (any_below (rider_count s) p.carried) (broken_or-none (broken_at_end s c p) k None h).0)
          low
      ends s c p k (stop ∷ stops) h r low =
          ends s c (make_stop s c p stop) (k + 1) stops
          (broken_or-none (broken_at s c none_taken p stop) k (first_broken_from s c none_taken (make_stop s c p stop) (k + 1) stops) h).1 r low

  boarded-is : (c r : ℕ) → c < car_count w.snapshot → r < call_count w.snapshot
      → (after_stops w.snapshot c (start_of w.snapshot c) (tours c)).boarded r ≡ is_boarded_in (tours c) r
  boarded-is c r below low =
      same_test ((after_stops w.snapshot c (start_of w.snapshot c) (tours c)).boarded r) (is_boarded_in (tours c) r)
      (λ h. boarded-in w.snapshot c (start_of w.snapshot c) (tours c) r h refl) (λ h. in-boarded w.snapshot c (start_of w.snapshot c) (tours c) r low h)

  abbrev all_gone : List ℕ
  all_gone = for_cars w.snapshot (λ c. let_off w.snapshot (riders_at_start w.snapshot c) (tours c))

  all_gone-is : (r : ℕ)
      → count_by (λ y. y == r) all_gone
      ≡ sum_below (car_count w.snapshot) (λ c. count_by (λ y. y == r) (let_off w.snapshot (riders_at_start w.snapshot c) (tours c)))
  all_gone-is r = count_of-ranges (λ y. y == r) (λ c. let_off w.snapshot (riders_at_start w.snapshot c) (tours c)) (car_count w.snapshot)

  none-riding : (r : ℕ) → r < rider_count w.snapshot
      → sum_below (car_count w.snapshot) (λ c. count_by (λ y. y == r) (riders_after_all w.snapshot (riders_at_start w.snapshot c) (tours c))) ≡ 0
  none-riding r low = sum_below-same (car_count w.snapshot)
      (λ c. count_by (λ y. y == r) (riders_after_all w.snapshot (riders_at_start w.snapshot c) (tours c))) (λ c. 0)
      (λ c b. riding-is w.snapshot tours tour-fine c r b ∙ ap {B = ℕ} (λ (x : Bool). cond x 1 0) (none-carried c r b low))
      ∙ sum_below-zero (car_count w.snapshot)

  -- each call has boarded one car
  pub board-once : (r : ℕ) → r < call_count w.snapshot
      → sum_below (car_count w.snapshot) (λ c. cond ((after_stops w.snapshot c (start_of w.snapshot c) (tours c)).boarded r) 1 0) ≡ 1
  board-once r low =
      sum_below-same (car_count w.snapshot) (λ c. cond ((after_stops w.snapshot c (start_of w.snapshot c) (tours c)).boarded r) 1 0)
      (λ c. cond (is_boarded_in (tours c) r) 1 0) (λ c b. ap {B = ℕ} (λ (x : Bool). cond x 1 0) (boarded-is c r b low))
      ∙ ap (λ (n : ℕ). sum_below n (λ c. cond (is_boarded_in (tours c) r) 1 0)) (sym f.cars) ∙ f.serves_once r low

  gone-once : (r : ℕ) → r < rider_count w.snapshot → count_by (λ y. y == r) all_gone ≡ 1
  gone-once r below =
      elim (cases_lt r (call_count w.snapshot)) [
        | inl low ↦ (let kept = call-kept w.snapshot tours tour-fine r low in let none = none-riding r below in let off = all_gone-is r in
            let one = board-once r low in omega (arith, kept, none, off, one))
        | inr high ↦ (let at = from-there (call_count w.snapshot) r high in let e = at.1 in
            subst (λ (y : ℕ). count_by (λ x. x == y) all_gone ≡ 1) at.1 (of_group at.0 (omega (arith, e, below))))
      ]
    where
      of_group : (k : ℕ) → k < length w.snapshot.aboard → count_by (λ x. x == call_count w.snapshot + k) all_gone ≡ 1
      of_group k low =
          let kept = group-kept w.snapshot tours tour-fine k low (a.groups k low).car in
          let none = none-riding (call_count w.snapshot + k) (omega (arith, low)) in
          let off = all_gone-is (call_count w.snapshot + k) in
          omega (arith, kept, none, off)

  -- Each id is delivered as often as it is there.
  pub all-delivered : (x : ℕ) → count_by (delivers x) (last_events w) ≡ places w.snapshot x
  all-delivered x = delivered w.snapshot tours x
      ∙ once-each w.snapshot x all_gone gone-once (λ r high. all_gone-is r ∙ outside-kept w.snapshot tours tour-fine r high)
