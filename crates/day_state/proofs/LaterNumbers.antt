-- The riders of the world at a later moment have new numbers: each has one, and its own.
use Rattle.std.proofs.Common.{◌==◌, ◌≡◌, ℕ, zero, suc, ◌+◌, ◌-◌, ◌<◌, ◌≤◌, Bool, true, false, cond, ◌&&◌, ◌||◌, eqb, ltb, leb, List, [], ◌∷◌, ◌++◌, map, length}
use Rattle.std.proofs.Common.{get_or, All, refl, sym, ap, ◌∙◌, subst, inl, inr, arith, length-append}
use Rattle.std.proofs.lemmas.List.Elements.{All-append, All-map, All-weaker}
use Rattle.std.proofs.lemmas.List.Concat.{flat_map-cons}
use Rattle.std.proofs.lemmas.Simd.{map-map}
use Rattle.std.proofs.lemmas.List.{length-map}
use Rattle.std.specs.List.{count_by, range_with_len, flat_map}
use Rattle.std.proofs.lemmas.Bool.{and_parts, and_from, or_cases, or_left, or_right, false≢true, lt-ltb, ltb-true, leb-true, eqb-true, eq-eqb, cases_Bool}
use Rattle.std.proofs.lemmas.Bool.{both_ways, false_from_ne_true, cases_lt}
use Rattle.std.proofs.lemmas.List.{map-append}
use Rattle.elevator_model.specs.declared.Aboard.{Aboard}
use Rattle.elevator_model.specs.declared.Call.{Call}
use Rattle.call_sets.specs.Counting.{is_among, sum_below}
use Rattle.elevator_model.specs.Snapshot.{IsAccepted, car_count, call_count, call_of, group_of}
use Rattle.elevator_model.specs.Tours.{rider_count, destination_of, persons_of, persons_where, is_aboard, start_of}
use Rattle.elevator_model.specs.Plans.{IsFeasiblePlan}
use Rattle.search_model.specs.Advancing.{World, advanced, done_by, left_at, progress_at, riders_at_start, riders_after_all, rides_on, is_waiting, index_at}
use Rattle.call_sets.proofs.Sums.{sum_below-le, sum_below-same, sum_below-zero, sum_below-list}
use Rattle.call_sets.proofs.ListTests.{list_any-append}
use Rattle.tour_rules.proofs.Rising.{among_chosen, chosen_has, count-cons, count-none, count-append, count-chosen}
use Rattle.tour_rules.proofs.RiderSums.{destination_of-call, destination_of-group, persons_of-call, persons_of-group, is_aboard-call, is_aboard-group}
use Rattle.day_state.proofs.Boarding.{left-wait}
use Rattle.day_state.proofs.LaterTours.{StopsWait}
use Rattle.day_state.proofs.LaterRiders.{Seat, no_seat, staying_seat, new_seat, new_riders, new_seats, staying_groups, seats, waiting, old_riders, old_of}
use Rattle.day_state.proofs.LaterRiders.{map-ranges, all-among, later-calls, later-groups, later-call, later-group, old-call, old-group, IsSeat, listed}
use Rattle.day_state.proofs.LaterRiders.{all-seats, seat-at, one-carries, waiting-off}
use Rattle.day_state.proofs.ListedRiders.{among-filter, count-filter}
use Rattle.day_state.proofs.Numbering.{at-passing, rank-passing, sum-once, count-ranges, one-at-most}
use Rattle.day_state.proofs.Renaming.{Renames, HasSame, same_test}

-- ---- each once

map-same : (xs : List ℕ) → map (λ r. r) xs ≡ xs
map-same [] = refl
map-same (x ∷ xs) = ap (λ (ys : List ℕ). x ∷ ys) (map-same xs)

-- the riders of the seats: groups, and then calls, car by car
pub seat-riders : (w : World) (t : ℕ)
    → map (λ (x : Seat). x.rider) (seats w t) ≡ map (λ k. call_count w.snapshot + k) (staying_groups w t)
    ++ flat_map (new_riders w t) (range_with_len 0 (car_count w.snapshot))
seat-riders w t =
    map-append (λ (x : Seat). x.rider) (map (staying_seat w.snapshot) (staying_groups w t)) (new_seats w t)
    ∙ ap (λ (xs : List ℕ). xs ++ map (λ (x : Seat). x.rider) (new_seats w t))
    (map-map (λ (x : Seat). x.rider) (staying_seat w.snapshot) (staying_groups w t))
    ∙ ap (λ (xs : List ℕ). map (λ k. call_count w.snapshot + k) (staying_groups w t) ++ xs)
    (map-ranges (λ (x : Seat). x.rider) (λ c. map (new_seat w t c) (new_riders w t c)) 0 (car_count w.snapshot) ∙ ranges 0 (car_count w.snapshot))
  where
    ranges : (a n : ℕ) → flat_map (λ c. map (λ (x : Seat). x.rider) (map (new_seat w t c) (new_riders w t c))) (range_with_len a n)
        ≡ flat_map (new_riders w t) (range_with_len a n)
    ranges a zero = refl
    ranges a (suc n) =
        flat_map-cons (λ c. map (λ (x : Seat). x.rider) (map (new_seat w t c) (new_riders w t c))) a (range_with_len (a + 1) n)
        ∙ ap (λ (xs : List ℕ). xs ++ flat_map (λ c. map (λ (x : Seat). x.rider) (map (new_seat w t c) (new_riders w t c))) (range_with_len (a + 1) n))
        (map-map (λ (x : Seat). x.rider) (new_seat w t a) (new_riders w t a) ∙ map-same (new_riders w t a))
        ∙ ap (λ (xs : List ℕ). new_riders w t a ++ xs) (ranges (a + 1) n) ∙ sym (flat_map-cons (new_riders w t) a (range_with_len (a + 1) n))

-- a number moved up by n
count-low : (n r : ℕ) (xs : List ℕ) → r < n → count_by (λ x. x == r) (map (λ k. n + k) xs) ≡ 0
count-low n r [] low = refl
count-low n r (x ∷ xs) low =
    let first = count-cons r (n + x) (map (λ k. n + k) xs) in
    let rest = count-low n r xs low in
    let apart = ap {B = ℕ} (λ (b : Bool). cond b 1 0) (false_from_ne_true (eqb (n + x) r) (λ h. let e = eqb-true (n + x) r h in omega arith)) in
    omega (arith, first, rest, apart)

count-high : (n r : ℕ) (xs : List ℕ) → n ≤ r → count_by (λ x. x == r) (map (λ k. n + k) xs) ≡ count_by (λ x. x == r - n) xs
count-high n r [] high = refl
count-high n r (x ∷ xs) high =
    let first = count-cons r (n + x) (map (λ k. n + k) xs) in
    let all = count-cons (r - n) x xs in
    let rest = count-high n r xs high in
    let same = ap {B = ℕ} (λ (b : Bool). cond b 1 0)
    (same_test (eqb (n + x) r) (eqb x (r - n)) (λ h. let e = eqb-true (n + x) r h in eq-eqb x (r - n) (omega arith))
    (λ h. let e = eqb-true x (r - n) h in eq-eqb (n + x) r (omega arith))) in
    omega (arith, first, all, rest, same)

-- a list that has a number has it somewhere
count-among : (r : ℕ) (xs : List ℕ) → 1 ≤ count_by (λ x. x == r) xs → is_among r xs ≡ true
count-among r xs some = elim (cases_Bool (is_among r xs)) [ inl e ↦ e | inr e ↦ (let none = count-none r xs e in absurd (omega (arith, none, some))) ]

-- the car that carries a new rider
new-carried : (w : World) (t c r : ℕ) → IsFeasiblePlan w.snapshot w.plan → c < car_count w.snapshot → is_among r (new_riders w t c) ≡ true
    → ((progress_at w t c).carried r ≡ true) × (r < call_count w.snapshot)
new-carried w t c r f below among =
    let s = w.snapshot in
    let riders = riders_after_all s (riders_at_start s c) (done_by w t c) in
    let parts = and_parts (is_among r riders) (ltb r (call_count s)) (sym (among-filter (λ x. ltb x (call_count s)) riders r) ∙ among) in
    (sym ((listed w t c f below).lists.among r) ∙ parts.0, ltb-true r (call_count s) parts.1)

count-new : (w : World) (t r : ℕ) → IsFeasiblePlan w.snapshot w.plan → sum_below (car_count w.snapshot) (λ c. count_by (λ x. x == r) (new_riders w t c)) ≤ 1
count-new w t r f =
    one-at-most (car_count w.snapshot) (λ c. count_by (λ x. x == r) (new_riders w t c)) (λ c b. each c b)
    (λ c d low high in_c in_d. apart c d low high in_c in_d)
  where
    each : (c : ℕ) → c < car_count w.snapshot → count_by (λ x. x == r) (new_riders w t c) ≤ 1
    each c b =
        let riders = riders_after_all w.snapshot (riders_at_start w.snapshot c) (done_by w t c) in
        let fewer = count-filter (λ x. ltb x (call_count w.snapshot)) riders r in
        let once = (listed w t c f b).lists.once r in
        omega (arith, fewer, once)

    apart : (c d : ℕ) → c < d → d < car_count w.snapshot → 1 ≤ count_by (λ x. x == r) (new_riders w t c) → 1 ≤ count_by (λ x. x == r) (new_riders w t d) → ⊥
    apart c d low high in_c in_d =
        let bc : c < car_count w.snapshot = omega arith in
        let same = one-carries w t c d r f bc high (new-carried w t c r f bc (count-among r (new_riders w t c) in_c)).0
        (new-carried w t d r f high (count-among r (new_riders w t d) in_d)).0 in
        omega (arith, same, low)

-- no new rider is one that no car carries, or a group
count-new-none : (w : World) (t r : ℕ) → IsFeasiblePlan w.snapshot w.plan
    → ((c : ℕ) → c < car_count w.snapshot → (progress_at w t c).carried r ≡ true → r < call_count w.snapshot → ⊥)
    → sum_below (car_count w.snapshot) (λ c. count_by (λ x. x == r) (new_riders w t c)) ≡ 0
count-new-none w t r f none =
    sum_below-same (car_count w.snapshot) (λ c. count_by (λ x. x == r) (new_riders w t c)) (λ c. 0)
    (λ c b. count-none r (new_riders w t c)
    (false_from_ne_true (is_among r (new_riders w t c)) (λ h. let on = new-carried w t c r f b h in none c b on.0 on.1)))
    ∙ sum_below-zero (car_count w.snapshot)

count-parts : (w : World) (t r : ℕ)
    → count_by (λ x. x == r) (old_riders w t)
    ≡ count_by (λ x. x == r) (waiting w t) +
    (count_by (λ x. x == r) (map (λ k. call_count w.snapshot + k) (staying_groups w t)) + sum_below (car_count w.snapshot)
    (λ c. count_by (λ x. x == r) (new_riders w t c)))
count-parts w t r =
    count-append r (waiting w t) (map (λ (x : Seat). x.rider) (seats w t))
    ∙ ap (λ (n : ℕ). count_by (λ x. x == r) (waiting w t) + n)
    (ap (count_by (λ x. x == r)) (seat-riders w t)
    ∙ count-append r (map (λ k. call_count w.snapshot + k) (staying_groups w t)) (flat_map (new_riders w t) (range_with_len 0 (car_count w.snapshot)))
    ∙ ap (λ (n : ℕ). count_by (λ x. x == r) (map (λ k. call_count w.snapshot + k) (staying_groups w t)) + n)
    (count-ranges (new_riders w t) (car_count w.snapshot) r))

pub old-once : (w : World) (t : ℕ) → IsFeasiblePlan w.snapshot w.plan → (r : ℕ) → count_by (λ x. x == r) (old_riders w t) ≤ 1
old-once w t f r = elim (cases_lt r (call_count w.snapshot)) [ inl low ↦ of_call low | inr high ↦ of_group high ]
  where
    all : count_by (λ x. x == r) (old_riders w t)
        ≡ count_by (λ x. x == r) (waiting w t) +
        (count_by (λ x. x == r) (map (λ k. call_count w.snapshot + k) (staying_groups w t)) + sum_below (car_count w.snapshot)
        (λ c. count_by (λ x. x == r) (new_riders w t c)))
    all = count-parts w t r

    of_call : r < call_count w.snapshot → count_by (λ x. x == r) (old_riders w t) ≤ 1
    of_call low =
        let groups = count-low (call_count w.snapshot) r (staying_groups w t) low in
        let once = count-chosen (is_waiting w t) 0 (call_count w.snapshot) r in
        let new = count-new w t r f in
        elim (cases_Bool (is_waiting w t r)) [
          | inl e ↦ (let none = count-new-none w t r f (λ c b on below. both_ways ((progress_at w t c).carried r) (waiting-off w t c r f b low e) on) in
              omega (arith, all, groups, once, none))
          | inr e ↦ (let none =
              count-none r (waiting w t)
              (false_from_ne_true (is_among r (waiting w t))
              (λ h. both_ways (is_waiting w t r) e (among_chosen (is_waiting w t) 0 (call_count w.snapshot) r h).2)) in omega (arith, all, groups, new, none))
        ]

    of_group : call_count w.snapshot ≤ r → count_by (λ x. x == r) (old_riders w t) ≤ 1
    of_group high =
        let groups = count-high (call_count w.snapshot) r (staying_groups w t) high in
        let once = count-chosen (rides_on w t) 0 (length w.snapshot.aboard) (r - call_count w.snapshot) in
        let none = count-new-none w t r f (λ c b on below. omega arith) in
        let calls = count-none r (waiting w t)
        (false_from_ne_true (is_among r (waiting w t))
        (λ h. let found = among_chosen (is_waiting w t) 0 (call_count w.snapshot) r h in let b = found.1 in omega arith)) in
        omega (arith, all, groups, once, none, calls)

pub old-inside : (w : World) (t : ℕ) → IsAccepted w.snapshot → IsFeasiblePlan w.snapshot w.plan → All (λ x. x < rider_count w.snapshot) (old_riders w t)
old-inside w t a f =
    All-append (λ x. x < rider_count w.snapshot) (waiting w t) (map (λ (x : Seat). x.rider) (seats w t))
    (all-among (λ x. x < rider_count w.snapshot) (waiting w t)
    (λ r h. let found = among_chosen (is_waiting w t) 0 (call_count w.snapshot) r h in let b = found.1 in omega arith))
    (All-map (λ x. x < rider_count w.snapshot) (λ (x : Seat). x.rider) (seats w t)
    (All-weaker (IsSeat w t) (λ (x : Seat). x.rider < rider_count w.snapshot) (λ x is. is.rider) (seats w t) (all-seats w t a f)))

-- ---- numbers

-- a call that waits; of groups this says no
abbrev pub waits : World → (t : ℕ) → ℕ → Bool
waits w t r = ltb r (call_count w.snapshot) && is_waiting w t r

-- a rider of the later snapshot is a call, or a group with its seat
pub later-riders : (w : World) (t : ℕ) → rider_count (advanced w t).snapshot ≡ length (waiting w t) + length (seats w t)
later-riders w t = let calls = later-calls w t in let groups = later-groups w t in omega (arith, calls, groups)

pub old-length : (w : World) (t : ℕ) → length (old_riders w t) ≡ rider_count (advanced w t).snapshot
old-length w t =
    let all = length-append (waiting w t) (map (λ (x : Seat). x.rider) (seats w t)) in
    let seated = length-map (seats w t) (λ (x : Seat). x.rider) in
    let later = later-riders w t in
    omega (arith, all, seated, later)

-- what is known of a call of the later snapshot
pub record IsLaterCall (w : World) (t j : ℕ) : Type 0 where
  pub call : call_of (advanced w t).snapshot j ≡ call_of w.snapshot (old_of w t j)
  pub below : old_of w t j < call_count w.snapshot
  pub waits : is_waiting w t (old_of w t j) ≡ true
  pub index : index_at w t (old_of w t j) ≡ j

pub later-call-is : (w : World) (t j : ℕ) → j < call_count (advanced w t).snapshot → IsLaterCall w t j
later-call-is w t j below =
    let size = later-calls w t in
    let low : j < length (waiting w t) = omega (arith, below, size) in
    let at = at-passing (is_waiting w t) (call_count w.snapshot) j low in
    let same = sym (old-call w t j low) in
    record {
      call = later-call w t j low ∙ ap (call_of w.snapshot) same;
      below = subst (λ (x : ℕ). x < call_count w.snapshot) same at.below;
      waits = subst (λ (x : ℕ). is_waiting w t x ≡ true) same at.passes;
      index = subst (λ (x : ℕ). index_at w t x ≡ j) same at.rank;
    }

-- what is known of a group of the later snapshot
pub record IsLaterGroup (w : World) (t k : ℕ) : Type 0 where
  pub seat : Seat
  pub is : IsSeat w t seat
  pub group : group_of (advanced w t).snapshot k ≡ seat.group
  pub old : old_of w t (call_count (advanced w t).snapshot + k) ≡ seat.rider

pub later-group-is : (w : World) (t k : ℕ) → IsAccepted w.snapshot → IsFeasiblePlan w.snapshot w.plan → k < length (advanced w t).snapshot.aboard
    → IsLaterGroup w t k
later-group-is w t k a f below =
    let size = later-groups w t in
    let low : k < length (seats w t) = omega (arith, below, size) in
    record {
      seat = get_or (seats w t) k no_seat;
      is = seat-at w t k a f low;
      group = later-group w t k low;
      old = ap (λ (n : ℕ). old_of w t (n + k)) (later-calls w t) ∙ old-group w t k low;
    }

-- a group's number as a rider
as-group : (n r : ℕ) → n ≤ r → (k : ℕ) × (n + k ≡ r)
as-group n r high = (r - n, omega arith)

seat-gone : (w : World) (t : ℕ) → IsFeasiblePlan w.snapshot w.plan → (x : Seat) → IsSeat w t x → waits w t x.rider ≡ false
seat-gone w t f x is =
    false_from_ne_true (waits w t x.rider)
    (λ h. let parts = and_parts (ltb x.rider (call_count w.snapshot)) (is_waiting w t x.rider) h in
    both_ways ((progress_at w t x.car).carried x.rider)
    (waiting-off w t x.car x.rider f is.car (ltb-true x.rider (call_count w.snapshot) parts.0) parts.1) is.carried)

-- a fact of each rider of the later snapshot, from those of calls and of groups
pub each-later : (w : World) (t : ℕ) → (P : ℕ → Type 0) → ((j : ℕ) → j < call_count (advanced w t).snapshot → P j)
    → ((k : ℕ) → k < length (advanced w t).snapshot.aboard → P (call_count (advanced w t).snapshot + k)) → (r : ℕ) → r < rider_count (advanced w t).snapshot
    → P r
each-later w t P calls groups r below =
    elim (cases_lt r (call_count (advanced w t).snapshot)) [
      | inl low ↦ calls r low
      | inr high ↦ (let k = as-group (call_count (advanced w t).snapshot) r high in let e = k.1 in subst P k.1 (groups k.0 (omega (arith, below, e))))
    ]

later-destination : (w : World) (t : ℕ) → IsAccepted w.snapshot → IsFeasiblePlan w.snapshot w.plan → (r : ℕ) → r < rider_count (advanced w t).snapshot
    → destination_of (advanced w t).snapshot r ≡ destination_of w.snapshot (old_of w t r)
later-destination w t a f =
    each-later w t (λ r. destination_of (advanced w t).snapshot r ≡ destination_of w.snapshot (old_of w t r))
    (λ j b. let is = later-call-is w t j b in
    destination_of-call (advanced w t).snapshot j b ∙ ap (λ (x : Call). x.destination) is.call
    ∙ sym (destination_of-call w.snapshot (old_of w t j) is.below))
    (λ k b. let is = later-group-is w t k a f b in
    destination_of-group (advanced w t).snapshot k ∙ ap (λ (g : Aboard). g.destination) is.group ∙ is.is.destination
    ∙ ap (destination_of w.snapshot) (sym is.old))

pub later-persons : (w : World) (t : ℕ) → IsAccepted w.snapshot → IsFeasiblePlan w.snapshot w.plan → (r : ℕ) → r < rider_count (advanced w t).snapshot
    → persons_of (advanced w t).snapshot r ≡ persons_of w.snapshot (old_of w t r)
later-persons w t a f =
    each-later w t (λ r. persons_of (advanced w t).snapshot r ≡ persons_of w.snapshot (old_of w t r))
    (λ j b. let is = later-call-is w t j b in
    persons_of-call (advanced w t).snapshot j b ∙ ap (λ (x : Call). x.persons) is.call ∙ sym (persons_of-call w.snapshot (old_of w t j) is.below))
    (λ k b. let is = later-group-is w t k a f b in
    persons_of-group (advanced w t).snapshot k ∙ ap (λ (g : Aboard). g.persons) is.group ∙ is.is.persons ∙ ap (persons_of w.snapshot) (sym is.old))

pass-le : (b d : Bool) (x y : ℕ) → (b ≡ true → d ≡ true) → x ≡ y → cond b x 0 ≤ cond d y 0
pass-le false d x y f e = omega arith
pass-le true true x y f e = omega arith
pass-le true false x y f e = absurd (false≢true (f refl))

-- the persons of riders who pass a test are fewer than of those whose old numbers pass it
pub fewer-persons : (w : World) (t : ℕ) → IsAccepted w.snapshot → IsFeasiblePlan w.snapshot w.plan → (test was : ℕ → Bool)
    → ((r : ℕ) → r < rider_count (advanced w t).snapshot → test r ≡ true → was (old_of w t r) ≡ true)
    → persons_where (advanced w t).snapshot test ≤ persons_where w.snapshot was
fewer-persons w t a f test was back =
    let later = (advanced w t).snapshot in
    let g : ℕ → ℕ = λ r. cond (was r) (persons_of w.snapshot r) 0 in
    let each = sum_below-le (rider_count later) (λ r. cond (test r) (persons_of later r) 0) (λ r. g (old_of w t r))
    (λ r b. pass-le (test r) (was (old_of w t r)) (persons_of later r) (persons_of w.snapshot (old_of w t r)) (back r b) (later-persons w t a f r b)) in
    let along = ap (λ (n : ℕ). sum_below n (λ r. g (old_of w t r))) (sym (old-length w t)) ∙ sum_below-list g (old_riders w t) 0 in
    let once = sum-once g (rider_count w.snapshot) (old_riders w t) (old-inside w t a f) (old-once w t f) in
    omega (arith, each, along, once)

old-below : (w : World) (t : ℕ) → IsAccepted w.snapshot → IsFeasiblePlan w.snapshot w.plan → (r : ℕ) → r < rider_count (advanced w t).snapshot
    → old_of w t r < rider_count w.snapshot
old-below w t a f =
    each-later w t (λ r. old_of w t r < rider_count w.snapshot) (λ j b. let low = (later-call-is w t j b).below in omega arith)
    (λ k b. let is = later-group-is w t k a f b in subst (λ (x : ℕ). x < rider_count w.snapshot) (sym is.old) is.is.rider)

gone-later : (w : World) (t : ℕ) → IsAccepted w.snapshot → IsFeasiblePlan w.snapshot w.plan → (r : ℕ) → call_count (advanced w t).snapshot ≤ r
    → r < rider_count (advanced w t).snapshot → waits w t (old_of w t r) ≡ false
gone-later w t a f r high below =
    let k = as-group (call_count (advanced w t).snapshot) r high in
    let e = k.1 in
    let is = later-group-is w t k.0 a f (omega (arith, below, e)) in
    subst (λ (x : ℕ). waits w t (old_of w t x) ≡ false) k.1 (subst (λ (x : ℕ). waits w t x ≡ false) (sym is.old) (seat-gone w t f is.seat is.is))

-- the place of a call that waits
waiting-place : (w : World) (t j : ℕ) → waits w t j ≡ true → (index_at w t j < call_count (advanced w t).snapshot) × (old_of w t (index_at w t j) ≡ j)
waiting-place w t j h =
    let parts = and_parts (ltb j (call_count w.snapshot)) (is_waiting w t j) h in
    let r = rank-passing (is_waiting w t) (call_count w.snapshot) j (ltb-true j (call_count w.snapshot) parts.0) parts.1 in
    let size = later-calls w t in
    let low = r.below in
    (omega (arith, size, low), old-call w t (index_at w t j) r.below ∙ r.there)

-- The numbers of the world at a later moment.
pub renames : (w : World) (t : ℕ) → IsAccepted w.snapshot → IsFeasiblePlan w.snapshot w.plan
    → Renames w.snapshot (advanced w t).snapshot (old_of w t) (index_at w t) (waits w t)
renames w t a f = record {
  building = refl;
  call = λ j b. (later-call-is w t j b).call;
  call_below = λ j b. (later-call-is w t j b).below;
  waiting = λ j b. let is = later-call-is w t j b in
      and_from (ltb (old_of w t j) (call_count w.snapshot)) (is_waiting w t (old_of w t j)) (lt-ltb (old_of w t j) (call_count w.snapshot) is.below) is.waits;
  index_old = λ j b. (later-call-is w t j b).index;
  index_below = λ j b h. (waiting-place w t j h).0;
  old_index = λ j b h. (waiting-place w t j h).1;
  gone = gone-later w t a f;
  inside = old-below w t a f;
  destination = later-destination w t a f;
  persons = fewer-persons w t a f;
}

pub stops-wait : (w : World) (t c : ℕ) → IsFeasiblePlan w.snapshot w.plan → c < car_count w.snapshot → StopsWait w.snapshot (waits w t) (left_at w t c)
stops-wait w t c f below =
    record {
      each = λ j h. let is = (left-wait w t c f below).each j h in
          (is.0, and_from (ltb j (call_count w.snapshot)) (is_waiting w t j) (lt-ltb j (call_count w.snapshot) is.0) is.1);
    }

-- ---- the start of a tour in the later snapshot

-- a number that stands in a list has a place there
pub place-of : (r : ℕ) (xs : List ℕ) → is_among r xs ≡ true → (k : ℕ) × (k < length xs) × (get_or xs k 0 ≡ r)
place-of r [] h = absurd (false≢true h)
place-of r (x ∷ xs) h =
    elim (or_cases (eqb x r) (is_among r xs) h) [
      | inl e ↦ (0, omega arith, eqb-true x r e)
      | inr e ↦ (let p = place-of r xs e in let b = p.1 in (suc p.0, omega arith, p.2))
    ]

among-map : (n r : ℕ) (xs : List ℕ) → is_among r xs ≡ true → is_among (n + r) (map (λ k. n + k) xs) ≡ true
among-map n r [] h = absurd (false≢true h)
among-map n r (x ∷ xs) h =
    elim (or_cases (eqb x r) (is_among r xs) h) [
      | inl e ↦ or_left (eqb (n + x) (n + r)) (is_among (n + r) (map (λ k. n + k) xs)) (eq-eqb (n + x) (n + r) (ap (λ (y : ℕ). n + y) (eqb-true x r e)))
      | inr e ↦ or_right (eqb (n + x) (n + r)) (is_among (n + r) (map (λ k. n + k) xs)) (among-map n r xs e)
    ]

among-ranges : (f : ℕ → List ℕ) (a n c r : ℕ) → a ≤ c → c < a + n → is_among r (f c) ≡ true → is_among r (flat_map f (range_with_len a n)) ≡ true
among-ranges f a zero c r low high h = absurd (omega arith)
among-ranges f a (suc n) c r low high h =
    ap (is_among r) (flat_map-cons f a (range_with_len (a + 1) n)) ∙ list_any-append (λ x. eqb x r) (f a) (flat_map f (range_with_len (a + 1) n))
    ∙ elim (cases_lt a c) [
      | inl lt ↦ or_right (is_among r (f a)) (is_among r (flat_map f (range_with_len (a + 1) n))) (among-ranges f (a + 1) n c r (omega arith) (omega arith) h)
      | inr ge ↦ (let e : c ≡ a = omega arith in
          or_left (is_among r (f a)) (is_among r (flat_map f (range_with_len (a + 1) n))) (subst (λ (x : ℕ). is_among r (f x) ≡ true) e h))
    ]

-- whom the car carries has a seat
carried-seated : (w : World) (t c r : ℕ) → IsFeasiblePlan w.snapshot w.plan → c < car_count w.snapshot → (progress_at w t c).carried r ≡ true
    → is_among r (old_riders w t) ≡ true
carried-seated w t c r f below h =
    let s = w.snapshot in
    let kept = (listed w t c f below).kept in
    let groups = map (λ k. call_count s + k) (staying_groups w t) in
    let news = flat_map (new_riders w t) (range_with_len 0 (car_count s)) in
    let seated : (is_among r groups || is_among r news) ≡ true = elim (or_cases ((progress_at w t c).boarded r) (is_aboard s c r) (kept.carried r h)) [
      | inl e ↦ or_right (is_among r groups) (is_among r news)
          (among-ranges (new_riders w t) 0 (car_count s) c r (omega arith) (omega arith) (new_here (kept.calls r e)))
      | inr e ↦ or_left (is_among r groups) (is_among r news) (group_here e)
    ] in
    list_any-append (λ x. eqb x r) (waiting w t) (map (λ (x : Seat). x.rider) (seats w t))
    ∙ or_right (is_among r (waiting w t)) (is_among r (map (λ (x : Seat). x.rider) (seats w t)))
    (ap (is_among r) (seat-riders w t) ∙ list_any-append (λ x. eqb x r) groups news ∙ seated)
  where
    new_here : r < call_count w.snapshot → is_among r (new_riders w t c) ≡ true
    new_here low =
        let riders = riders_after_all w.snapshot (riders_at_start w.snapshot c) (done_by w t c) in
        among-filter (λ x. ltb x (call_count w.snapshot)) riders r
        ∙ and_from (is_among r riders) (ltb r (call_count w.snapshot)) ((listed w t c f below).lists.among r ∙ h) (lt-ltb r (call_count w.snapshot) low)

    group_here : is_aboard w.snapshot c r ≡ true → is_among r (map (λ k. call_count w.snapshot + k) (staying_groups w t)) ≡ true
    group_here e =
        let s = w.snapshot in
        let both = and_parts (leb (call_count s) r && ltb r (rider_count s)) (eqb (group_of s (r - call_count s)).car c) e in
        let range = and_parts (leb (call_count s) r) (ltb r (rider_count s)) both.0 in
        let low = leb-true (call_count s) r range.0 in
        let high = ltb-true r (rider_count s) range.1 in
        let k = as-group (call_count s) r low in
        let at = k.1 in
        let index : r - call_count s ≡ k.0 = omega (arith, at) in
        let car : (group_of s k.0).car ≡ c = ap (λ (i : ℕ). (group_of s i).car) (sym index) ∙ eqb-true (group_of s (r - call_count s)).car c both.1 in
        let rides : rides_on w t k.0 ≡ true = ap (λ (d : ℕ). (progress_at w t d).carried (call_count s + k.0)) car ∙ ap (progress_at w t c).carried at ∙ h in
        subst (λ (x : ℕ). is_among x (map (λ i. call_count s + i) (staying_groups w t)) ≡ true) at
        (among-map (call_count s) k.0 (staying_groups w t)
        (chosen_has (rides_on w t) 0 (length s.aboard) k.0 (omega arith) (omega (arith, at, high)) rides))

start-carried : (w : World) (t c : ℕ) → IsAccepted w.snapshot → IsFeasiblePlan w.snapshot w.plan → c < car_count w.snapshot → (r : ℕ)
    → r < rider_count (advanced w t).snapshot → is_aboard (advanced w t).snapshot c r ≡ (progress_at w t c).carried (old_of w t r)
start-carried w t c a f below =
    each-later w t (λ r. is_aboard (advanced w t).snapshot c r ≡ (progress_at w t c).carried (old_of w t r))
    (λ j b. let is = later-call-is w t j b in
    is_aboard-call (advanced w t).snapshot c j b ∙ sym (waiting-off w t c (old_of w t j) f below is.below is.waits)) (λ k b. seated k b)
  where
    seated : (k : ℕ) → k < length (advanced w t).snapshot.aboard
        → is_aboard (advanced w t).snapshot c (call_count (advanced w t).snapshot + k)
        ≡ (progress_at w t c).carried (old_of w t (call_count (advanced w t).snapshot + k))
    seated k b =
        let is = later-group-is w t k a f b in
        let x = is.seat in
        is_aboard-group (advanced w t).snapshot c k b ∙ ap (λ (g : Aboard). eqb g.car c) is.group ∙ ap (λ (d : ℕ). eqb d c) is.is.group_car
        ∙ same_test (eqb x.car c) ((progress_at w t c).carried x.rider)
        (λ h. subst (λ (d : ℕ). (progress_at w t d).carried x.rider ≡ true) (eqb-true x.car c h) is.is.carried)
        (λ h. eq-eqb x.car c (one-carries w t x.car c x.rider f is.is.car below is.is.carried h)) ∙ ap (progress_at w t c).carried (sym is.old)

-- At the start of its tour there the car carries those whom it carried.
pub start-same : (w : World) (t c : ℕ) → IsAccepted w.snapshot → IsFeasiblePlan w.snapshot w.plan → c < car_count w.snapshot
    → HasSame w.snapshot (advanced w t).snapshot (old_of w t) (progress_at w t c) (start_of (advanced w t).snapshot c)
start-same w t c a f below = record {
  carried = start-carried w t c a f below;
  found = λ r h. let p = place-of r (old_riders w t) (carried-seated w t c r f below h) in let b = p.1 in let size = old-length w t in
      (p.0, omega (arith, b, size), p.2);
  boarded = λ j b h. absurd (false≢true h);
}
