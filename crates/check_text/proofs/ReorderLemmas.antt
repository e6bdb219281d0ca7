-- Nothing depends on the order of the boards of a stop.
use Rattle.std.proofs.Common.{◌⊎◌, ◌≡◌, ℕ, zero, suc, ◌+◌, ◌<◌, ◌≤◌, ◌==◌, ◌&&◌, ◌||◌, not, Bool, true, false, cond, eqb, ltb, leb, List, [], ◌∷◌, map, filter}
use Rattle.std.proofs.Common.{length, refl, sym, ap, ◌∙◌, subst, arith, inl, inr, Option}
use Rattle.std.specs.Prelude.{All, count_by}
use Rattle.std.specs.List.{flat_map, range_with_len, list_any}
use Rattle.std.proofs.lemmas.Bool.{cases_Bool, cases_lt, or_cases, eqb-true, eq-eqb, false≢true, both_ways, false_from_ne_true, lt-ltb}
use Rattle.std.proofs.lemmas.List.{length-map}
use Rattle.call_sets.specs.Counting.{is_among, any_below, sum_where}
use Rattle.call_sets.proofs.ListTests.{list_any-false, list_any-none}
use Rattle.call_sets.proofs.Sums.{sum_below-same}
use Rattle.call_sets.proofs.Counts.{count-same}
use Rattle.elevator_model.specs.declared.Broken.{Broken}
use Rattle.elevator_model.specs.declared.Rule.{Rule}
use Rattle.elevator_model.specs.declared.Rule.TheVariants.{FirstStop, SameFloorTwice, UselessStop, TurnWithPassengers, Capacity, QueueOrder, Car, Floor}
use Rattle.elevator_model.specs.declared.Rule.TheVariants.{Delivery, CallTwice, Origin, Unserved}
use Rattle.elevator_model.specs.declared.Stop.{Stop}
use Rattle.elevator_model.specs.Snapshot.{Snapshot, call_count, car_count, state_of, is_idle, spec_of, call_of}
use Rattle.elevator_model.specs.Tours.{Progress, start_of, stop_at, make_stop, after_stops, boards_at, gets_off, stays_on, persons_where, overtakes}
use Rattle.elevator_model.specs.Tours.{is_call_for, breaks, first_rule, rules_of_stop, broken_at, broken_or, first_broken_from, rider_count, none_taken}
use Rattle.elevator_model.specs.Costs.{settled_cost, cost_of}
use Rattle.elevator_model.specs.Plans.{tour_of, is_boarded_in, times_served, IsFeasiblePlan, plan_cost_of}
use Rattle.tour_rules.proofs.BoundedTests.{same_function}
use Rattle.tour_rules.proofs.Rising.{count-cons, count-none, count-append}
use Rattle.answer_text.specs.Plans.{AreCalls, BoardsCalls, by_index, stop_by_index, plan_by_index}
use Rattle.answer_text.proofs.FitsLemmas.{feasible_fits}
use Rattle.check_text.specs.Laws.{ByIndexLaw}

-- ---- how often a call stands in a list

abbrev pub times_in : ℕ → List ℕ → ℕ
times_in j xs = count_by (λ x. x == j) xs

abbrev pub only : ℕ → List ℕ → List ℕ
only k xs = filter (λ x. x == k) xs

one_kept : (at is same : Bool) (count : ℕ) → (at ≡ true → is ≡ same) → (same ≡ true → at ≡ is)
    → cond at (cond is 1 0 + cond same count 0) (cond same count 0) ≡ cond same (cond is 1 0 + count) 0
one_kept true true true count h k = omega arith
one_kept true true false count h k = absurd (false≢true (sym (h refl)))
one_kept true false true count h k = absurd (false≢true (h refl))
one_kept true false false count h k = omega arith
one_kept false true true count h k = absurd (false≢true (k refl))
one_kept false true false count h k = omega arith
one_kept false false true count h k = omega arith
one_kept false false false count h k = omega arith

cond_times : (at : Bool) (j x : ℕ) (xs : List ℕ) → times_in j (cond at (x ∷ xs) xs) ≡ cond at (cond (eqb x j) 1 0 + times_in j xs) (times_in j xs)
cond_times true j x xs = count-cons j x xs
cond_times false j x xs = refl

nothing_twice : (same : Bool) → 0 ≡ cond {A = ℕ} same 0 0
nothing_twice true = refl
nothing_twice false = refl

times_only : (j k : ℕ) (xs : List ℕ) → times_in j (only k xs) ≡ cond (eqb k j) (times_in j xs) 0
times_only j k [] = nothing_twice (eqb k j)
times_only j k (x ∷ xs) =
    cond_times (eqb x k) j x (only k xs)
    ∙ ap (λ (n : ℕ). cond (eqb x k) (cond (eqb x j) 1 0 + n) n) (times_only j k xs)
    ∙ one_kept (eqb x k) (eqb x j) (eqb k j) (times_in j xs) (λ at. ap (λ (i : ℕ). eqb i j) (eqb-true x k at))
    (λ same. ap (λ (i : ℕ). eqb x i) (eqb-true k j same))
    ∙ ap (λ (n : ℕ). cond (eqb k j) n 0) (sym (count-cons j x xs))

abbrev pub sorted_from : List ℕ → (a m : ℕ) → List ℕ
sorted_from xs a m = flat_map (λ k. only k xs) (range_with_len a m)

apart : (a b : ℕ) → (a ≡ b → ⊥) → eqb a b ≡ false
apart a b differ = false_from_ne_true (eqb a b) (λ is. differ (eqb-true a b is))

times_outside : (xs : List ℕ) (j a m : ℕ) → (j < a) ⊎ (a + m ≤ j) → times_in j (sorted_from xs a m) ≡ 0
times_outside xs j a zero out = refl
times_outside xs j a (suc m) out =
    let joined = count-append j (only a xs) (sorted_from xs (a + 1) m) in
    let here = times_only j a xs ∙ ap (λ (is : Bool). cond is (times_in j xs) 0) (apart a j (differ out)) in
    let later = times_outside xs j (a + 1) m (later_out out) in
    omega (arith, joined, here, later)
  where
    differ : (j < a) ⊎ (a + suc m ≤ j) → a ≡ j → ⊥
    differ (inl below) same = omega arith
    differ (inr above) same = omega arith

    later_out : (j < a) ⊎ (a + suc m ≤ j) → (j < a + 1) ⊎ (a + 1 + m ≤ j)
    later_out (inl below) = inl (omega arith)
    later_out (inr above) = inr (omega arith)

times_inside : (xs : List ℕ) (j a m : ℕ) → a ≤ j → j < a + m → times_in j (sorted_from xs a m) ≡ times_in j xs
times_inside xs j a zero low high = absurd (omega arith)
times_inside xs j a (suc m) low high =
    let joined = count-append j (only a xs) (sorted_from xs (a + 1) m) in
    elim (cases_lt a j) [
      | inl below ↦
          let here = times_only j a xs ∙ ap (λ (is : Bool). cond is (times_in j xs) 0) (apart a j (λ same. omega arith)) in
          let later = times_inside xs j (a + 1) m (omega arith) (omega arith) in
          omega (arith, joined, here, later)
      | inr above ↦
          let same : a ≡ j = omega arith in
          let here = times_only j a xs ∙ ap (λ (is : Bool). cond is (times_in j xs) 0) (eq-eqb a j same) in
          let later = times_outside xs j (a + 1) m (inl (omega arith)) in
          omega (arith, joined, here, later)
    ]

pub among_low : (n : ℕ) (xs : List ℕ) (j : ℕ) → All (λ x. x < n) xs → is_among j xs ≡ true → j < n
among_low n [] j calls among = absurd (false≢true among)
among_low n (x ∷ xs) j calls among =
    elim (or_cases (eqb x j) (is_among j xs) among) [
      | inl here ↦ subst (λ (k : ℕ). k < n) (eqb-true x j here) (calls 0 0 (omega arith))
      | inr later ↦ among_low n xs j (λ k d below. calls (suc k) d (omega arith)) later
    ]

-- each call stands among the boards by rising index as often as before
times_same : (s : Snapshot) (boards : List ℕ) → AreCalls s boards → (j : ℕ) → times_in j (by_index s boards) ≡ times_in j boards
times_same s boards calls j = elim (cases_lt j (call_count s)) [
  | inl below ↦ times_inside boards j 0 (call_count s) (omega arith) (omega arith)
  | inr above ↦
      let outside = times_outside boards j 0 (call_count s) (inr (omega arith)) in
      let none = count-none j boards
      (false_from_ne_true (is_among j boards) (λ among. (let low = among_low (call_count s) boards j calls among in omega (arith, low)))) in
      outside ∙ sym none
]

pub among_times : (j : ℕ) (xs : List ℕ) → is_among j xs ≡ ltb 0 (times_in j xs)
among_times j [] = refl
among_times j (x ∷ xs) = either (eqb x j) (among_times j xs) ∙ ap (ltb 0) (sym (count-cons j x xs))
  where
    either : (is : Bool) → is_among j xs ≡ ltb 0 (times_in j xs) → (is || is_among j xs) ≡ ltb 0 (cond is 1 0 + times_in j xs)
    either true later = sym (lt-ltb 0 (1 + times_in j xs) (omega arith))
    either false later = let same : times_in j xs ≡ 0 + times_in j xs = omega arith in later ∙ ap (ltb 0) same

among_same : (s : Snapshot) (boards : List ℕ) → AreCalls s boards → (j : ℕ) → is_among j (by_index s boards) ≡ is_among j boards
among_same s boards calls j = among_times j (by_index s boards) ∙ ap (ltb 0) (times_same s boards calls j) ∙ sym (among_times j boards)

any_same : (test : ℕ → Bool) (xs ys : List ℕ) → ((j : ℕ) → is_among j xs ≡ is_among j ys) → list_any test xs ≡ list_any test ys
any_same test xs ys same = elim (cases_Bool (list_any test xs)) [
  | inl some ↦ some ∙ sym (elim (cases_Bool (list_any test ys)) [
    | inl is ↦ is
    | inr none ↦ absurd (both_ways (list_any test xs) (list_any-none test xs (λ j among. list_any-false test ys j none (sym (same j) ∙ among))) some)
  ])
  | inr none ↦ none ∙ sym (list_any-none test ys (λ j among. list_any-false test xs j none (same j ∙ among)))
]

-- ---- a stop

module _ (s : Snapshot) (c : ℕ) (stop : Stop) (calls : AreCalls s stop.boards) where
  abbrev sorted : Stop
  sorted = stop_by_index s stop

  boards_same : boards_at s sorted ≡ boards_at s stop
  boards_same = same_function (boards_at s sorted) (boards_at s stop) (λ j. ap (λ (is : Bool). ltb j (call_count s) && is) (among_same s stop.boards calls j))

  abbrev counts_of : Stop → ℕ → ℕ
  counts_of at j = times_in j at.boards

  counts_same : counts_of sorted ≡ counts_of stop
  counts_same = same_function (counts_of sorted) (counts_of stop) (times_same s stop.boards calls)

  stop_same : (p : Progress) → make_stop s c p sorted ≡ make_stop s c p stop
  stop_same p = ap (stop_at s c p stop.floor) boards_same

  breaks_same : (taken : ℕ → Bool) (p : Progress) (rule : Rule) → breaks s c taken p sorted rule ≡ breaks s c taken p stop rule
  breaks_same taken p FirstStop = refl
  breaks_same taken p SameFloorTwice = refl
  breaks_same taken p UselessStop =
      ap (λ (boards : ℕ → Bool). ((p.begun || is_idle (state_of s c)) && not (any_below (rider_count s) (gets_off s p stop.floor)))
      && not (any_below (call_count s) boards)) boards_same
  breaks_same taken p TurnWithPassengers = refl
  breaks_same taken p Capacity =
      ap (λ (boards : ℕ → Bool). ltb (spec_of s c).capacity (persons_where s (stays_on s p stop.floor) + persons_where s boards)) boards_same
  breaks_same taken p QueueOrder = ap (λ (boards : ℕ → Bool). any_below (call_count s) (λ j. boards j && overtakes s p j)) boards_same
  breaks_same taken p Car = any_same (λ j. not (is_call_for s c j)) sorted.boards stop.boards (among_same s stop.boards calls)
  breaks_same taken p Floor = refl
  breaks_same taken p Delivery = refl
  breaks_same taken p CallTwice =
      ap (λ (boards : ℕ → Bool). any_below (call_count s) (λ j. boards j && ((p.boarded j || taken j) || leb 2 (times_in j sorted.boards)))) boards_same
      ∙ ap (λ (count : ℕ → ℕ). any_below (call_count s) (λ j. boards_at s stop j && ((p.boarded j || taken j) || leb 2 (count j)))) counts_same
  breaks_same taken p Origin = ap (λ (boards : ℕ → Bool). any_below (call_count s) (λ j. boards j && not ((call_of s j).origin == stop.floor))) boards_same
  breaks_same taken p Unserved = refl

  broken_same : (taken : ℕ → Bool) (p : Progress) → broken_at s c taken p sorted ≡ broken_at s c taken p stop
  broken_same taken p =
      ap (λ (broken : Rule → Bool). first_rule broken rules_of_stop) (same_function (breaks s c taken p sorted) (breaks s c taken p stop) (breaks_same taken p))

-- ---- a tour

module _ (s : Snapshot) where
  abbrev tour_by_index : List Stop → List Stop
  tour_by_index tour = map (stop_by_index s) tour

  later_calls : (stop : Stop) (tour : List Stop) → BoardsCalls s (stop ∷ tour) → BoardsCalls s tour
  later_calls stop tour calls k d below = calls (suc k) d (omega arith)

  first_calls : (stop : Stop) (tour : List Stop) → BoardsCalls s (stop ∷ tour) → AreCalls s stop.boards
  first_calls stop tour calls = calls 0 stop (omega arith)

  first_same : (c : ℕ) (taken : ℕ → Bool) (p : Progress) (k : ℕ) (tour : List Stop) → BoardsCalls s tour
      → first_broken_from s c taken p k (tour_by_index tour) ≡ first_broken_from s c taken p k tour
  first_same c taken p k [] calls = refl
  first_same c taken p k (stop ∷ tour) calls =
      let own = first_calls stop tour calls in
      ap (λ (rule : Option Rule). broken_or rule k (first_broken_from s c taken (make_stop s c p (stop_by_index s stop)) (k + 1) (tour_by_index tour)))
      (broken_same s c stop own taken p)
      ∙ ap (λ (q : Progress). broken_or (broken_at s c taken p stop) k (first_broken_from s c taken q (k + 1) (tour_by_index tour))) (stop_same s c stop own p)
      ∙ ap (λ (later : Option Broken). broken_or (broken_at s c taken p stop) k later)
      (first_same c taken (make_stop s c p stop) (k + 1) tour (later_calls stop tour calls))

  after_same : (c : ℕ) (p : Progress) (tour : List Stop) → BoardsCalls s tour → after_stops s c p (tour_by_index tour) ≡ after_stops s c p tour
  after_same c p [] calls = refl
  after_same c p (stop ∷ tour) calls =
      ap (λ (q : Progress). after_stops s c q (tour_by_index tour)) (stop_same s c stop (first_calls stop tour calls) p)
      ∙ after_same c (make_stop s c p stop) tour (later_calls stop tour calls)

  boarded_same : (tour : List Stop) → BoardsCalls s tour → (j : ℕ) → is_boarded_in (tour_by_index tour) j ≡ is_boarded_in tour j
  boarded_same [] calls j = refl
  boarded_same (stop ∷ tour) calls j =
      ap (λ (here : Bool). here || is_boarded_in (tour_by_index tour) j) (among_same s stop.boards (first_calls stop tour calls) j)
      ∙ ap (λ (later : Bool). is_among j stop.boards || later) (boarded_same tour (later_calls stop tour calls) j)

  -- ---- a plan

  tour_sorted : (plan : List (List Stop)) (c : ℕ) → tour_of (plan_by_index s plan) c ≡ tour_by_index (tour_of plan c)
  tour_sorted [] c = refl
  tour_sorted (tour ∷ plan) zero = refl
  tour_sorted (tour ∷ plan) (suc c) = tour_sorted plan c

  module _ (plan : List (List Stop)) (feasible : IsFeasiblePlan s plan) where
    cars_same : length (plan_by_index s plan) ≡ length plan
    cars_same = length-map plan tour_by_index

    calls_in : (c : ℕ) → c < length plan → BoardsCalls s (tour_of plan c)
    calls_in c below = (feasible_fits s plan feasible).boards c [] below

    times_served_same : (j : ℕ) → times_served (plan_by_index s plan) j ≡ times_served plan j
    times_served_same j =
        ap (λ (n : ℕ). sum_where n (λ c. is_boarded_in (tour_of (plan_by_index s plan) c) j) (λ _. 1)) cars_same
        ∙ count-same (length plan) (λ c. is_boarded_in (tour_of (plan_by_index s plan) c) j) (λ c. is_boarded_in (tour_of plan c) j)
        (λ c below. ap (λ (tour : List Stop). is_boarded_in tour j) (tour_sorted plan c) ∙ boarded_same (tour_of plan c) (calls_in c below) j)

    sorted_feasible : IsFeasiblePlan s (plan_by_index s plan)
    sorted_feasible = record {
      cars = cars_same ∙ feasible.cars;
      tours = λ c below.
          ap (first_broken_from s c none_taken (start_of s c) 1) (tour_sorted plan c)
          ∙ first_same c none_taken (start_of s c) 1 (tour_of plan c) (calls_in c (omega (arith, below, feasible.cars)))
          ∙ feasible.tours c below;
      serves_once = λ j below. times_served_same j ∙ feasible.serves_once j below;
    }

    cost_same : plan_cost_of s (plan_by_index s plan) ≡ plan_cost_of s plan
    cost_same = sum_below-same (car_count s) (λ c. cost_of s c (tour_of (plan_by_index s plan) c)) (λ c. cost_of s c (tour_of plan c))
        (λ c below. ap (cost_of s c) (tour_sorted plan c)
        ∙ ap (settled_cost s c) (after_same c (start_of s c) (tour_of plan c) (calls_in c (omega (arith, below, feasible.cars)))))

pub by_index_holds : ByIndexLaw
by_index_holds s plan feasible = (sorted_feasible s plan feasible, cost_same s plan feasible)
