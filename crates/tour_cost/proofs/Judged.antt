-- A plan has no bad place exactly where it is feasible.
use Rattle.std.proofs.Common.{◌≡◌, ℕ, zero, suc, ◌+◌, ◌<◌, ◌≤◌, Bool, true, false, cond, ◌||◌, get_or, drop, List, [], ◌∷◌, length, if◌then◌else◌, refl, sym}
use Rattle.std.proofs.Common.{ap, ◌∙◌, subst, inl, inr, arith, Option, Some, None}
use Rattle.std.proofs.lemmas.Bool.{false≢true}
use Rattle.std.proofs.lemmas.List.{drop_more}
use Rattle.std.proofs.Math.ListN.{drop_of_length-le}
use Rattle.std.proofs.Math.Nat.{eq-or-lt_of_le}
use Rattle.std.specs.List.{list_any}
use Rattle.elevator_model.specs.declared.Stop.{Stop}
use Rattle.elevator_model.specs.declared.BadPlan.{BadPlan}
use Rattle.elevator_model.specs.declared.Broken.{Broken}
use Rattle.call_sets.specs.Counting.{sum_below}
use Rattle.elevator_model.specs.Snapshot.{Snapshot, call_count, car_count}
use Rattle.elevator_model.specs.Tours.{first_broken_from, start_of, none_taken, IsFeasible}
use Rattle.elevator_model.specs.Plans.{IsFeasiblePlan, is_boarded_in, tour_of, times_served, first_of, first_unserved, first_bad, first_bad_tour, broken_of_car}
use Rattle.elevator_model.specs.Plans.{unserved_of}
use Rattle.call_sets.proofs.Sums.{sum_below-same, sum_below-split}
use Rattle.tour_rules.proofs.BoundedTests.{same_function}
use Rattle.tour_rules.proofs.Taken.{tour_alone, tour_apart, tour_beside}
use Rattle.tour_cost.specs.Unserved.{first_without}

some≢none : {X : Type 0} {x : X} → Some x ≡ None → ⊥
some≢none e = false≢true (sym (ap is_there e))
  where
    is_there : {X : Type 0} → Option X → Bool
    is_there None = false
    is_there (Some x) = true

-- some tour boards the call
abbrev pub is_served : List (List Stop) → ℕ → Bool
is_served tours j = list_any (λ (tour : List Stop). is_boarded_in tour j) tours

abbrev pub one_if : Bool → ℕ
one_if b = cond {A = ℕ} b 1 0

-- of the first tour and the others
times_more : (tour : List Stop) (tours : List (List Stop)) (j : ℕ) → times_served (tour ∷ tours) j ≡ one_if (is_boarded_in tour j) + times_served tours j
times_more tour tours j =
    let f : ℕ → ℕ = λ k. one_if (is_boarded_in (tour_of (tour ∷ tours) k) j) in
    let e : length (tour ∷ tours) ≡ 1 + length tours = omega arith in
    let split : times_served (tour ∷ tours) j ≡ 0 + one_if (is_boarded_in tour j) + sum_below (length tours) (λ k. f (1 + k)) = ap (λ (n : ℕ). sum_below n f) e
    ∙ sum_below-split 1 (length tours) f in
    let same : sum_below (length tours) (λ k. f (1 + k)) ≡ times_served tours j =
    sum_below-same (length tours) (λ k. f (1 + k)) (λ k. one_if (is_boarded_in (tour_of tours k) j))
    (λ k lt. let up : 1 + k ≡ suc k = omega arith in ap f up) in
    omega (arith, split, same)

abbrev pub with_tour : (ℕ → Bool) → List Stop → ℕ → Bool
with_tour taken tour j = taken j || is_boarded_in tour j

joined : (t b : Bool) → (b ≡ true → t ≡ false) → one_if (t || b) ≡ one_if t + one_if b
joined true true free = absurd (false≢true (sym (free refl)))
joined true false free = refl
joined false true free = refl
joined false false free = refl

pub clear_first : (o later : Option BadPlan) → first_of o later ≡ None → (o ≡ None) × (later ≡ None)
clear_first None later h = (refl, h)
clear_first (Some x) later h = absurd (some≢none h)

pub clear_car : (c : ℕ) (o : Option Broken) → broken_of_car c o ≡ None → o ≡ None
clear_car c None h = refl
clear_car c (Some b) h = absurd (some≢none h)

-- one tour more is judged
pub tours_step : (s : Snapshot) (taken : ℕ → Bool) (c : ℕ) (tours : List (List Stop)) (tour : List Stop) → c < length tours → tour ≡ get_or tours c tour
    → first_bad_tour s taken c (drop c tours)
    ≡ first_of (broken_of_car c (first_broken_from s c taken (start_of s c) 1 tour)) (first_bad_tour s (with_tour taken tour) (c + 1) (drop (c + 1) tours))
tours_step s taken c tours tour lt is =
    ap (first_bad_tour s taken c) (drop_more tours c tour lt) ∙ ap (λ (x : List Stop). first_bad_tour s taken c (x ∷ drop (c + 1) tours)) (sym is)

pub served_step : (tours : List (List Stop)) (c : ℕ) (tour : List Stop) (j : ℕ) → c < length tours → tour ≡ get_or tours c tour
    → is_served (drop c tours) j ≡ (is_boarded_in tour j || is_served (drop (c + 1) tours) j)
served_step tours c tour j lt is =
    ap (λ (l : List (List Stop)). is_served l j) (drop_more tours c tour lt) ∙ ap (λ (x : List Stop). is_served (x ∷ drop (c + 1) tours) j) (sym is)

-- what holds of each tour, and of each call, where no tour is bad
pub tours_fine : (s : Snapshot) (taken : ℕ → Bool) (c : ℕ) (tours : List (List Stop)) → first_bad_tour s taken c tours ≡ None → (i : ℕ) → i < length tours
    → IsFeasible s (c + i) (tour_of tours i)
tours_fine s taken c [] ok i lt = absurd (omega (arith, lt))
tours_fine s taken c (tour ∷ tours) ok zero lt =
    let parts = clear_first (broken_of_car c (first_broken_from s c taken (start_of s c) 1 tour)) _ ok in
    let here = tour_alone s c taken (start_of s c) 1 tour (clear_car c _ parts.0) in
    let e : c ≡ c + 0 = omega arith in
    subst (λ (k : ℕ). IsFeasible s k tour) e here
tours_fine s taken c (tour ∷ tours) ok (suc i) lt =
    let parts = clear_first (broken_of_car c (first_broken_from s c taken (start_of s c) 1 tour)) _ ok in
    let e : c + 1 + i ≡ c + suc i = omega arith in
    subst (λ (k : ℕ). IsFeasible s k (tour_of tours i)) e (tours_fine s (with_tour taken tour) (c + 1) tours parts.1 i (omega (arith, lt)))

pub served_once_at_most : (s : Snapshot) (taken : ℕ → Bool) (c : ℕ) (tours : List (List Stop)) → first_bad_tour s taken c tours ≡ None → (j : ℕ)
    → one_if (taken j) + times_served tours j ≤ 1
served_once_at_most s taken c [] ok j = at_most_one (taken j)
  where
    at_most_one : (b : Bool) → one_if b + 0 ≤ 1
    at_most_one true = omega arith
    at_most_one false = omega arith
served_once_at_most s taken c (tour ∷ tours) ok j =
    let parts = clear_first (broken_of_car c (first_broken_from s c taken (start_of s c) 1 tour)) _ ok in
    let apart = joined (taken j) (is_boarded_in tour j) (λ h. (tour_apart s c taken (start_of s c) 1 tour (clear_car c _ parts.0) j h).1) in
    let rest = served_once_at_most s (with_tour taken tour) (c + 1) tours parts.1 j in
    let more = times_more tour tours j in
    omega (arith, apart, rest, more)

pub served_times : (tours : List (List Stop)) (j : ℕ) → is_served tours j ≡ true → 1 ≤ times_served tours j
served_times [] j h = absurd (false≢true h)
served_times (tour ∷ tours) j h =
    let more = times_more tour tours j in
    let there = at_least (is_boarded_in tour j) (is_served tours j) (times_served tours j) h (served_times tours j) in
    omega (arith, more, there)
  where
    at_least : (b r : Bool) (n : ℕ) → (b || r) ≡ true → (r ≡ true → 1 ≤ n) → 1 ≤ one_if b + n
    at_least true r n h f = omega arith
    at_least false r n h f = let one = f h in omega (arith, one)

pub times_is_served : (tours : List (List Stop)) (j : ℕ) → 1 ≤ times_served tours j → is_served tours j ≡ true
times_is_served [] j h = absurd (omega (arith, h))
times_is_served (tour ∷ tours) j h =
    let more = times_more tour tours j in
    either (is_boarded_in tour j) (is_served tours j) (times_served tours j) (omega (arith, more, h)) (times_is_served tours j)
  where
    either : (b r : Bool) (n : ℕ) → 1 ≤ one_if b + n → (1 ≤ n → r ≡ true) → (b || r) ≡ true
    either true r n h f = refl
    either false r n h f = f (omega (arith, h))

-- ---- the lowest call that no tour boards

pub without_served : (plan : List (List Stop)) (n : ℕ) → first_without (is_served plan) n ≡ first_unserved plan n
without_served plan zero = refl
without_served plan (suc n) = ap (λ (o : Option ℕ). first_of o (if is_served plan n then None else Some n)) (without_served plan n)

clear_number : (o later : Option ℕ) → first_of o later ≡ None → (o ≡ None) × (later ≡ None)
clear_number None later e = (refl, e)
clear_number (Some x) later e = absurd (some≢none e)

there : (b : Bool) (n : ℕ) → (if b then None else Some n) ≡ None → b ≡ true
there true n e = refl
there false n e = absurd (some≢none e)

pub without_none : (test : ℕ → Bool) (n : ℕ) → first_without test n ≡ None → (j : ℕ) → j < n → test j ≡ true
without_none test zero h j lt = absurd (omega (arith, lt))
without_none test (suc n) h j lt =
    let parts = clear_number (first_without test n) _ h in
    let le : j ≤ n = omega (arith, lt) in
    elim (eq-or-lt_of_le le) [ inl e ↦ subst (λ (x : ℕ). test x ≡ true) (sym e) (there (test n) n parts.1) | inr less ↦ without_none test n parts.0 j less ]

pub without_all : (test : ℕ → Bool) (n : ℕ) → ((j : ℕ) → j < n → test j ≡ true) → first_without test n ≡ None
without_all test zero h = refl
without_all test (suc n) h =
    ap (λ (o : Option ℕ). first_of o (if test n then None else Some n)) (without_all test n (λ j lt. h j (omega (arith, lt))))
    ∙ ap (λ (b : Bool). if b then None else Some n) (h n (omega arith))

-- the lowest one stays the lowest one further up
pub without_up : (test : ℕ → Bool) (k m : ℕ) → ((j : ℕ) → j < k → test j ≡ true) → test k ≡ false → first_without test (k + 1 + m) ≡ Some k
without_up test k zero all fails =
    let e : k + 1 + 0 ≡ suc k = omega arith in
    ap (first_without test) e ∙ ap (λ (o : Option ℕ). first_of o (if test k then None else Some k)) (without_all test k all)
    ∙ ap (λ (b : Bool). if b then None else Some k) fails
without_up test k (suc m) all fails =
    let e : k + 1 + suc m ≡ suc (k + 1 + m) = omega arith in
    ap (first_without test) e ∙ ap (λ (o : Option ℕ). first_of o (if test (k + 1 + m) then None else Some (k + 1 + m))) (without_up test k m all fails)

pub without_same : (test other : ℕ → Bool) (n : ℕ) → ((j : ℕ) → test j ≡ other j) → first_without test n ≡ first_without other n
without_same test other n same = ap (λ (t : ℕ → Bool). first_without t n) (same_function test other same)

-- ---- both ways

pub clear_unserved : (t : Snapshot) (o : Option ℕ) → unserved_of t o ≡ None → o ≡ None
clear_unserved t None h = refl
clear_unserved t (Some x) h = absurd (some≢none h)

pub feasible_where_clear : (s : Snapshot) (plan : List (List Stop)) → length plan ≡ car_count s → first_bad s plan ≡ None → IsFeasiblePlan s plan
feasible_where_clear s plan cars ok =
    let parts = clear_first (first_bad_tour s none_taken 0 plan) _ ok in
    record {
      cars = cars;
      tours = λ c lt. let e : 0 + c ≡ c = omega arith in
          subst (λ (k : ℕ). IsFeasible s k (tour_of plan c)) e (tours_fine s none_taken 0 plan parts.0 c (omega (arith, cars, lt)));
      serves_once = λ j lt.
          let most = served_once_at_most s none_taken 0 plan parts.0 j in
          let least = served_times plan j
          (without_none (is_served plan) (call_count s)
          (without_served plan (call_count s) ∙ clear_unserved s (first_unserved plan (call_count s)) parts.1) j lt) in
          omega (arith, most, least);
    }

fine_tours : (s : Snapshot) (taken : ℕ → Bool) (c : ℕ) (tours : List (List Stop)) → ((i : ℕ) → i < length tours → IsFeasible s (c + i) (tour_of tours i))
    → ((j : ℕ) → j < call_count s → one_if (taken j) + times_served tours j ≤ 1) → first_bad_tour s taken c tours ≡ None
fine_tours s taken c [] fine once = refl
fine_tours s taken c (tour ∷ tours) fine once =
    let e : c + 0 ≡ c = omega arith in
    let here = subst (λ (k : ℕ). IsFeasible s k tour) e (fine 0 (omega arith)) in
    let calls = tour_apart s c none_taken (start_of s c) 1 tour here in
    let clear = tour_beside s c taken (start_of s c) 1 tour here
    (λ j h. let more = times_more tour tours j in let most = once j (calls j h).0 in
    free (taken j) (is_boarded_in tour j) (times_served tours j) h (omega (arith, more, most))) in
    let rest = fine_tours s (with_tour taken tour) (c + 1) tours
    (λ i lt. let f : c + suc i ≡ c + 1 + i = omega arith in subst (λ (k : ℕ). IsFeasible s k (tour_of tours i)) f (fine (suc i) (omega (arith, lt))))
    (λ j lt. let more = times_more tour tours j in let most = once j lt in let join = joined_most (taken j) (is_boarded_in tour j) in
    omega (arith, more, most, join)) in
    ap (λ (o : Option Broken). first_of (broken_of_car c o) (first_bad_tour s (with_tour taken tour) (c + 1) tours)) clear ∙ rest
  where
    free : (t b : Bool) (n : ℕ) → b ≡ true → one_if t + (one_if b + n) ≤ 1 → t ≡ false
    free false b n h most = refl
    free true true n h most = absurd (omega (arith, most))
    free true false n h most = absurd (false≢true h)

    joined_most : (t b : Bool) → one_if (t || b) ≤ one_if t + one_if b
    joined_most true b = omega arith
    joined_most false true = omega arith
    joined_most false false = omega arith

pub clear_where_feasible : (s : Snapshot) (plan : List (List Stop)) → IsFeasiblePlan s plan → first_bad s plan ≡ None
clear_where_feasible s plan ok =
    let none = fine_tours s none_taken 0 plan
    (λ i lt. let e : i ≡ 0 + i = omega arith in let within = ok.cars in
    subst (λ (k : ℕ). IsFeasible s k (tour_of plan i)) e (ok.tours i (omega (arith, lt, within))))
    (λ j lt. let once = ok.serves_once j lt in omega (arith, once)) in
    let all = sym (without_served plan (call_count s))
    ∙ without_all (is_served plan) (call_count s) (λ j lt. times_is_served plan j (let once = ok.serves_once j lt in omega (arith, once))) in
    ap (λ (o : Option BadPlan). first_of o (unserved_of s (first_unserved plan (call_count s)))) none ∙ ap (unserved_of s) all

-- ---- as the cars are gone through

pub bad_here : (s : Snapshot) (taken : ℕ → Bool) (c : ℕ) (plan : List (List Stop)) (tour : List Stop) (b : Broken) → c < length plan
    → tour ≡ get_or plan c tour → first_broken_from s c taken (start_of s c) 1 tour ≡ Some b
    → first_bad_tour s taken c (drop c plan) ≡ first_bad_tour s none_taken 0 plan → first_bad s plan ≡ Some (record { car = c; stop = b.stop; rule = b.rule })
bad_here s taken c plan tour b lt is bad so_far =
    let step = tours_step s taken c plan tour lt is
    ∙ ap (λ (o : Option Broken). first_of (broken_of_car c o) (first_bad_tour s (with_tour taken tour) (c + 1) (drop (c + 1) plan))) bad in
    ap (λ (o : Option BadPlan). first_of o (unserved_of s (first_unserved plan (call_count s)))) (sym so_far ∙ step)

pub not_feasible : (s : Snapshot) (plan : List (List Stop)) (b : BadPlan) → first_bad s plan ≡ Some b → (false ≡ true → IsFeasiblePlan s plan)
    × (IsFeasiblePlan s plan → false ≡ true)
not_feasible s plan b bad = ((λ e. absurd (false≢true e)), (λ ok. absurd (some≢none (sym bad ∙ clear_where_feasible s plan ok))))

pub clear_on : (s : Snapshot) (taken new : ℕ → Bool) (c : ℕ) (plan : List (List Stop)) (tour : List Stop) → c < length plan → tour ≡ get_or plan c tour
    → first_broken_from s c taken (start_of s c) 1 tour ≡ None → ((j : ℕ) → new j ≡ (taken j || is_boarded_in tour j))
    → first_bad_tour s taken c (drop c plan) ≡ first_bad_tour s none_taken 0 plan
    → first_bad_tour s new (c + 1) (drop (c + 1) plan) ≡ first_bad_tour s none_taken 0 plan
clear_on s taken new c plan tour lt is fine new_is so_far =
    let step = tours_step s taken c plan tour lt is
    ∙ ap (λ (o : Option Broken). first_of (broken_of_car c o) (first_bad_tour s (with_tour taken tour) (c + 1) (drop (c + 1) plan))) fine in
    ap (λ (t : ℕ → Bool). first_bad_tour s t (c + 1) (drop (c + 1) plan)) (same_function new (with_tour taken tour) new_is) ∙ sym step ∙ so_far

pub served_on : (taken new : ℕ → Bool) (c : ℕ) (plan : List (List Stop)) (tour : List Stop) → c < length plan → tour ≡ get_or plan c tour
    → ((j : ℕ) → new j ≡ (taken j || is_boarded_in tour j)) → ((j : ℕ) → (taken j || is_served (drop c plan) j) ≡ is_served plan j) → (j : ℕ)
    → (new j || is_served (drop (c + 1) plan) j) ≡ is_served plan j
served_on taken new c plan tour lt is new_is so_far j =
    let rest = is_served (drop (c + 1) plan) j in
    ap (λ (b : Bool). b || rest) (new_is j) ∙ grouped (taken j) (is_boarded_in tour j) rest
    ∙ ap (λ (b : Bool). taken j || b) (sym (served_step plan c tour j lt is)) ∙ so_far j
  where
    grouped : (a b r : Bool) → ((a || b) || r) ≡ (a || (b || r))
    grouped true b r = refl
    grouped false b r = refl

-- after the last car
pub ended : (s : Snapshot) (taken : ℕ → Bool) (c : ℕ) (plan : List (List Stop)) → length plan ≤ c
    → first_bad_tour s taken c (drop c plan) ≡ first_bad_tour s none_taken 0 plan → ((j : ℕ) → (taken j || is_served (drop c plan) j) ≡ is_served plan j)
    → first_bad s plan ≡ unserved_of s (first_without taken (call_count s))
ended s taken c plan past so_far served =
    let none = drop_of_length-le plan past in
    let clear = sym so_far ∙ ap (first_bad_tour s taken c) none in
    let same = λ (j : ℕ). unchanged (taken j) ∙ ap (λ (l : List (List Stop)). taken j || is_served l j) (sym none) ∙ served j in
    ap (λ (o : Option BadPlan). first_of o (unserved_of s (first_unserved plan (call_count s)))) clear
    ∙ ap (unserved_of s) (sym (without_served plan (call_count s)) ∙ sym (without_same taken (is_served plan) (call_count s) same))
  where
    unchanged : (b : Bool) → b ≡ (b || false)
    unchanged true = refl
    unchanged false = refl
