-- Tours that complete nothing taken are the feasible plans.
use Rattle.std.proofs.Common.{◌≡◌, ℕ, suc, ◌+◌, ◌<◌, Bool, true, false, ◌||◌, List, [], ◌∷◌, length, refl, sym, ap, ◌∙◌, arith, Option, None}
use Rattle.elevator_model.specs.declared.Stop.{Stop}
use Rattle.elevator_model.specs.declared.Broken.{Broken}
use Rattle.elevator_model.specs.declared.BadPlan.{BadPlan}
use Rattle.call_sets.specs.Counting.{sum_below}
use Rattle.elevator_model.specs.Snapshot.{Snapshot, car_count, call_count}
use Rattle.elevator_model.specs.Tours.{start_of, first_broken_from, none_taken}
use Rattle.elevator_model.specs.Costs.{cost_of}
use Rattle.elevator_model.specs.Plans.{IsFeasiblePlan, is_boarded_in, tour_of, plan_cost_of, first_bad_tour, first_of, broken_of_car, first_unserved}
use Rattle.elevator_model.specs.Plans.{unserved_of}
use Rattle.tour_rules.proofs.BoundedTests.{same_function}
use Rattle.tour_rules.proofs.Taken.{tour_alone, tour_apart, tour_beside}
use Rattle.call_sets.proofs.Sums.{sum_below-split}
use Rattle.tour_cost.specs.Completing.{Completes, with_calls_of, rest_cost}
use Rattle.tour_cost.proofs.Judged.{is_served, clear_first, clear_car, without_served, without_all, without_none, feasible_where_clear, clear_where_feasible}
use Rattle.tour_cost.proofs.Judged.{clear_unserved}

counted : (s : Snapshot) (taken : ℕ → Bool) (c : ℕ) (plan : List (List Stop)) → Completes s taken c plan → c + length plan ≡ car_count s
counted s taken c [] done = let e = done.0 in omega (arith, e)
counted s taken c (tour ∷ plan) done = let later = counted s (with_calls_of taken tour) (c + 1) plan done.2 in omega (arith, later)

no_bad : (s : Snapshot) (taken : ℕ → Bool) (c : ℕ) (plan : List (List Stop)) → Completes s taken c plan → first_bad_tour s taken c plan ≡ None
no_bad s taken c [] done = refl
no_bad s taken c (tour ∷ plan) done =
    let clear = tour_beside s c taken (start_of s c) 1 tour done.0 done.1 in
    ap (λ (o : Option Broken). first_of (broken_of_car c o) (first_bad_tour s (with_calls_of taken tour) (c + 1) plan)) clear
    ∙ no_bad s (with_calls_of taken tour) (c + 1) plan done.2

serves : (s : Snapshot) (taken : ℕ → Bool) (c : ℕ) (plan : List (List Stop)) → Completes s taken c plan → (j : ℕ) → j < call_count s
    → (taken j || is_served plan j) ≡ true
serves s taken c [] done j lt = ap (λ (b : Bool). b || false) (done.1 j lt)
serves s taken c (tour ∷ plan) done j lt = sym (grouped (taken j) (is_boarded_in tour j) (is_served plan j))
    ∙ serves s (with_calls_of taken tour) (c + 1) plan done.2 j lt
  where
    grouped : (a b r : Bool) → ((a || b) || r) ≡ (a || (b || r))
    grouped true b r = refl
    grouped false b r = refl

pub plan_where_complete : (s : Snapshot) (plan : List (List Stop)) → Completes s none_taken 0 plan → IsFeasiblePlan s plan
plan_where_complete s plan done =
    let cars = counted s none_taken 0 plan done in
    let all = sym (without_served plan (call_count s)) ∙ without_all (is_served plan) (call_count s) (λ j lt. serves s none_taken 0 plan done j lt) in
    feasible_where_clear s plan (omega (arith, cars))
    (ap (λ (o : Option BadPlan). first_of o (unserved_of s (first_unserved plan (call_count s)))) (no_bad s none_taken 0 plan done)
    ∙ ap (unserved_of s) all)

completes_clear : (s : Snapshot) (taken : ℕ → Bool) (c : ℕ) (plan : List (List Stop)) → first_bad_tour s taken c plan ≡ None → c + length plan ≡ car_count s
    → ((j : ℕ) → j < call_count s → (taken j || is_served plan j) ≡ true) → Completes s taken c plan
completes_clear s taken c [] clear cars served = (omega (arith, cars), λ j lt. or_none (taken j) (served j lt))
  where
    or_none : (b : Bool) → (b || false) ≡ true → b ≡ true
    or_none true h = refl
    or_none false h = h
completes_clear s taken c (tour ∷ plan) clear cars served =
    let parts = clear_first (broken_of_car c (first_broken_from s c taken (start_of s c) 1 tour)) _ clear in
    let fine = clear_car c _ parts.0 in (
      tour_alone s c taken (start_of s c) 1 tour fine,
      (λ j h. (tour_apart s c taken (start_of s c) 1 tour fine j h).1),
      completes_clear s (with_calls_of taken tour) (c + 1) plan parts.1 (omega (arith, cars))
          (λ j lt. grouped (taken j) (is_boarded_in tour j) (is_served plan j) ∙ served j lt),
    )
  where
    grouped : (a b r : Bool) → ((a || b) || r) ≡ (a || (b || r))
    grouped true b r = refl
    grouped false b r = refl

pub complete_where_plan : (s : Snapshot) (plan : List (List Stop)) → IsFeasiblePlan s plan → Completes s none_taken 0 plan
complete_where_plan s plan feasible =
    let parts = clear_first (first_bad_tour s none_taken 0 plan) _ (clear_where_feasible s plan feasible) in
    let cars = feasible.cars in
    completes_clear s none_taken 0 plan parts.0 (omega (arith, cars))
    (λ j lt. without_none (is_served plan) (call_count s)
    (without_served plan (call_count s) ∙ clear_unserved s (first_unserved plan (call_count s)) parts.1) j lt)

costs_from : (s : Snapshot) (c : ℕ) (plan : List (List Stop)) → sum_below (length plan) (λ i. cost_of s (c + i) (tour_of plan i)) ≡ rest_cost s c plan
costs_from s c [] = refl
costs_from s c (tour ∷ plan) =
    let f : ℕ → ℕ = λ i. cost_of s (c + i) (tour_of (tour ∷ plan) i) in
    let e : length (tour ∷ plan) ≡ 1 + length plan = omega arith in
    let first : c + 0 ≡ c = omega arith in
    let here = ap (λ (k : ℕ). cost_of s k tour) first in
    let split = ap (λ (n : ℕ). sum_below n f) e ∙ sum_below-split 1 (length plan) f in
    let later = sum_same (length plan) (λ i. f (1 + i)) (λ i. cost_of s (c + 1 + i) (tour_of plan i))
    (λ i. let up : 1 + i ≡ suc i = omega arith in let on : c + (1 + i) ≡ c + 1 + i = omega arith in
    ap (λ (k : ℕ). cost_of s (c + (1 + i)) (tour_of (tour ∷ plan) k)) up ∙ ap (λ (k : ℕ). cost_of s k (tour_of plan i)) on) in
    let rest = costs_from s (c + 1) plan in
    let whole : sum_below (length (tour ∷ plan)) f ≡ 0 + cost_of s (c + 0) tour + sum_below (length plan) (λ i. f (1 + i)) = split in
    omega (arith, whole, here, later, rest)
  where
    sum_same : (n : ℕ) (f g : ℕ → ℕ) → ((i : ℕ) → f i ≡ g i) → sum_below n f ≡ sum_below n g
    sum_same n f g h = ap (sum_below n) (same_function f g h)

pub plan_costs : (s : Snapshot) (plan : List (List Stop)) → length plan ≡ car_count s → plan_cost_of s plan ≡ rest_cost s 0 plan
plan_costs s plan cars =
    let same = same_function (λ c. cost_of s c (tour_of plan c)) (λ c. cost_of s (0 + c) (tour_of plan c))
    (λ c. let e : c ≡ 0 + c = omega arith in ap (λ (k : ℕ). cost_of s k (tour_of plan c)) e) in
    ap (λ (n : ℕ). sum_below n (λ c. cost_of s c (tour_of plan c))) (sym cars) ∙ ap (sum_below (length plan)) same ∙ costs_from s 0 plan
