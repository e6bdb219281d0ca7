-- Feasible tours and plans: which calls board, and that every feasible plan is in the root.
use Rattle.std.proofs.Common.{◌≡◌, ℕ, ◌+◌, ◌<◌, Bool, true, false, not, List, [], ◌∷◌, ◌++◌, length, refl, sym, ap, ◌∙◌, subst, inl, inr}
use Rattle.std.specs.Prelude.{Option, Some, None, nat_lt}
use Rattle.std.proofs.lemmas.Bool.{cases_Bool, both_ways, and_parts, or_cases, ltb-true, not-false, false_from_ne_true, cond-false, cond-true}
use Rattle.std.proofs.lemmas.List.{get_or-map, length-map}
use Rattle.elevator_model.specs.declared.Call.{Call}
use Rattle.elevator_model.specs.declared.Stop.{Stop}
use Rattle.elevator_model.specs.declared.Broken.{Broken}
use Rattle.elevator_model.specs.declared.Rule.{Rule}
use Rattle.elevator_model.specs.declared.Rule.TheVariants.{FirstStop, SameFloorTwice, UselessStop, TurnWithPassengers, Capacity, QueueOrder, Car, Floor}
use Rattle.elevator_model.specs.declared.Rule.TheVariants.{CallTwice, Origin}
use Rattle.call_sets.specs.Counting.{has, is_among}
use Rattle.call_sets.proofs.ListTests.{list_any-false}
use Rattle.elevator_model.specs.Snapshot.{Snapshot, car_count, call_count, call_of, no_call, is_possible}
use Rattle.elevator_model.specs.Tours.{Progress, IsFeasible, start_of, make_stop, breaks, none_taken, first_rule, broken_at, broken_or, first_broken_from}
use Rattle.elevator_model.specs.Tours.{is_call_for}
use Rattle.elevator_model.specs.Plans.{IsFeasiblePlan, is_boarded_in, tour_of}
use Rattle.search_model.specs.Nodes.{set_of, set_where, root_of, is_plan_in}
use Rattle.search_model.proofs.SetLemmas.{has-set_where}
use Rattle.search_model.proofs.NodeLemmas.{within-to}

-- no rule of the list is broken
first_rule-none : (broken : Rule → Bool) (before : List Rule) (rule : Rule) (after : List Rule) → first_rule broken (before ++ rule ∷ after) ≡ None
    → broken rule ≡ false
first_rule-none broken [] rule after h =
    false_from_ne_true (broken rule)
    (λ e. let some = cond-true (broken rule) (Some rule) (first_rule broken after) e in let clash : Some rule ≡ None = sym some ∙ h in cc)
first_rule-none broken (x ∷ before) rule after h =
    elim (cases_Bool (broken x)) [
      | inl e ↦ (let some = cond-true (broken x) (Some x) (first_rule broken (before ++ rule ∷ after)) e in let clash : Some x ≡ None = sym some ∙ h in cc)
      | inr e ↦ first_rule-none broken before rule after (sym (cond-false (broken x) (Some x) (first_rule broken (before ++ rule ∷ after)) e) ∙ h)
    ]

broken_or-here : (r : Option Rule) (k : ℕ) (later : Option Broken) → broken_or r k later ≡ None → r ≡ None
broken_or-here None k later h = refl
broken_or-here (Some rule) k later h = let found : Broken = record { stop = k; rule = rule } in let clash : Some found ≡ None = h in cc

broken_or-later : (r : Option Rule) (k : ℕ) (later : Option Broken) → broken_or r k later ≡ None → later ≡ None
broken_or-later None k later h = h
broken_or-later (Some rule) k later h = let found : Broken = record { stop = k; rule = rule } in let clash : Some found ≡ None = h in cc

boarded-after : (s : Snapshot) (c : ℕ) (p : Progress) (k : ℕ) (tour : List Stop) (j : ℕ) → first_broken_from s c none_taken p k tour ≡ None
    → is_boarded_in tour j ≡ true → is_call_for s c j ≡ true
boarded-after s c p k [] j h boards = absurd (both_ways false refl boards)
boarded-after s c p k (stop ∷ stops) j h boards =
    elim (or_cases (is_among j stop.boards) (is_boarded_in stops j) boards) [
      | inl here ↦ not-false (is_call_for s c j)
          (list_any-false (λ i. not (is_call_for s c i)) stop.boards j
          (first_rule-none (breaks s c none_taken p stop) (FirstStop ∷ SameFloorTwice ∷ UselessStop ∷ TurnWithPassengers ∷ Capacity ∷ QueueOrder ∷ []) Car
          (Floor ∷ CallTwice ∷ Origin ∷ [])
          (broken_or-here (broken_at s c none_taken p stop) k (first_broken_from s c none_taken (make_stop s c p stop) (k + 1) stops) h)) here)
      | inr later ↦ boarded-after s c (make_stop s c p stop) (k + 1) stops j
          (broken_or-later (broken_at s c none_taken p stop) k (first_broken_from s c none_taken (make_stop s c p stop) (k + 1) stops) h) later
    ]

-- a feasible tour boards calls of the snapshot of which the car is a possible car
pub boarded-possible : (s : Snapshot) (c : ℕ) (tour : List Stop) (j : ℕ) → IsFeasible s c tour → is_boarded_in tour j ≡ true → is_call_for s c j ≡ true
boarded-possible s c tour j h boards = boarded-after s c (start_of s c) 1 tour j h boards

pub boarded-below : (s : Snapshot) (c : ℕ) (tour : List Stop) (j : ℕ) → IsFeasible s c tour → is_boarded_in tour j ≡ true → j < call_count s
boarded-below s c tour j h boards =
    ltb-true j (call_count s) (and_parts (nat_lt j (call_count s)) (is_possible s c (call_of s j)) (boarded-possible s c tour j h boards)).0

pub length-root_of : (s : Snapshot) → length (root_of s) ≡ call_count s
length-root_of s = length-map s.calls (λ (call : Call). set_where (car_count s) (λ c. is_possible s c call))

-- every feasible plan is in the root
pub plan_in_root : (s : Snapshot) (plan : List (List Stop)) → IsFeasiblePlan s plan → is_plan_in (root_of s) plan ≡ true
plan_in_root s plan feasible =
    within-to (root_of s) plan
    (record { at = λ j c lt in' boards. at_car j c (subst (λ (n : ℕ). j < n) (length-root_of s) lt) (subst (λ (n : ℕ). c < n) feasible.cars in') boards })
  where
    at_car : (j c : ℕ) → j < call_count s → c < car_count s → is_boarded_in (tour_of plan c) j ≡ true → has (set_of (root_of s) j) c ≡ true
    at_car j c lt in' boards =
        ap (λ (x : ℕ). has x c) (get_or-map (λ (call : Call). set_where (car_count s) (λ d. is_possible s d call)) s.calls j no_call 0 lt)
        ∙ has-set_where (car_count s) (λ d. is_possible s d (call_of s j)) c in'
        ∙ (and_parts (nat_lt j (call_count s)) (is_possible s c (call_of s j)) (boarded-possible s c (tour_of plan c) j (feasible.tours c in') boards)).1
