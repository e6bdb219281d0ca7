-- A plain plan is feasible, and there is one.
use Rattle.std.proofs.Common.{◌==◌, ◌≡◌, ℕ, zero, suc, ◌+◌, ◌<◌, Bool, cond, ◌&&◌, eqb, List, [], ◌∷◌, length, refl, sym, ap, ◌∙◌, subst, arith, None}
use Rattle.elevator_model.specs.declared.Stop.{Stop}
use Rattle.call_sets.specs.Counting.{sum_where}
use Rattle.elevator_model.specs.Snapshot.{Snapshot, IsAccepted, call_count, call_of, car_count, is_possible, state_of}
use Rattle.elevator_model.specs.Tours.{IsFeasible}
use Rattle.elevator_model.specs.Plans.{is_boarded_in, tour_of, times_served, IsFeasiblePlan}
use Rattle.call_sets.proofs.Sums.{sum_below-same, sum_where-one}
use Rattle.plain_plan.specs.Openings.{IsPlainTour, lowest, opening_of}
use Rattle.plain_plan.specs.PlainTours.{opened}
use Rattle.plain_plan.specs.PlainPlans.{order_of, AreChosen, calls_for, IsPlainPlan}
use Rattle.plain_plan.proofs.Serving.{plain_fine, boarded_opened}
use Rattle.plain_plan.proofs.Floors.{lowest_passes, opening_holds}
use Rattle.plain_plan.proofs.Orders.{order_has, among_filter, calls_servable}

tour_feasible : (s : Snapshot) (chosen : ℕ → ℕ) (c : ℕ) (tour : List Stop) → IsAccepted s → AreChosen s chosen
    → IsPlainTour s c (calls_for chosen c (order_of s (call_count s))) tour → IsFeasible s c tour
tour_feasible s chosen c tour ok may plain =
    let js = calls_for chosen c (order_of s (call_count s)) in
    subst (IsFeasible s c) (sym plain.2) (plain_fine s c plain.0 js ok plain.1 (calls_servable s chosen c may))

tour_boards : (s : Snapshot) (chosen : ℕ → ℕ) (c j : ℕ) (tour : List Stop) → j < call_count s
    → IsPlainTour s c (calls_for chosen c (order_of s (call_count s))) tour → is_boarded_in tour j ≡ eqb (chosen j) c
tour_boards s chosen c j tour below plain =
    let order = order_of s (call_count s) in
    ap (λ (t : List Stop). is_boarded_in t j) plain.2 ∙ boarded_opened s None plain.0 (calls_for chosen c order) j ∙ among_filter (λ i. chosen i == c) order j
    ∙ ap (λ (b : Bool). b && (chosen j == c)) (order_has s (call_count s) j below)

-- A plain plan is feasible.
pub plain_feasible : (s : Snapshot) (chosen : ℕ → ℕ) (plan : List (List Stop)) → IsAccepted s → AreChosen s chosen → IsPlainPlan s chosen plan
    → IsFeasiblePlan s plan
plain_feasible s chosen plan ok may plain = record {
  cars = plain.cars;
  tours = λ c below. tour_feasible s chosen c (tour_of plan c) ok may (plain.tours c below);
  serves_once = once;
}
  where
    once : (j : ℕ) → j < call_count s → times_served plan j ≡ 1
    once j below =
        ap (λ (n : ℕ). sum_where n (λ c. is_boarded_in (tour_of plan c) j) (λ _. 1)) plain.cars
        ∙ sum_below-same (car_count s) (λ c. cond (is_boarded_in (tour_of plan c) j) 1 0) (λ c. cond (eqb (chosen j) c) 1 0)
        (λ c lt. ap {B = ℕ} (λ (b : Bool). cond b 1 0) (tour_boards s chosen c j (tour_of plan c) below (plain.tours c lt)))
        ∙ sum_where-one (car_count s) (λ _. 1) (chosen j) (may j below).0

-- ---- there is one

abbrev listed : (a m : ℕ) → (ℕ → List Stop) → List (List Stop)
listed a zero f = []
listed a (suc m) f = f a ∷ listed (a + 1) m f

listed-length : (a m : ℕ) (f : ℕ → List Stop) → length (listed a m f) ≡ m
listed-length a zero f = refl
listed-length a (suc m) f = let e = listed-length (a + 1) m f in omega (arith, e)

listed-at : (a m : ℕ) (f : ℕ → List Stop) (k : ℕ) → k < m → tour_of (listed a m f) k ≡ f (a + k)
listed-at a zero f k lt = absurd (omega arith)
listed-at a (suc m) f zero lt = let e : a + 0 ≡ a = omega arith in sym (ap f e)
listed-at a (suc m) f (suc k) lt = let e : a + 1 + k ≡ a + suc k = omega arith in listed-at (a + 1) m f k (omega arith) ∙ ap f e

-- each call goes to its lowest possible car
abbrev lowest_car : Snapshot → ℕ → ℕ
lowest_car s j = lowest (car_count s) (λ c. is_possible s c (call_of s j))

lowest_chosen : (s : Snapshot) → IsAccepted s → AreChosen s (lowest_car s)
lowest_chosen s ok j below = lowest_passes (car_count s) (λ c. is_possible s c (call_of s j)) (ok.calls j below).possible

abbrev lowest_tour : Snapshot → ℕ → List Stop
lowest_tour s c = opened s None (opening_of s c (state_of s c)) (calls_for (lowest_car s) c (order_of s (call_count s)))

lowest_plain : (s : Snapshot) → IsAccepted s → IsPlainPlan s (lowest_car s) (listed 0 (car_count s) (lowest_tour s))
lowest_plain s ok = record {
  cars = listed-length 0 (car_count s) (lowest_tour s);
  tours = λ c below. let e : 0 + c ≡ c = omega arith in
      (opening_of s c (state_of s c), opening_holds s c ok below, listed-at 0 (car_count s) (lowest_tour s) c below ∙ ap (lowest_tour s) e);
}

-- Each accepted snapshot has a feasible plan.
pub plan_exists : (s : Snapshot) → IsAccepted s → (plan : List (List Stop)) × IsFeasiblePlan s plan
plan_exists s ok =
    let plan = listed 0 (car_count s) (lowest_tour s) in
    (plan, plain_feasible s (lowest_car s) plan ok (lowest_chosen s ok) (lowest_plain s ok))
