-- A plan's cost is small, since each call is in one tour alone.
use Rattle.std.proofs.Common.{◌≡◌, ℕ, zero, suc, ◌+◌, ◌*◌, ◌<◌, ◌≤◌, Bool, true, false, cond, not, ◌||◌, eqb, List, [], ◌∷◌, length, refl, sym, ap, ◌∙◌, inl}
use Rattle.std.proofs.Common.{inr, arith}
use Rattle.std.proofs.Math.Nat.{mul-le-mul_left}
use Rattle.std.proofs.lemmas.Bool.{and_parts, or_cases, both_ways}
use Rattle.elevator_model.specs.declared.Stop.{Stop}
use Rattle.elevator_model.specs.Building.{most_cars}
use Rattle.call_sets.specs.Counting.{is_among, sum_below, sum_where}
use Rattle.elevator_model.specs.Snapshot.{Snapshot, call_count, group_of, car_count, IsAccepted}
use Rattle.elevator_model.specs.Tours.{Progress, is_aboard, make_stop, after_stops, start_of}
use Rattle.elevator_model.specs.Costs.{cost_of_rider, is_delivered, settled_cost, cost_of}
use Rattle.elevator_model.specs.Plans.{IsFeasiblePlan, is_boarded_in, tour_of}
use Rattle.call_sets.proofs.Counts.{count-same}
use Rattle.tour_rules.specs.Leaving.{IsKept, AreEarly}
use Rattle.tour_cost.specs.Served.{calls_served}
use Rattle.call_sets.proofs.Sums.{sum_below-split, sum_below-add, sum_where-times}
use Rattle.tour_rules.proofs.RiderSums.{is_aboard-call, is_aboard-group}
use Rattle.tour_rules.proofs.GettingOff.{boards_at-call}
use Rattle.tour_cost.proofs.Short.{calls-le}
use Rattle.tour_rules.proofs.Bounds.{aboard-le, rider-le}
use Rattle.tour_rules.proofs.Settled.{cost_of_rider-group}
use Rattle.tour_rules.proofs.Groups.{group_cost-le}

-- the cost of those who got off, by the calls that boarded
pub settled-each : (s : Snapshot) (c : ℕ) (p : Progress) → IsAccepted s → c < car_count s → IsKept s c p → AreEarly s p
    → settled_cost s c p ≤ 2400000000000000 * sum_where (call_count s) p.boarded (λ _. 1) + 6400000000000000
settled-each s c p a b kept early =
    let n = call_count s in
    let f : ℕ → ℕ = λ r. cost_of_rider s r (p.boarded_at r) (p.delivered_at r) in
    let split = sum_below-split n (length s.aboard) (λ r. cond (is_delivered s c p r) (f r) 0) in
    let calls = sum_where-times n (is_delivered s c p) p.boarded f (λ _. 1) 2400000000000000
    (λ j d e. rode_call j d (and_parts (p.boarded j || is_aboard s c j) (not (p.carried j)) e).0)
    (λ j d e. let one = rider-le s j (p.boarded_at j) (p.delivered_at j) a (omega arith) (early.boarded j (omega arith)) (early.delivered j) in
    omega (arith, one)) in
    let groups = sum_where-times (length s.aboard) (λ k. is_delivered s c p (n + k)) (λ k. eqb (group_of s k).car c) (λ k. f (n + k))
    (λ k. (group_of s k).persons) 100000000000000
    (λ k d e. rode_group k d (and_parts (p.boarded (n + k) || is_aboard s c (n + k)) (not (p.carried (n + k))) e).0)
    (λ k d e. let one = group_cost-le s.building (group_of s k) (p.delivered_at (n + k)) a.building (early.delivered (n + k)) in
    let same = cost_of_rider-group s k (p.boarded_at (n + k)) (p.delivered_at (n + k)) (kept.groups k) in omega (arith, one, same)) in
    let few = aboard-le s c a b in
    let most = mul-le-mul_left 100000000000000 few in
    omega (arith, split, calls, groups, most)
  where
    rode_call : (j : ℕ) → j < call_count s → (p.boarded j || is_aboard s c j) ≡ true → p.boarded j ≡ true
    rode_call j d h = elim (or_cases (p.boarded j) (is_aboard s c j) h) [ inl e ↦ e | inr e ↦ absurd (both_ways (is_aboard s c j) (is_aboard-call s c j d) e) ]

    rode_group : (k : ℕ) → k < length s.aboard → (p.boarded (call_count s + k) || is_aboard s c (call_count s + k)) ≡ true → eqb (group_of s k).car c ≡ true
    rode_group k d h = elim (or_cases (p.boarded (call_count s + k)) (is_aboard s c (call_count s + k)) h) [
      | inl e ↦ (let below = kept.calls (call_count s + k) e in absurd (omega arith))
      | inr e ↦ sym (is_aboard-group s c k d) ∙ e
    ]

or_both : (a x b : Bool) → ((a || x) || b) ≡ (a || (x || b))
or_both true x b = refl
or_both false x b = refl

or_none : (a : Bool) → a ≡ (a || false)
or_none true = refl
or_none false = refl

boarded-after : (s : Snapshot) (c : ℕ) (p : Progress) (stops : List Stop) (j : ℕ) → j < call_count s
    → (after_stops s c p stops).boarded j ≡ (p.boarded j || is_boarded_in stops j)
boarded-after s c p [] j b = or_none (p.boarded j)
boarded-after s c p (st ∷ stops) j b =
    boarded-after s c (make_stop s c p st) stops j b ∙ ap (λ (x : Bool). (p.boarded j || x) || is_boarded_in stops j) (boards_at-call s st j b)
    ∙ or_both (p.boarded j) (is_among j st.boards) (is_boarded_in stops j)

boarded-end : (s : Snapshot) (c : ℕ) (tour : List Stop) → sum_where (call_count s) (after_stops s c (start_of s c) tour).boarded (λ _. 1) ≡ calls_served s tour
boarded-end s c tour = count-same (call_count s) (after_stops s c (start_of s c) tour).boarded (is_boarded_in tour)
    (λ j b. boarded-after s c (start_of s c) tour j b)

pub tour_cost-each : (s : Snapshot) (c : ℕ) (tour : List Stop) (cost : ℕ) → IsAccepted s → c < car_count s → IsKept s c (after_stops s c (start_of s c) tour)
    → AreEarly s (after_stops s c (start_of s c) tour) → cost ≡ cost_of s c tour → cost ≤ 2400000000000000 * calls_served s tour + 6400000000000000
tour_cost-each s c tour cost a b kept early same =
    let each = settled-each s c (after_stops s c (start_of s c) tour) a b kept early in
    let served = ap (λ (n : ℕ). 2400000000000000 * n) (boarded-end s c tour) in
    omega (arith, each, served, same)

-- a sum of sums, the other way round
sums_swapped : (n m : ℕ) (f : ℕ → ℕ → ℕ) → sum_below n (λ i. sum_below m (f i)) ≡ sum_below m (λ j. sum_below n (λ i. f i j))
sums_swapped zero m f = sym (all_zero m)
  where
    all_zero : (k : ℕ) → sum_below k (λ j. 0) ≡ 0
    all_zero zero = refl
    all_zero (suc k) = let r = all_zero k in omega (arith, r)
sums_swapped (suc n) m f =
    let r = sums_swapped n m f in
    let both = sum_below-add m (λ j. sum_below n (λ i. f i j)) (f n) in
    omega (arith, r, both)

all_one : (n : ℕ) (f : ℕ → ℕ) → ((j : ℕ) → j < n → f j ≡ 1) → sum_below n f ≡ n
all_one zero f h = refl
all_one (suc n) f h = let r = all_one n f (λ j b. h j (omega arith)) in let here = h n (omega arith) in omega (arith, r, here)

-- the tours of a feasible plan serve each call once
pub served-once : (s : Snapshot) (plan : List (List Stop)) → IsFeasiblePlan s plan
    → sum_below (car_count s) (λ c. calls_served s (tour_of plan c)) ≡ call_count s
served-once s plan feasible =
    sums_swapped (car_count s) (call_count s) (λ c j. cond (is_boarded_in (tour_of plan c) j) 1 0)
    ∙ all_one (call_count s) (λ j. sum_below (car_count s) (λ c. cond (is_boarded_in (tour_of plan c) j) 1 0))
    (λ j b. ap (λ (n : ℕ). sum_below n (λ c. cond (is_boarded_in (tour_of plan c) j) 1 0)) (sym feasible.cars) ∙ feasible.serves_once j b)

pub most_cars-le : (version : ℕ) → most_cars version ≤ 16
most_cars-le version = elim (eqb version 1) as (λ t. cond t 8 16 ≤ 16) [ true ↦ omega arith | false ↦ omega arith ]

pub cars-le : (s : Snapshot) → IsAccepted s → car_count s ≤ 16
cars-le s a = let high : car_count s ≤ most_cars s.building.version = a.building.cars_high in let m = most_cars-le s.building.version in omega arith

-- the sum over all cars is small
pub plan-small : (s : Snapshot) (plan : List (List Stop)) (total n : ℕ) → IsAccepted s → IsFeasiblePlan s plan → n ≡ car_count s
    → total ≤ 2400000000000000 * sum_below n (λ c. calls_served s (tour_of plan c)) + 6400000000000000 * n → total < 1000000000000000000
plan-small s plan total n a feasible all h =
    let whole = ap (λ (m : ℕ). 2400000000000000 * sum_below m (λ c. calls_served s (tour_of plan c))) all in
    let once = ap (λ (m : ℕ). 2400000000000000 * m) (served-once s plan feasible) in
    let calls = calls-le s a in
    let cars = cars-le s a in
    omega (arith, h, whole, once, calls, cars, all)
