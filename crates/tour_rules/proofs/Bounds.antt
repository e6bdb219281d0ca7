-- How great costs can be.
use Rattle.std.proofs.Common.{◌≡◌, ℕ, ◌+◌, ◌-◌, ◌*◌, ◌<◌, ◌≤◌, Bool, true, false, cond, not, ◌||◌, eqb, ltb, length, refl, ap, ◌∙◌, inl, inr, arith}
use Rattle.std.proofs.Math.Nat.{mul-le-mul_left, mul-le-mul_right}
use Rattle.std.proofs.lemmas.Bool.{and_parts, or_cases, or_left, or_right, cases_Bool, ltb-true, ltb-false, lt-ltb, cond_both}
use Rattle.elevator_model.specs.declared.Stop.{Stop}
use Rattle.call_sets.specs.Counting.{sum_where}
use Rattle.elevator_model.specs.Building.{Building, IsBuilding}
use Rattle.elevator_model.specs.Snapshot.{Snapshot, call_count, call_of, group_of, car_count, persons_aboard, IsAccepted}
use Rattle.elevator_model.specs.Tours.{Progress, rider_count, persons_of, is_aboard, start_of, make_stop, boards_at, gets_off}
use Rattle.elevator_model.specs.Costs.{cost_of_wait, cost_of_rider, is_delivered, settled_cost}
use Rattle.call_sets.proofs.Counts.{count-le}
use Rattle.tour_rules.specs.Leaving.{IsKept, AreEarly}
use Rattle.call_sets.proofs.Sums.{sum_where-times}
use Rattle.tour_rules.proofs.RiderSums.{is_call, is_no_call, is_aboard-call, is_aboard-group, sum_riders}
use Rattle.tour_rules.proofs.Stops.{most_calls_few, groups_few}

pub weighed : (w x most : ℕ) → w ≤ 1000 → x ≤ most → w * x ≤ 1000 * most
weighed w x most hw hx =
    let a = mul-le-mul_left w hx in
    let b = mul-le-mul_right most hw in
    omega (arith, a, b)

pub shared : (n x most : ℕ) → n ≤ 8 → x ≤ most → n * x ≤ 8 * most
shared n x most hn hx =
    let a = mul-le-mul_left n hx in
    let b = mul-le-mul_right most hn in
    omega (arith, a, b)

pub cost_of_wait-le : (b : Building) (wait : ℕ) → IsBuilding b → wait ≤ 100000000000 → cost_of_wait b wait ≤ 200000000000000
cost_of_wait-le b wait built h =
    let x = weighed b.wait_weight wait 100000000000 built.wait_weight h in
    let y = weighed b.patience_weight (wait - b.patience) 100000000000 built.patience_weight (omega arith) in
    omega (arith, x, y)

pub ride-le : (b : Building) (boarded delivered : ℕ) → IsBuilding b → delivered ≤ 100000000000 → b.travel_weight * (delivered - boarded) ≤ 100000000000000
ride-le b boarded delivered built h =
    let x = weighed b.travel_weight (delivered - boarded) 100000000000 built.travel_weight (omega arith) in
    omega (arith, x)

pub persons-le : (s : Snapshot) (r : ℕ) → IsAccepted s → r < rider_count s → persons_of s r ≤ 8
persons-le s r a b =
    elim (cases_Bool (ltb r (call_count s))) [
      | inl e ↦ (let same = ap (λ (x : Bool). cond x (call_of s r).persons (group_of s (r - call_count s)).persons) e in
          let high = (a.calls r (ltb-true r (call_count s) e)).persons_high in omega (arith, same, high))
      | inr e ↦ (let same = ap (λ (x : Bool). cond x (call_of s r).persons (group_of s (r - call_count s)).persons) e in
          let above = ltb-false r (call_count s) e in let high = (a.groups (r - call_count s) (omega (arith, above))).persons_high in omega (arith, same, high))
    ]

wait_or_nothing : (t : Bool) (x most : ℕ) → x ≤ most → cond t x 0 ≤ most
wait_or_nothing true x most h = h
wait_or_nothing false x most h = omega arith

pub rider-le : (s : Snapshot) (r boarded delivered : ℕ) → IsAccepted s → r < rider_count s → boarded ≤ 100000000000 → delivered ≤ 100000000000
    → cost_of_rider s r boarded delivered ≤ 2400000000000000
rider-le s r boarded delivered a b hb hd =
    let waits = wait_or_nothing (ltb r (call_count s)) (cost_of_wait s.building (boarded - (call_of s r).released)) 200000000000000
    (cost_of_wait-le s.building (boarded - (call_of s r).released) a.building (omega arith)) in
    let rides = ride-le s.building boarded delivered a.building hd in
    let each = shared (persons_of s r)
    (cond (ltb r (call_count s)) (cost_of_wait s.building (boarded - (call_of s r).released)) 0 + s.building.travel_weight * (delivered - boarded))
    300000000000000 (persons-le s r a b) (omega (arith, waits, rides)) in
    omega (arith, each)

-- those who may ride with the car: the calls, and its groups
abbrev may_ride : Snapshot → ℕ → ℕ → Bool
may_ride s c r = ltb r (call_count s) || is_aboard s c r

may_ride-count : (s : Snapshot) (c : ℕ) → IsAccepted s → c < car_count s → sum_where (rider_count s) (may_ride s c) (λ _. 1) ≤ 192
may_ride-count s c a b =
    let all = sum_riders s (may_ride s c) (λ _. 1) (λ _. true) (λ k. eqb (group_of s k).car c) (λ _. 1) (λ _. 1)
    (λ j d. or_left (ltb j (call_count s)) (is_aboard s c j) (is_call s j d)) (λ j d e. refl)
    (λ k d. ap (λ (x : Bool). x || is_aboard s c (call_count s + k)) (is_no_call s k) ∙ is_aboard-group s c k d) (λ k d. refl) in
    let groups = sum_riders s (is_aboard s c) (λ _. 1) (λ _. false) (λ k. eqb (group_of s k).car c) (λ _. 1) (λ _. 1) (is_aboard-call s c) (λ j d e. refl)
    (is_aboard-group s c) (λ k d. refl) in
    let few_groups = groups_few s c a b in
    let few = count-le (call_count s) (λ _. true) in
    let calls = most_calls_few s a in
    omega (arith, all, groups, few_groups, few, calls)

pub settled-le : (s : Snapshot) (c : ℕ) (p : Progress) → IsAccepted s → c < car_count s → IsKept s c p → AreEarly s p → settled_cost s c p ≤ 460800000000000000
settled-le s c p a b kept early =
    let each = sum_where-times (rider_count s) (is_delivered s c p) (may_ride s c) (λ r. cost_of_rider s r (p.boarded_at r) (p.delivered_at r))
    (λ _. 1) 2400000000000000 (λ r d e. rode r (and_parts (p.boarded r || is_aboard s c r) (not (p.carried r)) e).0)
    (λ r d e. let one = rider-le s r (p.boarded_at r) (p.delivered_at r) a d (early.boarded r d) (early.delivered r) in omega (arith, one)) in
    let few = may_ride-count s c a b in
    omega (arith, each, few)
  where
    rode : (r : ℕ) → (p.boarded r || is_aboard s c r) ≡ true → may_ride s c r ≡ true
    rode r h = elim (or_cases (p.boarded r) (is_aboard s c r) h) [
      | inl e ↦ or_left (ltb r (call_count s)) (is_aboard s c r) (lt-ltb r (call_count s) (kept.calls r e))
      | inr e ↦ or_right (ltb r (call_count s)) (is_aboard s c r) e
    ]

-- ---- the moments of riders

pub either-le : (t : Bool) (x y most : ℕ) → x ≤ most → y ≤ most → cond t x y ≤ most
either-le true x y most hx hy = hx
either-le false x y most hx hy = hy

pub group_boarded-le : (s : Snapshot) (k : ℕ) → IsAccepted s → k < length s.aboard → (group_of s k).boarded ≤ 100000000000
group_boarded-le s k a b =
    let group = a.groups k b in
    let opening = (a.building.cars (group_of s k).car group.car).opening in
    omega (arith, group.boarded, opening, a.moment)

pub AreEarly-start : (s : Snapshot) (c : ℕ) → IsAccepted s → AreEarly s (start_of s c)
AreEarly-start s c a = record {
  boarded = λ r b. cond_both (ltb r (call_count s)) 0 (group_of s (r - call_count s)).boarded (λ x. x ≤ 100000000000) (λ e. omega arith)
      (λ e. let above = ltb-false r (call_count s) e in group_boarded-le s (r - call_count s) a (omega (arith, above)));
  delivered = λ r. omega arith;
}

pub AreEarly-stop : (s : Snapshot) (c : ℕ) (p : Progress) (stop : Stop) → AreEarly s p → (make_stop s c p stop).opened ≤ 100000000000
    → AreEarly s (make_stop s c p stop)
AreEarly-stop s c p stop early h = record {
  boarded = λ r b. either-le (boards_at s stop r) (make_stop s c p stop).opened (p.boarded_at r) 100000000000 h (early.boarded r b);
  delivered = λ r. either-le (gets_off s p stop.floor r) (make_stop s c p stop).opened (p.delivered_at r) 100000000000 h (early.delivered r);
}

pub aboard-le : (s : Snapshot) (c : ℕ) → IsAccepted s → c < car_count s → persons_aboard s c ≤ 64
aboard-le s c a b = let fits = (a.placed c b).capacity in let high = (a.building.cars c b).capacity_high in omega (arith, fits, high)
