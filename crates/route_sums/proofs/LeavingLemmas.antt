-- Who gets off at a stop, and what they cost at least.
use Rattle.std.proofs.Common.{◌≡◌, ℕ, zero, suc, ◌+◌, ◌-◌, ◌*◌, ◌<◌, ◌≤◌, Bool, true, false, cond, eqb, length, refl, ap, ◌∙◌, arith}
use Rattle.std.proofs.lemmas.Bool.{and_parts}
use Rattle.std.proofs.Math.Nat.{mul-le-mul_left}
use Rattle.call_sets.specs.Counting.{has, sum_where}
use Rattle.call_sets.proofs.Sums.{sum_below-le, sum_where-same}
use Rattle.elevator_model.specs.Costs.{cost_of_rider}
use Rattle.elevator_model.specs.Snapshot.{Snapshot, call_count, group_of}
use Rattle.elevator_model.specs.Tours.{Progress, destination_of, gets_off, rider_count}
use Rattle.car_layout.specs.Layouts.{is_group_to, moments_to, persons_to}
use Rattle.tour_rules.specs.Leaving.{AreCarried, IsKept, cost_of_call, cost_of_group, is_call_off, is_group_off, leaving_cost}
use Rattle.tour_rules.proofs.GettingOff.{off-call, off-group}
use Rattle.tour_rules.proofs.RiderSums.{sum_riders}
use Rattle.tour_rules.proofs.Settled.{cost_of_rider-call, cost_of_rider-group}
use Rattle.partial_tours.proofs.Departing.{off_there}
use Rattle.pricing_bound.specs.Costs.{rider-later}

-- ---- groups

one_ride : (p tw o b d : ℕ) → o ≤ d + b → tw * (p * o) ≤ p * (tw * d) + tw * (p * b)
one_ride p tw o b d le = let all = mul-le-mul_left (p * tw) le in omega (arith, all)

more_rides : (tw o a b d x y z : ℕ) → tw * (d * o) ≤ a + tw * b → tw * (z * o) ≤ x + tw * y → tw * ((d + z) * o) ≤ a + x + tw * (b + y)
more_rides tw o a b d x y z e f = omega (arith, e, f)

rides_low : (n : ℕ) (t : ℕ → Bool) (p b : ℕ → ℕ) (tw o : ℕ)
    → tw * (sum_where n t p * o) ≤ sum_where n t (λ k. p k * (tw * (o - b k))) + tw * sum_where n t (λ k. p k * b k)
rides_low zero t p b tw o = omega arith
rides_low (suc n) t p b tw o =
    more_rides tw o (sum_where n t (λ k. p k * (tw * (o - b k)))) (sum_where n t (λ k. p k * b k)) (sum_where n t p) (cond (t n) (p n * (tw * (o - b n))) 0)
    (cond (t n) (p n * b n) 0) (cond (t n) (p n) 0) (rides_low n t p b tw o) (by_test (t n))
  where
    by_test : (v : Bool) → tw * (cond v (p n) 0 * o) ≤ cond v (p n * (tw * (o - b n))) 0 + tw * cond v (p n * b n) 0
    by_test true = one_ride (p n) tw o (b n) (o - b n) (omega arith)
    by_test false = omega arith

whole_of : (d m all : ℕ) → d ≡ all - m → 0 < d → d + m ≡ all
whole_of d m all is lt = omega (arith, is, lt)

weighed_low : (tw d m all cost : ℕ) → d ≡ all - m → tw * all ≤ cost + tw * m → tw * d ≤ cost
weighed_low tw zero m all cost is le = omega arith
weighed_low tw (suc d) m all cost is le =
    let parts = ap (λ (n : ℕ). tw * n) (whole_of (suc d) m all is (omega arith)) in
    omega (arith, parts, le)

-- by their persons and moments the groups that get off cost no more than they do
pub groups_low : (s : Snapshot) (c visited g opened tw persons moments ridden : ℕ) → has visited g ≡ false → tw ≡ s.building.travel_weight
    → persons ≡ persons_to s.aboard c g → moments ≡ moments_to s.aboard c g → ridden ≡ persons * opened - moments
    → tw * ridden ≤ sum_where (length s.aboard) (is_group_off s c visited g) (λ k. cost_of_group s k opened)
groups_low s c visited g opened tw persons moments ridden h weight people times is =
    let same = sum_where-same (length s.aboard) (is_group_off s c visited g) (is_group_to s.aboard c g) (λ k. cost_of_group s k opened)
    (λ k. cost_of_group s k opened) (λ k lt. off_there s c visited g k h) (λ k lt e. refl) in
    let all = rides_low (length s.aboard) (is_group_to s.aboard c g) (λ k. (group_of s k).persons)
    (λ k. (group_of s k).boarded) s.building.travel_weight opened in
    let low = weighed_low s.building.travel_weight ridden (moments_to s.aboard c g) (persons_to s.aboard c g * opened)
    (sum_where (length s.aboard) (is_group_to s.aboard c g) (λ k. cost_of_group s k opened))
    (is ∙ ap (λ (n : ℕ). n * opened - moments) people ∙ ap (λ (n : ℕ). persons_to s.aboard c g * opened - n) times) all in
    let here = ap (λ (n : ℕ). n * ridden) weight in
    omega (arith, same, low, here)

-- ---- all who get off

pub leaving_parts : (s : Snapshot) (c : ℕ) (p : Progress) (g opened carried visited : ℕ) (m : ℕ → ℕ) → AreCarried s c carried visited p → IsKept s c p
    → ((j : ℕ) → j < call_count s → p.carried j ≡ true → p.boarded_at j ≡ m j)
    → leaving_cost s p g opened
    ≡ sum_where (call_count s) (is_call_off s carried g) (λ j. cost_of_call s j (m j) opened) + sum_where (length s.aboard) (is_group_off s c visited g)
    (λ k. cost_of_group s k opened)
leaving_parts s c p g opened carried visited m t kept boarded =
    sum_riders s (gets_off s p g) (λ r. cost_of_rider s r (p.boarded_at r) opened) (is_call_off s carried g) (is_group_off s c visited g)
    (λ j. cost_of_call s j (m j) opened) (λ k. cost_of_group s k opened) (off-call s c p g carried visited t)
    (λ j b e. cost_of_rider-call s j (p.boarded_at j) opened b
    ∙ ap (λ (n : ℕ). cost_of_call s j n opened) (boarded j b (and_parts (p.carried j) (eqb (destination_of s j) g) e).0))
    (off-group s c p g carried visited t) (λ k b. cost_of_rider-group s k (p.boarded_at (call_count s + k)) opened (kept.groups k))

either_later : (b : Bool) (x y : ℕ) → x ≤ y → cond b x 0 ≤ cond b y 0
either_later true x y h = h
either_later false x y h = omega arith

-- later they cost no less
pub leaving_later : (s : Snapshot) (p : Progress) (g m m' : ℕ) → m ≤ m' → leaving_cost s p g m ≤ leaving_cost s p g m'
leaving_later s p g m m' h =
    sum_below-le (rider_count s) (λ r. cond (gets_off s p g r) (cost_of_rider s r (p.boarded_at r) m) 0)
    (λ r. cond (gets_off s p g r) (cost_of_rider s r (p.boarded_at r) m') 0)
    (λ r lt. either_later (gets_off s p g r) (cost_of_rider s r (p.boarded_at r) m) (cost_of_rider s r (p.boarded_at r) m')
    (rider-later s r (p.boarded_at r) m (p.boarded_at r) m' (omega arith) (omega (arith, h))))
