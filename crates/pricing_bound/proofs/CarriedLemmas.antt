-- What those carried cost if the car went straight on: the groups floor by floor.
use Rattle.std.proofs.Common.{◌≡◌, ◌==◌, ℕ, zero, suc, ◌+◌, ◌-◌, ◌*◌, ◌<◌, ◌≤◌, Bool, true, false, cond, not, ◌&&◌, length, List, ◌∷◌, refl, sym, ap, ◌∙◌}
use Rattle.std.proofs.Common.{subst, inl, inr, arith, Option, Some}
use Rattle.std.proofs.lemmas.Bool.{and_parts, and_right, false≢true, eqb-true, ltb-true, or_cases}
use Rattle.call_sets.specs.Counting.{has, sum_below, sum_where}
use Rattle.call_sets.proofs.BelowTests.{any_below-false, any_below-true}
use Rattle.call_sets.proofs.Sums.{sum_below-same, sum_below-zero, sum_below-add, sum_below-split, sum_where-same, sum_where-none, sum_where-one}
use Rattle.elevator_model.specs.Building.{floor_count}
use Rattle.elevator_model.specs.Snapshot.{Snapshot, IsAccepted, call_count, group_of, spec_of}
use Rattle.elevator_model.specs.Travel.{time_between}
use Rattle.elevator_model.specs.Tours.{Progress, is_aboard}
use Rattle.elevator_model.specs.Partial.{Course}
use Rattle.tour_rules.proofs.RiderSums.{is_aboard-call}
use Rattle.search_model.specs.Bounds.{cost_if_straight}
use Rattle.tour_rules.specs.Leaving.{AreCarried, cost_of_group, is_group_off}
use Rattle.tour_rules.specs.Places.{group_carried}
use Rattle.car_layout.specs.Layouts.{is_group_to, any_group_to, persons_to, moments_to}
use Rattle.partial_tours.proofs.Departing.{groups_gone, groups_cost, groups_fit, weighed_rides}
use Rattle.pricing_bound.specs.Running.{IsAfterNow, cost_of_rides, cost_of_call_rides, cost_of_group_rides, ridden_to, standing_at}
use Rattle.pricing_bound.proofs.PartLemmas.{group_straight}
use Rattle.pricing_bound.specs.Standing.{IsPlaced}

-- ---- two sums in either order

sum_swap : (n m : ℕ) (f : ℕ → ℕ → ℕ) → sum_below n (λ i. sum_below m (λ j. f i j)) ≡ sum_below m (λ j. sum_below n (λ i. f i j))
sum_swap zero m f = sym (sum_below-zero m)
sum_swap (suc n) m f = ap (λ (x : ℕ). x + sum_below m (f n)) (sum_swap n m f) ∙ sym (sum_below-add m (λ j. sum_below n (λ i. f i j)) (f n))

sum_times : (n times : ℕ) (f : ℕ → ℕ) → times * sum_below n f ≡ sum_below n (λ k. times * f k)
sum_times zero times f = omega arith
sum_times (suc n) times f =
    let rest = sum_times n times f in
    omega (arith, rest)

-- ---- one floor

-- the moment at which the car is at a floor, if it goes there straight
abbrev straight_at : Snapshot → Progress → ℕ → ℕ
straight_at s p g = p.opened + time_between s.building.travel p.floor g

goes_nowhere : (s : Snapshot) (c visited g : ℕ) (f : ℕ → ℕ) → any_group_to s.aboard c g ≡ false → sum_where (length s.aboard) (is_group_off s c visited g) f ≡ 0
goes_nowhere s c visited g f none =
    sum_where-none (length s.aboard) (is_group_off s c visited g) f
    (λ k lt. none_off ((group_of s k).car == c) (has visited (group_of s k).destination) ((group_of s k).destination == g)
    (any_below-false (length s.aboard) (is_group_to s.aboard c g) k none lt))
  where
    none_off : (a b d : Bool) → (a && d) ≡ false → ((a && not b) && d) ≡ false
    none_off true true d e = refl
    none_off true false d e = e
    none_off false b d e = refl

floor_cost : (s : Snapshot) (c : ℕ) (p : Progress) (visited set g : ℕ) → IsAccepted s → IsAfterNow s c p
    → has set g ≡ (any_group_to s.aboard c g && not (has visited g))
    → s.building.travel_weight * cond (has set g) (ridden_to s c p g) 0
    ≡ sum_where (length s.aboard) (is_group_off s c visited g) (λ k. cost_of_group s k (straight_at s p (group_of s k).destination))
floor_cost s c p visited set g a late is = by_floor (has visited g) (any_group_to s.aboard c g) refl refl
  where
    tw : ℕ
    tw = s.building.travel_weight

    nothing : (x y : ℕ) → y ≡ 0 → x * cond false 0 0 ≡ y
    nothing x y e = omega (arith, e)

    by_floor : (v w : Bool) → has visited g ≡ v → any_group_to s.aboard c g ≡ w
        → s.building.travel_weight * cond (has set g) (ridden_to s c p g) 0
        ≡ sum_where (length s.aboard) (is_group_off s c visited g) (λ k. cost_of_group s k (straight_at s p (group_of s k).destination))
    by_floor true w e f =
        ap (λ (b : Bool). s.building.travel_weight * cond b (ridden_to s c p g) 0)
        (is ∙ ap (λ (b : Bool). any_group_to s.aboard c g && not b) e ∙ and_right (any_group_to s.aboard c g) false refl)
        ∙ nothing s.building.travel_weight _ (groups_gone s c visited g (λ k. cost_of_group s k (straight_at s p (group_of s k).destination)) e)
    by_floor false false e f = ap (λ (b : Bool). s.building.travel_weight * cond b (ridden_to s c p g) 0) (is ∙ ap (λ (b : Bool). b && not (has visited g)) f)
        ∙ nothing s.building.travel_weight _ (goes_nowhere s c visited g (λ k. cost_of_group s k (straight_at s p (group_of s k).destination)) f)
    by_floor false true e f =
        let on_time : s.moment + (spec_of s c).opening ≤ straight_at s p g = omega (arith, late) in
        let there = ap (λ (b : Bool). s.building.travel_weight * cond b (ridden_to s c p g) 0)
        (is ∙ ap (λ (b : Bool). any_group_to s.aboard c g && not b) e ∙ ap (λ (b : Bool). b && true) f) in
        let cost = groups_cost s c visited g (straight_at s p g) a on_time e in
        let fit = groups_fit s c g (straight_at s p g) a on_time in
        let ridden = weighed_rides
        (sum_where (length s.aboard) (is_group_off s c visited g) (λ k. cost_of_group s k (straight_at s p g))) s.building.travel_weight
        s.building.travel_weight (persons_to s.aboard c g) (persons_to s.aboard c g) (moments_to s.aboard c g) (moments_to s.aboard c g)
        (straight_at s p g) refl refl refl fit cost in
        there ∙ ridden ∙ sum_where-same (length s.aboard) (is_group_off s c visited g) (is_group_off s c visited g)
        (λ k. cost_of_group s k (straight_at s p g)) (λ k. cost_of_group s k (straight_at s p (group_of s k).destination)) (λ k lt. refl)
        (λ k lt h. ap (λ (d : ℕ). cost_of_group s k (straight_at s p d))
        (sym (eqb-true (group_of s k).destination g (and_parts (group_carried s.aboard c visited k) ((group_of s k).destination == g) h).1)))

-- ---- the car at another stop

pub placed_standing : (s : Snapshot) (c : ℕ) (p : Progress) (g m : ℕ) → IsPlaced s c p → g < floor_count s.building → IsPlaced s c (standing_at p g m)
placed_standing s c p g m h near =
    record {
      kept = record { carried = h.kept.carried; calls = h.kept.calls; groups = h.kept.groups };
      floor = near;
      timely = omega arith;
      first =
          λ e. absurd (false≢true (sym e));
    }

pub carried_standing : (s : Snapshot) (c carried visited : ℕ) (p : Progress) (g m : ℕ) → AreCarried s c carried visited p
    → AreCarried s c carried visited (standing_at p g m)
carried_standing s c carried visited p g m are = record { calls = are.calls; groups = are.groups }

-- ---- all floors

pub group_floor : (s : Snapshot) (k : ℕ) → IsAccepted s → k < length s.aboard → (group_of s k).destination < floor_count s.building
group_floor s k a lt = ltb-true _ (floor_count s.building) (and_parts _ _ (a.groups k lt).served).0

one_floor : (d g_all v : ℕ) (carried : Bool) → d < g_all → sum_below g_all (λ g. cond (carried && (d == g)) v 0) ≡ cond carried v 0
one_floor d g_all v true lt = sum_where-one g_all (λ _. v) d lt
one_floor d g_all v false lt = sum_below-zero g_all

pub groups_by_floor : (s : Snapshot) (c : ℕ) (p : Progress) (carried visited set : ℕ) → IsAccepted s → IsPlaced s c p → IsAfterNow s c p
    → AreCarried s c carried visited p → ((g : ℕ) → has set g ≡ (any_group_to s.aboard c g && not (has visited g)))
    → s.building.travel_weight * sum_where (floor_count s.building) (has set) (ridden_to s c p) ≡ cost_of_group_rides s p
groups_by_floor s c p carried visited set a placed late are is =
    let cost = λ (k : ℕ). cost_of_group s k (straight_at s p (group_of s k).destination) in
    let weighed = sum_times (floor_count s.building) s.building.travel_weight (λ g. cond (has set g) (ridden_to s c p g) 0) in
    let floors = sum_below-same (floor_count s.building) (λ g. s.building.travel_weight * cond (has set g) (ridden_to s c p g) 0)
    (λ g. sum_where (length s.aboard) (is_group_off s c visited g) cost) (λ g lt. floor_cost s c p visited set g a late (is g)) in
    let swapped = sum_swap (floor_count s.building) (length s.aboard) (λ g k. cond (is_group_off s c visited g k) (cost k) 0) in
    let each = sum_below-same (length s.aboard) (λ k. sum_below (floor_count s.building) (λ g. cond (is_group_off s c visited g k) (cost k) 0))
    (λ k. cond (p.carried (call_count s + k)) (cost_if_straight s p (call_count s + k)) 0)
    (λ k lt. one_floor (group_of s k).destination (floor_count s.building) (cost k) (group_carried s.aboard c visited k) (group_floor s k a lt)
    ∙ ap (λ (b : Bool). cond b (cost k) 0) (sym (are.groups k lt))
    ∙ ap (λ (x : ℕ). cond (p.carried (call_count s + k)) x 0) (sym (group_straight s c p k placed))) in
    weighed ∙ floors ∙ swapped ∙ each

-- a floor to which a group goes
pub goes_within : (s : Snapshot) (c g : ℕ) → IsAccepted s → any_group_to s.aboard c g ≡ true → g < floor_count s.building
goes_within s c g a h =
    let some = any_below-true (length s.aboard) (is_group_to s.aboard c g) h in
    let near = group_floor s some.0 a some.1 in
    subst (λ (f : ℕ). f < floor_count s.building)
    (eqb-true (group_of s some.0).destination g (and_parts _ ((group_of s some.0).destination == g) some.2).1) near

-- ---- all those carried

pub all_rides : (s : Snapshot) (c : ℕ) (p : Progress) (calls : ℕ) → ((j : ℕ) → j < call_count s → has calls j ≡ p.carried j)
    → cost_of_call_rides s p calls + cost_of_group_rides s p ≡ cost_of_rides s p
all_rides s c p calls same =
    let split = sum_below-split (call_count s) (length s.aboard) (λ r. cond (p.carried r) (cost_if_straight s p r) 0) in
    let front = sum_where-same (call_count s) (has calls) p.carried (cost_if_straight s p) (cost_if_straight s p) same (λ j lt e. refl) in
    omega (arith, split, front)

-- ---- loops over sets

-- one step of a sum whose parts are bounded
pub one_taken : (left rest : List ℕ) (one bound most sum part : ℕ) → length left ≤ bound → left ≡ one ∷ rest → sum ≤ most * (bound - length left) → part ≤ most
    → (length rest ≤ bound) × (sum + part ≤ most * (bound - length rest))
one_taken left rest one bound most sum part few is so_far less =
    let size : length left ≡ suc (length rest) = ap length is in
    let more : bound - length rest ≡ bound - length left + 1 = omega (arith, few, size) in
    (omega (arith, few, size), taken (bound - length left) (bound - length rest) more so_far)
  where
    taken : (old new : ℕ) → new ≡ old + 1 → sum ≤ most * old → sum + part ≤ most * new
    taken old new e h =
        let whole = ap (λ (n : ℕ). most * n) e in
        omega (arith, h, less, whole)

-- a floor of the layout's words
pub ridden_fits : (s : Snapshot) (c g persons moments arrival : ℕ) → IsAccepted s → persons ≡ persons_to s.aboard c g → moments ≡ moments_to s.aboard c g
    → s.moment + (spec_of s c).opening ≤ arrival → moments ≤ persons * arrival
ridden_fits s c g persons moments arrival a e f late =
    let fit = groups_fit s c g arrival a late in
    let same = ap (λ (n : ℕ). n * arrival) e in
    omega (arith, fit, f, same)

pub carried_boarded : (s : Snapshot) (c : ℕ) (p : Progress) (j : ℕ) → IsPlaced s c p → j < call_count s → p.carried j ≡ true → p.boarded j ≡ true
carried_boarded s c p j h lt e = elim (or_cases (p.boarded j) (is_aboard s c j) (h.kept.carried j e)) [
  | inl k ↦ k
  | inr k ↦ absurd (false≢true (sym (is_aboard-call s c j lt) ∙ k))
]

-- moves lead to one course
pub one_course : (o : Option Course) (x y : Course) (P : Course → Type 0) → o ≡ Some x → o ≡ Some y → P x → P y
one_course o x y P e f h = subst P (same (sym e ∙ f)) h
  where
    same : Some x ≡ Some y → x ≡ y
    same g = cc
