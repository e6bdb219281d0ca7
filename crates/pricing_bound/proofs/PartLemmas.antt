-- A completion bound as the parts of its calls and groups.
use Rattle.std.proofs.Common.{◌≡◌, ◌==◌, ◌≤◌, zero, suc, length, List, get_or, ℕ, ◌+◌, ◌<◌, Bool, true, false, cond, not, ◌&&◌, refl, ap, ◌∙◌, arith, Some}
use Rattle.std.specs.Prelude.{ℤ, pos, ◌+ℤ◌, ◌-ℤ◌}
use Rattle.std.proofs.lemmas.Int.{ints}
use Rattle.std.proofs.lemmas.Bool.{false_from_ne_true, both_ways, or_from}
use Rattle.call_sets.specs.Counting.{sum_below, sum_where}
use Rattle.call_sets.proofs.Sums.{sum_below-one, sum_below-add, sum_below-each, sum_below-split}
use Rattle.call_state.proofs.PossibleLemmas.{most_cars-le}
use Rattle.elevator_model.specs.declared.Aboard.{Aboard}
use Rattle.elevator_model.specs.Building.{Building}
use Rattle.elevator_model.specs.Snapshot.{Snapshot, IsAccepted, car_count, call_count, group_of, no_group, persons_aboard}
use Rattle.elevator_model.specs.Travel.{time_between}
use Rattle.elevator_model.specs.Tours.{Progress, rider_count, destination_of, is_aboard}
use Rattle.elevator_model.specs.Costs.{settled_cost}
use Rattle.elevator_model.specs.Partial.{Course}
use Rattle.search_model.specs.Sums.{int_sum_below}
use Rattle.search_model.specs.Bounds.{cost_if_straight, waiting_term, bound_after}
use Rattle.search_model.specs.Prices.{scaled}
use Rattle.search_model.proofs.SumLemmas.{int_sum-same, int_sum-add, int_sum-minus, scaled-sum}
use Rattle.partial_tours.specs.Courses.{reached}
use Rattle.partial_tours.specs.PartialTour.{PartialTour, course}
use Rattle.tour_rules.specs.Leaving.{group_cost, cost_of_group}
use Rattle.tour_rules.proofs.Bounds.{aboard-le}
use Rattle.tour_rules.proofs.RiderSums.{destination_of-group, is_aboard-call}
use Rattle.tour_rules.proofs.Settled.{cost_of_rider-group}
use Rattle.pricing_bound.specs.Parts.{call_part, group_part}
use Rattle.pricing_bound.specs.Standing.{IsPlaced, placed_reached, course_standing}

pub placed_at : (t : PartialTour) (x : Course) → IsAccepted t.snapshot → t.car < car_count t.snapshot → course t ≡ Some x
    → IsPlaced t.snapshot t.car (reached t.snapshot t.car x)
placed_at t x a b leads = placed_reached t.snapshot t.car x (course_standing t.snapshot t.car t.moves x a b leads)

pub group_straight : (s : Snapshot) (c : ℕ) (p : Progress) (k : ℕ) → IsPlaced s c p
    → cost_if_straight s p (call_count s + k) ≡ cost_of_group s k (p.opened + time_between s.building.travel p.floor (group_of s k).destination)
group_straight s c p k h =
    cost_of_rider-group s k (p.boarded_at (call_count s + k)) (p.opened + time_between s.building.travel p.floor (destination_of s (call_count s + k)))
    (h.kept.groups k) ∙ ap (λ (d : ℕ). cost_of_group s k (p.opened + time_between s.building.travel p.floor d)) (destination_of-group s k)

-- the cost of a group, as the code finds it
pub group_found : (s : Snapshot) (b : Building) (groups : List Aboard) (k opened floor delivered cost : ℕ) → b ≡ s.building → groups ≡ s.aboard
    → delivered ≡ opened + time_between s.building.travel floor (get_or groups k no_group).destination
    → cost ≡ group_cost b (get_or groups k no_group) delivered
    → cost ≡ cost_of_group s k (opened + time_between s.building.travel floor (group_of s k).destination)
group_found s b groups k opened floor delivered cost same_building same_groups at is = cc

-- ---- the part of one call

pub boarded_part : (carried boarded allowed : Bool) (cost price term : ℤ) → boarded ≡ true
    → ((cond carried cost (pos 0) -ℤ cond boarded price (pos 0)) +ℤ cond (allowed && not boarded) term (pos 0)) ≡ cond carried cost (pos 0) -ℤ price
boarded_part carried true true cost price term e = omega (arith, ints)
boarded_part carried true false cost price term e = omega (arith, ints)
boarded_part carried false allowed cost price term e = cc

pub waiting_part : (carried boarded allowed : Bool) (cost price term : ℤ) → carried ≡ false → boarded ≡ false → allowed ≡ true
    → ((cond carried cost (pos 0) -ℤ cond boarded price (pos 0)) +ℤ cond (allowed && not boarded) term (pos 0)) ≡ term
waiting_part false false true cost price term e d f = omega (arith, ints)
waiting_part carried boarded allowed cost price term e d f = cc

pub no_part : (carried boarded allowed : Bool) (cost price term : ℤ) → carried ≡ false → boarded ≡ false → allowed ≡ false
    → ((cond carried cost (pos 0) -ℤ cond boarded price (pos 0)) +ℤ cond (allowed && not boarded) term (pos 0)) ≡ pos 0
no_part false false false cost price term e d f = omega (arith, ints)
no_part carried boarded allowed cost price term e d f = cc

-- a call that has not boarded is not carried
pub not_carried : (s : Snapshot) (c : ℕ) (p : Progress) (j : ℕ) → IsPlaced s c p → j < call_count s → p.boarded j ≡ false → p.carried j ≡ false
not_carried s c p j h b e =
    false_from_ne_true (p.carried j) (λ t. both_ways _ (or_from (p.boarded j) (is_aboard s c j) e (is_aboard-call s c j b)) (h.kept.carried j t))

-- ---- how many groups there are

-- each group has a person aboard some car
groups_counted : (s : Snapshot) (n : ℕ) → IsAccepted s → n ≤ length s.aboard
    → n ≤ sum_below (car_count s) (λ c. sum_where n (λ k. (group_of s k).car == c) (λ k. (group_of s k).persons))
groups_counted s zero a within = omega arith
groups_counted s (suc n) a within =
    let rest = groups_counted s n a (omega arith) in
    let group = a.groups n (omega arith) in
    let person = group.persons_low in
    let one = sum_below-one (car_count s) (group_of s n).car (group_of s n).persons group.car in
    let both = sum_below-add (car_count s) (λ c. sum_where n (λ k. (group_of s k).car == c) (λ k. (group_of s k).persons))
    (λ c. cond ((group_of s n).car == c) (group_of s n).persons 0) in
    omega (arith, rest, person, one, both)

pub groups_few : (s : Snapshot) → IsAccepted s → length s.aboard ≤ 1024
groups_few s a =
    let counted = groups_counted s (length s.aboard) a (omega arith) in
    let each = sum_below-each (car_count s) (persons_aboard s) 64 (λ c b. aboard-le s c a b) in
    let high = a.building.cars_high in
    let few = most_cars-le s.building.version in
    omega (arith, counted, each, high, few)

pub int_sum-more : (n : ℕ) (f : ℕ → ℤ) → int_sum_below (n + 1) f ≡ int_sum_below n f +ℤ f n
int_sum-more n f = let e : n + 1 ≡ suc n = omega arith in ap (λ (m : ℕ). int_sum_below m f) e

-- ---- all parts

scaled_or_nothing : (b : Bool) (cost : ℕ) → scaled (cond b cost 0) ≡ cond b (scaled cost) (pos 0)
scaled_or_nothing true cost = refl
scaled_or_nothing false cost = refl

-- the rides of those carried, of the calls and of the groups
pub rides_apart : (s : Snapshot) (p : Progress)
    → scaled (sum_where (rider_count s) p.carried (cost_if_straight s p))
    ≡ int_sum_below (call_count s) (λ j. cond (p.carried j) (scaled (cost_if_straight s p j)) (pos 0)) +ℤ int_sum_below (length s.aboard) (group_part s p)
rides_apart s p =
    let cost : ℕ → ℕ = λ r. cond (p.carried r) (cost_if_straight s p r) 0 in
    let split = sum_below-split (call_count s) (length s.aboard) cost in
    let calls = scaled-sum (call_count s) cost in
    let groups = scaled-sum (length s.aboard) (λ k. cost (call_count s + k)) in
    let each_call = int_sum-same (call_count s) (λ j. scaled (cost j)) (λ j. cond (p.carried j) (scaled (cost_if_straight s p j)) (pos 0))
    (λ j b. scaled_or_nothing (p.carried j) (cost_if_straight s p j)) in
    let each_group = int_sum-same (length s.aboard) (λ k. scaled (cost (call_count s + k))) (group_part s p)
    (λ k b. scaled_or_nothing (p.carried (call_count s + k)) (cost_if_straight s p (call_count s + k))) in
    omega (arith, ints, split, calls, groups, each_call, each_group)

pub parts_together : (s : Snapshot) (c : ℕ) (price : ℕ → ℤ) (allowed required : ℕ → Bool) (p : Progress)
    → ((scaled (settled_cost s c p) +ℤ int_sum_below (length s.aboard) (group_part s p)) +ℤ int_sum_below (call_count s)
    (call_part s price allowed required p)) ≡ bound_after s c price allowed required p
parts_together s c price allowed required p =
    let ride : ℕ → ℤ = λ j. cond (p.carried j) (scaled (cost_if_straight s p j)) (pos 0) in
    let paid : ℕ → ℤ = λ j. cond (p.boarded j) (price j) (pos 0) in
    let waits : ℕ → ℤ = λ j. cond (allowed j && not (p.boarded j)) (waiting_term s price required p j) (pos 0) in
    let rides = rides_apart s p in
    let both = int_sum-add (call_count s) (λ j. ride j -ℤ paid j) waits in
    let less = int_sum-minus (call_count s) ride paid in
    omega (arith, ints, rides, both, less)
