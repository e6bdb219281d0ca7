-- How great sums of prices and bounds can be.
use Rattle.std.proofs.Common.{◌≡◌, ℕ, zero, suc, ◌+◌, ◌*◌, ◌^◌, ◌<◌, ◌≤◌, Bool, true, false, cond, not, ◌&&◌, length, refl, arith, List, Some}
use Rattle.std.specs.Prelude.{ℤ, pos, neg_ℤ, ◌+ℤ◌, ◌-ℤ◌, ◌≤ℤ◌, int_lt}
use Rattle.std.proofs.lemmas.Int.{ints}
use Rattle.std.proofs.Math.Nat.{mul-le-mul_right}
use Rattle.elevator_model.specs.declared.Move.{Move}
use Rattle.elevator_model.specs.Building.{floor_count}
use Rattle.elevator_model.specs.Snapshot.{Snapshot, IsAccepted, call_count, call_of, car_count}
use Rattle.elevator_model.specs.Travel.{time_between}
use Rattle.elevator_model.specs.Tours.{Progress, rider_count, destination_of}
use Rattle.elevator_model.specs.Costs.{settled_cost}
use Rattle.elevator_model.specs.Partial.{Course, course_of}
use Rattle.price_scale.specs.Scale.{IsPrice, IsPriceSum}
use Rattle.search_model.specs.Sums.{int_sum_below, int_sum_where}
use Rattle.search_model.specs.Prices.{scaled}
use Rattle.search_model.specs.Bounds.{cost_if_straight, cost_if_alone, completion_bound}
use Rattle.partial_tours.specs.Courses.{reached}
use Rattle.partial_tours.proofs.Early.{course_early, opened_early, boarded_early}
use Rattle.tour_rules.proofs.Bounds.{rider-le, group_boarded-le}
use Rattle.tour_rules.proofs.Stops.{most_calls_few}
use Rattle.pricing_bound.specs.Aims.{IsBoundSize}
use Rattle.pricing_bound.specs.Parts.{call_part, group_part}
use Rattle.pricing_bound.specs.GrowthLemmas.{destination_in}
use Rattle.pricing_bound.proofs.CarriedLemmas.{carried_boarded}
use Rattle.pricing_bound.proofs.PartLemmas.{not_carried, groups_few, parts_together}
use Rattle.pricing_bound.specs.Standing.{placed_reached, course_standing}

-- the number has at most this absolute value
abbrev pub IsWithin : ℕ → ℤ → Type 0
IsWithin most z = (neg_ℤ (pos most) ≤ℤ z) × (z ≤ℤ pos most)

one_more : (n most : ℕ) → suc n * most ≡ n * most + most
one_more n most = omega arith

pub int_sum-size : (n : ℕ) (f : ℕ → ℤ) (most : ℕ) → ((k : ℕ) → k < n → IsWithin most (f k)) → IsWithin (n * most) (int_sum_below n f)
int_sum-size zero f most h = (omega (arith, ints), omega (arith, ints))
int_sum-size (suc n) f most h =
    let rest = int_sum-size n f most (λ k b. h k (omega arith)) in
    let here = h n (omega arith) in
    let e = one_more n most in
    (let l = rest.0 in let m = here.0 in omega (arith, ints, l, m, e), let l = rest.1 in let m = here.1 in omega (arith, ints, l, m, e))

price_or_none : (b : Bool) (z : ℤ) → IsPrice z → IsWithin (10 ^ 24) (cond b z (pos 0))
price_or_none true z h = h
price_or_none false z h = (omega (arith, ints), omega (arith, ints))

pub few_within : (n most all : ℕ) (z : ℤ) → n ≤ all → IsWithin (n * most) z → IsWithin (all * most) z
few_within n most all z le h =
    let more = mul-le-mul_right most le in
    (let l = h.0 in omega (arith, ints, more, l), let l = h.1 in omega (arith, ints, more, l))

pub prices_size : (s : Snapshot) (test : ℕ → Bool) (price : ℕ → ℤ) → IsAccepted s → ((j : ℕ) → IsPrice (price j))
    → IsPriceSum (int_sum_where (call_count s) test price)
prices_size s test price a prices =
    few_within (call_count s) (10 ^ 24) 128 _ (most_calls_few s a)
    (int_sum-size (call_count s) (λ j. cond (test j) (price j) (pos 0)) (10 ^ 24) (λ j b. price_or_none (test j) (price j) (prices j)))

-- ---- the parts of a bound

-- what a call adds: a cost where it is carried, and less its price where it boarded, or a term that is not great
call_size : (carried boarded allowed required : Bool) (straight alone : ℕ) (price : ℤ) → (boarded ≡ false → carried ≡ false)
    → (carried ≡ true → straight ≤ 2400000000000000) → alone ≤ 2400000000000000 → IsPrice price
    → IsWithin (2 * 10 ^ 24)
    ((cond carried (scaled straight) (pos 0) -ℤ cond boarded price (pos 0)) +ℤ cond (allowed && not boarded)
    (cond required (scaled alone -ℤ price) (cond (int_lt (scaled alone -ℤ price) (pos 0)) (scaled alone -ℤ price) (pos 0))) (pos 0))
call_size true true true required straight alone price none low small h = let l = h.0 in let m = h.1 in let t = low refl in
    (omega (arith, ints, l, m, t), omega (arith, ints, l, m, t))
call_size true true false required straight alone price none low small h = let l = h.0 in let m = h.1 in let t = low refl in
    (omega (arith, ints, l, m, t), omega (arith, ints, l, m, t))
call_size false true true required straight alone price none low small h = let l = h.0 in let m = h.1 in (omega (arith, ints, l, m), omega (arith, ints, l, m))
call_size false true false required straight alone price none low small h = let l = h.0 in let m = h.1 in (omega (arith, ints, l, m), omega (arith, ints, l, m))
call_size true false allowed required straight alone price none low small h = absurd (let e = none refl in cc)
call_size false false false required straight alone price none low small h = (omega (arith, ints), omega (arith, ints))
call_size false false true true straight alone price none low small h = let l = h.0 in let m = h.1 in
    (omega (arith, ints, l, m, small), omega (arith, ints, l, m, small))
call_size false false true false straight alone price none low small h =
    lesser (scaled alone -ℤ price) (let l = h.0 in let m = h.1 in omega (arith, ints, l, m, small))
    (let l = h.0 in let m = h.1 in omega (arith, ints, l, m, small))
  where
    lesser : (t : ℤ) → neg_ℤ (pos (2 * 10 ^ 24)) ≤ℤ t → t ≤ℤ pos (2 * 10 ^ 24) → IsWithin (2 * 10 ^ 24) ((pos 0 -ℤ pos 0) +ℤ cond (int_lt t (pos 0)) t (pos 0))
    lesser t low high = (grind (arith, ints, low), grind (arith, ints, high))

-- who is carried boarded early
straight_small : (s : Snapshot) (p : Progress) (r : ℕ) → IsAccepted s → r < rider_count s → p.floor < floor_count s.building → p.opened < 10000000000
    → p.boarded_at r ≤ 100000000000 → cost_if_straight s p r ≤ 2400000000000000
straight_small s p r a lt floor early boarded =
    let floors = a.building.travel_floors in
    let ends = destination_in s r a lt in
    let time = a.building.travel.bounded p.floor (destination_of s r) (omega (arith, floors, floor)) (omega (arith, floors, ends)) in
    rider-le s r (p.boarded_at r) (p.opened + time_between s.building.travel p.floor (destination_of s r)) a lt boarded (omega (arith, early, time))

pub alone_small : (s : Snapshot) (j m : ℕ) → IsAccepted s → j < call_count s → m < 10000000000 → cost_if_alone s j m ≤ 2400000000000000
alone_small s j m a lt early =
    let floors = a.building.travel_floors in
    let from = (a.calls j lt).origin in
    let to = (a.calls j lt).destination in
    let time = a.building.travel.bounded (call_of s j).origin (call_of s j).destination (omega (arith, floors, from)) (omega (arith, floors, to)) in
    rider-le s j m (m + time_between s.building.travel (call_of s j).origin (call_of s j).destination) a (omega (arith, lt)) (omega (arith, early))
    (omega (arith, early, time))

group_size : (carried : Bool) (cost : ℕ) → cost ≤ 2400000000000000 → IsWithin (10 ^ 19) (cond carried (scaled cost) (pos 0))
group_size true cost h = (omega (arith, ints, h), omega (arith, ints, h))
group_size false cost h = (omega (arith, ints), omega (arith, ints))

parts_size : (settled : ℕ) (groups calls all : ℤ) → settled ≤ 10 ^ 18 → IsWithin (1024 * 10 ^ 19) groups → IsWithin (128 * (2 * 10 ^ 24)) calls
    → ((scaled settled +ℤ groups) +ℤ calls) ≡ all → IsBoundSize all
parts_size settled groups calls all small g k e =
    let a = g.0 in
    let b = g.1 in
    let c = k.0 in
    let d = k.1 in
    (omega (arith, ints, small, a, c, e), omega (arith, ints, small, b, d, e))

-- A completion bound has at most the absolute value 10^27.
pub bound_size : (s : Snapshot) (c : ℕ) (price : ℕ → ℤ) (allowed required : ℕ → Bool) (moves : List Move) (x : Course) → IsAccepted s → c < car_count s
    → ((j : ℕ) → IsPrice (price j)) → course_of s c moves ≡ Some x → settled_cost s c (reached s c x) ≤ 10 ^ 18
    → IsBoundSize (completion_bound s c price allowed required x)
bound_size s c price allowed required moves x a b prices leads small =
    let p = reached s c x in
    let placed = placed_reached s c x (course_standing s c moves x a b leads) in
    let early = course_early s c moves x a b leads in
    let opened = opened_early s c x a b early in
    let calls = int_sum-size (call_count s) (call_part s price allowed required p) (2 * 10 ^ 24)
    (λ j lt. call_size (p.carried j) (p.boarded j) (allowed j) (required j) (cost_if_straight s p j) (cost_if_alone s j p.opened) (price j)
    (not_carried s c p j placed lt)
    (λ e. straight_small s p j a (omega (arith, lt)) placed.floor opened
    (let noted = boarded_early s c x j a b early (carried_boarded s c p j placed lt e) in omega (arith, noted))) (alone_small s j p.opened a lt opened)
    (prices j)) in
    let groups = int_sum-size (length s.aboard) (group_part s p) (10 ^ 19)
    (λ k lt. group_size (p.carried (call_count s + k)) (cost_if_straight s p (call_count s + k))
    (straight_small s p (call_count s + k) a (omega (arith, lt)) placed.floor opened
    (let boarded = placed.kept.groups k in let before = group_boarded-le s k a lt in omega (arith, boarded, before)))) in
    parts_size (settled_cost s c p) (int_sum_below (length s.aboard) (group_part s p)) (int_sum_below (call_count s) (call_part s price allowed required p))
    (completion_bound s c price allowed required x) small (few_within (length s.aboard) (10 ^ 19) 1024 _ (groups_few s a) groups)
    (few_within (call_count s) (2 * 10 ^ 24) 128 _ (most_calls_few s a) calls) (parts_together s c price allowed required p)
