-- How great the parts of calls can be.
use Rattle.std.proofs.Common.{◌≡◌, ℕ, ◌+◌, ◌*◌, ◌^◌, ◌<◌, ◌≤◌, Bool, true, false, cond, ◌&&◌, eqb, ap, ◌∙◌, arith}
use Rattle.std.specs.Prelude.{ℤ, pos, neg_ℤ, ◌+ℤ◌, ◌-ℤ◌, ◌≤ℤ◌, int_lt}
use Rattle.std.proofs.lemmas.Int.{ints}
use Rattle.std.proofs.Math.Nat.{mul-le-mul_left}
use Rattle.call_sets.specs.Counting.{has}
use Rattle.elevator_model.specs.Building.{floor_count}
use Rattle.elevator_model.specs.Snapshot.{Snapshot, IsAccepted, call_count, call_of, car_count, spec_of}
use Rattle.elevator_model.specs.Travel.{time_between}
use Rattle.price_scale.specs.Scale.{IsPrice, IsPriceSum}
use Rattle.search_model.specs.Prices.{scaled}
use Rattle.search_model.specs.Sums.{int_sum_where}
use Rattle.search_model.proofs.SumLemmas.{int_sum-le}
use Rattle.tour_rules.proofs.Bounds.{rider-le}
use Rattle.pricing_bound.specs.Aims.{IsBoundSize}
use mir.Val.{to_z, of_z}
use mir.Syntax.{w128}
use Rattle.pricing_bound.proofs.RateLemmas.{stored}
use Rattle.pricing_bound.proofs.Sizes.{IsWithin, few_within, int_sum-size}
use Rattle.route_bound.specs.ForcedRoute.{cost_if_boarded, least_ride, part_if_boarded}
use Rattle.route_sums.specs.declared.stands.Stand.{Stand}
use Rattle.route_sums.specs.Gathering.{highest, lowest}
use Rattle.route_sums.specs.Stands.{soonest}

term_size : (required : Bool) (cost : ℕ) (price : ℤ) → cost ≤ 2400000000000000 → IsPrice price
    → IsWithin (2 * 10 ^ 24) (cond required (scaled cost -ℤ price) (cond (int_lt (scaled cost -ℤ price) (pos 0)) (scaled cost -ℤ price) (pos 0)))
term_size true cost price small h = let l = h.0 in let m = h.1 in (omega (arith, ints, l, m, small), omega (arith, ints, l, m, small))
term_size false cost price small h =
    lesser (scaled cost -ℤ price) (let l = h.0 in let m = h.1 in omega (arith, ints, l, m, small))
    (let l = h.0 in let m = h.1 in omega (arith, ints, l, m, small))
  where
    lesser : (t : ℤ) → neg_ℤ (pos (2 * 10 ^ 24)) ≤ℤ t → t ≤ℤ pos (2 * 10 ^ 24) → IsWithin (2 * 10 ^ 24) (cond (int_lt t (pos 0)) t (pos 0))
    lesser t low high = (grind (arith, ints, low), grind (arith, ints, high))

pub part_size : (s : Snapshot) (c : ℕ) (price : ℕ → ℤ) (required : ℕ → Bool) (j m : ℕ) → IsAccepted s → j < call_count s → m ≤ 99100000000
    → least_ride s c j ≤ 200000000 → IsPrice (price j) → IsWithin (2 * 10 ^ 24) (part_if_boarded s c price required j m)
part_size s c price required j m a lt early short h =
    term_size (required j) (cost_if_boarded s c j m) (price j)
    (rider-le s j m (m + least_ride s c j) a (omega (arith, lt)) (omega (arith, early)) (omega (arith, early, short))) h

pub soonest_small : (s : Snapshot) (c : ℕ) (stand : Stand) (g : ℕ) → IsAccepted s → c < car_count s → stand.place.floor < floor_count s.building
    → g < floor_count s.building → soonest s c stand g ≤ 99100000000
soonest_small s c stand g a car from to =
    let floors = a.building.travel_floors in
    let time = a.building.travel.bounded stand.place.floor g (omega (arith, floors, from)) (omega (arith, floors, to)) in
    let opening = (a.building.cars c car).opening in
    let left = stand.late in
    either (stand.place.begun && eqb g stand.place.floor) stand.opened
    (stand.leaves + time_between s.building.travel stand.place.floor g + (spec_of s c).opening) stand.early (omega (arith, time, opening, left))
  where
    either : (b : Bool) (o n : ℕ) → o ≤ 99000000000 → n ≤ 99100000000 → cond b o n ≤ 99100000000
    either true o n h k = omega (arith, h)
    either false o n h k = k

some_within : (t : Bool) (z : ℤ) → IsWithin (2 * 10 ^ 24) z → (cond t (neg_ℤ (pos (2 * 10 ^ 24))) (pos 0) ≤ℤ cond t z (pos 0))
    × (cond t z (pos 0) ≤ℤ cond t (pos (2 * 10 ^ 24)) (pos 0))
some_within true z h = h
some_within false z h = (omega (arith, ints), omega (arith, ints))

pub parts_low : (n : ℕ) (test : ℕ → Bool) (f : ℕ → ℤ) → ((j : ℕ) → j < n → IsWithin (2 * 10 ^ 24) (f j)) → int_sum_where n test lowest ≤ℤ int_sum_where n test f
parts_low n test f h = int_sum-le n (λ j. cond (test j) (lowest j) (pos 0)) (λ j. cond (test j) (f j) (pos 0)) (λ j lt. (some_within (test j) (f j) (h j lt)).0)

pub parts_high : (n : ℕ) (test : ℕ → Bool) (f : ℕ → ℤ) → ((j : ℕ) → j < n → IsWithin (2 * 10 ^ 24) (f j))
    → int_sum_where n test f ≤ℤ int_sum_where n test highest
parts_high n test f h =
    int_sum-le n (λ j. cond (test j) (f j) (pos 0)) (λ j. cond (test j) (highest j) (pos 0)) (λ j lt. (some_within (test j) (f j) (h j lt)).1)

one_size : (t : Bool) (z : ℤ) → IsWithin (2 * 10 ^ 24) z → IsWithin (2 * 10 ^ 24) (cond t z (pos 0))
one_size true z h = h
one_size false z h = (omega (arith, ints), omega (arith, ints))

pub sums_size : (n : ℕ) (test : ℕ → Bool) → n ≤ 128 → (neg_ℤ (pos (256 * 10 ^ 24)) ≤ℤ int_sum_where n test lowest)
    × (int_sum_where n test highest ≤ℤ pos (256 * 10 ^ 24))
sums_size n test few =
    let low = few_within n (2 * 10 ^ 24) 128 _ few
    (int_sum-size n (λ j. cond (test j) (lowest j) (pos 0)) (2 * 10 ^ 24)
    (λ j lt. one_size (test j) (lowest j) (omega (arith, ints), omega (arith, ints)))) in
    let high = few_within n (2 * 10 ^ 24) 128 _ few
    (int_sum-size n (λ j. cond (test j) (highest j) (pos 0)) (2 * 10 ^ 24)
    (λ j lt. one_size (test j) (highest j) (omega (arith, ints), omega (arith, ints)))) in
    (let l = low.0 in omega (arith, ints, l), let m = high.1 in omega (arith, ints, m))

pub value_size : (settled : ℕ) (added paid : ℤ) → settled ≤ 10 ^ 18 → neg_ℤ (pos (256 * 10 ^ 24)) ≤ℤ added → added ≤ℤ pos (256 * 10 ^ 24) → IsPriceSum paid
    → IsBoundSize ((scaled settled +ℤ added) -ℤ paid)
value_size settled added paid small low high h =
    let l = h.0 in
    let m = h.1 in
    (omega (arith, ints, small, low, m), omega (arith, ints, small, high, l))

pub ride_short : (s : Snapshot) (c j : ℕ) → IsAccepted s → c < car_count s → j < call_count s → least_ride s c j ≤ 200000000
ride_short s c j a car lt =
    let spec = a.building.cars c car in
    let call = a.calls j lt in
    let floors = a.building.travel_floors in
    let from = call.origin in
    let to = call.destination in
    let time = a.building.travel.bounded (call_of s j).origin (call_of s j).destination (omega (arith, floors, from)) (omega (arith, floors, to)) in
    let each = mul-le-mul_left (spec_of s c).boarding call.persons_high in
    let board = spec.boarding in
    let close = spec.closing in
    let doors = spec.opening in
    omega (arith, time, each, board, close, doors)

-- two sums that are stored, and theirs
pub stored_sum : (x y : ℤ) → neg_ℤ (pos (10 ^ 29)) ≤ℤ x → x ≤ℤ pos (10 ^ 29) → neg_ℤ (pos (10 ^ 29)) ≤ℤ y → y ≤ℤ pos (10 ^ 29)
    → to_z w128 (of_z w128 (to_z w128 (of_z w128 x) +ℤ to_z w128 (of_z w128 y))) ≡ x +ℤ y
stored_sum x y a b c d =
    let one = stored x (omega (arith, ints, a)) (omega (arith, ints, b)) in
    let two = stored y (omega (arith, ints, c)) (omega (arith, ints, d)) in
    let both : (to_z w128 (of_z w128 x) +ℤ to_z w128 (of_z w128 y)) ≡ (x +ℤ y) = ap (λ (z : ℤ). z +ℤ to_z w128 (of_z w128 y)) one
    ∙ ap (λ (z : ℤ). x +ℤ z) two in
    ap (λ (z : ℤ). to_z w128 (of_z w128 z)) both ∙ stored (x +ℤ y) (omega (arith, ints, a, c)) (omega (arith, ints, b, d))

-- what a leg and the rest of the route add, as it is stored
pub added_whole : (n boards left : ℕ) (now later : ℤ) → n ≤ 128 → int_sum_where n (has boards) lowest ≤ℤ now → now ≤ℤ int_sum_where n (has boards) highest
    → int_sum_where n (has left) lowest ≤ℤ later → later ≤ℤ int_sum_where n (has left) highest
    → to_z w128 (of_z w128 (to_z w128 (of_z w128 now) +ℤ to_z w128 (of_z w128 later))) ≡ now +ℤ later
added_whole n boards left now later few a b c d =
    let one = sums_size n (has boards) few in
    let two = sums_size n (has left) few in
    let one_low = one.0 in
    let one_high = one.1 in
    let two_low = two.0 in
    let two_high = two.1 in
    stored_sum now later (omega (arith, ints, one_low, a)) (omega (arith, ints, one_high, b)) (omega (arith, ints, two_low, c))
    (omega (arith, ints, two_high, d))

-- a term, as the code finds it
pub term_stored : (cost price : ℤ) (z : ℕ) → cost ≡ scaled z → z ≤ 10 ^ 18 → IsPrice price
    → to_z w128 (of_z w128 (to_z w128 (of_z w128 cost) -ℤ to_z w128 (of_z w128 price))) ≡ scaled z -ℤ price
term_stored cost price z is small h =
    let low = h.0 in
    let high = h.1 in
    let one = stored cost (omega (arith, ints, is)) (omega (arith, ints, is, small)) in
    let two = stored price (omega (arith, ints, low)) (omega (arith, ints, high)) in
    let both : (to_z w128 (of_z w128 cost) -ℤ to_z w128 (of_z w128 price)) ≡ (scaled z -ℤ price) = ap (λ (x : ℤ). x -ℤ to_z w128 (of_z w128 price)) (one ∙ is)
    ∙ ap (λ (x : ℤ). scaled z -ℤ x) two in
    ap (λ (x : ℤ). to_z w128 (of_z w128 x)) both ∙ stored (scaled z -ℤ price) (omega (arith, ints, low, high)) (omega (arith, ints, small, low, high))

-- the value of a partial tour, as the code finds it
pub value_stored : (cost added paid : ℤ) (settled : ℕ) → cost ≡ scaled settled → settled ≤ 10 ^ 18 → neg_ℤ (pos (256 * 10 ^ 24)) ≤ℤ added
    → added ≤ℤ pos (256 * 10 ^ 24) → IsPriceSum paid
    → to_z w128 (of_z w128 (to_z w128 (of_z w128 (to_z w128 (of_z w128 cost) +ℤ to_z w128 (of_z w128 added))) -ℤ to_z w128 (of_z w128 paid)))
    ≡ (scaled settled +ℤ added) -ℤ paid
value_stored cost added paid settled is small low high h =
    let paid_low = h.0 in
    let paid_high = h.1 in
    let sum = stored_sum cost added (omega (arith, ints, is)) (omega (arith, ints, is, small)) (omega (arith, ints, low)) (omega (arith, ints, high)) in
    let less = stored paid (omega (arith, ints, paid_low)) (omega (arith, ints, paid_high)) in
    let both : (to_z w128 (of_z w128 (to_z w128 (of_z w128 cost) +ℤ to_z w128 (of_z w128 added))) -ℤ to_z w128 (of_z w128 paid))
    ≡ ((scaled settled +ℤ added) -ℤ paid) = ap (λ (z : ℤ). z -ℤ to_z w128 (of_z w128 paid)) (sum ∙ ap (λ (z : ℤ). z +ℤ added) is)
    ∙ ap (λ (z : ℤ). (scaled settled +ℤ added) -ℤ z) less in
    ap (λ (z : ℤ). to_z w128 (of_z w128 z)) both
    ∙ stored ((scaled settled +ℤ added) -ℤ paid) (omega (arith, ints, low, paid_high)) (omega (arith, ints, small, high, paid_low))

-- a bound as it is stored
pub stored_bound : (z : ℤ) → IsBoundSize z → to_z w128 (of_z w128 z) ≡ z
stored_bound z h =
    let low = h.0 in
    let high = h.1 in
    stored z (omega (arith, ints, low)) (omega (arith, ints, high))
