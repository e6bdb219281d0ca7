-- Moments stay small: each stop takes its time from what is left of a budget, which each stop still to come
-- and each person still to get on or off has a share of.
use Rattle.std.proofs.Common.{◌≡◌, ◌==◌, ℕ, zero, suc, ◌+◌, ◌*◌, ◌<◌, ◌≤◌, Bool, true, false, cond, not, ◌&&◌, ◌||◌, eqb, ltb, leb, length, count_by, refl, sym}
use Rattle.std.proofs.Common.{arith, None}
use Rattle.std.proofs.Math.Nat.{mul-le-mul_right}
use Rattle.std.proofs.lemmas.Bool.{and_parts, and_left, false≢true, ltb-true, not_from_false, le-ltb}
use Rattle.elevator_model.specs.declared.Stop.{Stop}
use Rattle.call_sets.specs.Counting.{sum_where, is_among}
use Rattle.elevator_model.specs.Travel.{time_between}
use Rattle.elevator_model.specs.Building.{floor_count}
use Rattle.elevator_model.specs.Snapshot.{Snapshot, IsAccepted, call_count, car_count, call_of, group_of}
use Rattle.elevator_model.specs.Tours.{Progress, rider_count, persons_of, persons_where, start_of, has_leg, arrival, make_stop, gets_off, stays_on, boards_at}
use Rattle.elevator_model.specs.Tours.{breaks, broken_at, rules_of_stop, none_taken, destination_of, is_aboard}
use Rattle.tour_rules.specs.Measure.{stops_left}
use Rattle.call_sets.proofs.BelowTests.{any_below-false}
use Rattle.tour_rules.proofs.BoundedTests.{AllClear-from}
use Rattle.tour_rules.proofs.Stops.{fine_floor, stop_falls, stops_few, most_calls_few}
use Rattle.call_sets.proofs.Sums.{sum_where-times, sum_where-none}
use Rattle.call_sets.proofs.Counts.{count-le}
use Rattle.tour_rules.proofs.Bounds.{aboard-le}
use Rattle.tour_rules.proofs.RiderSums.{sum_riders, is_aboard-call, is_aboard-group, persons_of-call, persons_of-group}

-- ---- sums over what a stop changes

one_joined : (t u v : Bool) (x : ℕ) → (u ≡ true → t ≡ true) → (v ≡ true → t ≡ true) → (u && v) ≡ false → cond u x 0 + cond v x 0 ≤ cond t x 0
one_joined true true true x h k apart = absurd (false≢true (sym apart))
one_joined true true false x h k apart = omega arith
one_joined true false true x h k apart = omega arith
one_joined true false false x h k apart = omega arith
one_joined false true v x h k apart = absurd (false≢true (h refl))
one_joined false false true x h k apart = absurd (false≢true (k refl))
one_joined false false false x h k apart = omega arith

joined : (n : ℕ) (t u v : ℕ → Bool) (f : ℕ → ℕ) → ((k : ℕ) → u k ≡ true → t k ≡ true) → ((k : ℕ) → v k ≡ true → t k ≡ true) → ((k : ℕ) → (u k && v k) ≡ false)
    → sum_where n u f + sum_where n v f ≤ sum_where n t f
joined zero t u v f h k apart = omega arith
joined (suc n) t u v f h k apart =
    let rest = joined n t u v f h k apart in
    let here = one_joined (t n) (u n) (v n) (f n) (h n) (k n) (apart n) in
    omega (arith, rest, here)

one_split : (u v : Bool) (x : ℕ) → cond (u || v) x 0 ≤ cond u x 0 + cond v x 0
one_split true v x = omega arith
one_split false true x = omega arith
one_split false false x = omega arith

split : (n : ℕ) (u v : ℕ → Bool) (f : ℕ → ℕ) → sum_where n (λ k. u k || v k) f ≤ sum_where n u f + sum_where n v f
split zero u v f = omega arith
split (suc n) u v f = let rest = split n u v f in let here = one_split (u n) (v n) (f n) in omega (arith, rest, here)

-- ---- the budget

abbrev pub persons_waiting : Snapshot → Progress → ℕ
persons_waiting s p = sum_where (call_count s) (λ j. not (p.boarded j)) (λ j. (call_of s j).persons)

-- the persons who have still to get on or off
abbrev pub persons_left : Snapshot → Progress → ℕ
persons_left s p = 2 * persons_waiting s p + persons_where s p.carried

-- the latest moment to which a tour can go on from here
abbrev pub latest : Snapshot → Progress → ℕ
latest s p = p.leaves + 20120000 * stops_left s p + 60000 * persons_left s p

-- the persons of the calls that board, who are among those that waited
boarding_persons : (s : Snapshot) (st : Stop) → persons_where s (boards_at s st) ≡ sum_where (call_count s) (boards_at s st) (λ j. (call_of s j).persons)
boarding_persons s st =
    let all = sum_riders s (boards_at s st) (persons_of s) (boards_at s st) (λ k. false) (λ j. (call_of s j).persons) (λ k. (group_of s k).persons)
    (λ j lt. refl) (λ j lt h. persons_of-call s j lt)
    (λ k lt. and_left (ltb (call_count s + k) (call_count s)) (is_among (call_count s + k) st.boards)
    (le-ltb (call_count s + k) (call_count s) (omega arith))) (λ k lt. persons_of-group s k) in
    let none = sum_where-none (length s.aboard) (λ k. false) (λ k. (group_of s k).persons) (λ k lt. refl) in
    omega (arith, all, none)

waited : (s : Snapshot) (c : ℕ) (p : Progress) (st : Stop) → broken_at s c none_taken p st ≡ None
    → persons_waiting s (make_stop s c p st) + persons_where s (boards_at s st) ≤ persons_waiting s p
waited s c p st ok =
    let clear = AllClear-from (breaks s c none_taken p st) rules_of_stop ok in
    let on = boarding_persons s st in
    let fresh = λ (j : ℕ) (h : boards_at s st j ≡ true).
    not_from_false (p.boarded j)
    (fresh_board (boards_at s st j) (p.boarded j) (leb 2 (count_by (λ x. x == j) st.boards))
    (any_below-false (call_count s)
    (λ k. boards_at s st k && ((p.boarded k || false) || leb 2 (count_by (λ x. x == k) st.boards))) j clear.1.1.1.1.1.1.1.1.0
    (ltb-true j (call_count s) (and_parts (ltb j (call_count s)) (is_among j st.boards) h).0)) h) in
    let parts = joined (call_count s) (λ j. not (p.boarded j)) (λ j. not (p.boarded j || boards_at s st j)) (boards_at s st) (λ j. (call_of s j).persons)
    (λ j h. waits_before (p.boarded j) (boards_at s st j) h) fresh (λ j. apart (p.boarded j) (boards_at s st j)) in
    omega (arith, on, parts)
  where
    fresh_board : (b p d : Bool) → (b && ((p || false) || d)) ≡ false → b ≡ true → p ≡ false
    fresh_board true false d h e = refl
    fresh_board true true d h e = absurd (false≢true (sym h))
    fresh_board false p d h e = absurd (false≢true e)

    waits_before : (p b : Bool) → not (p || b) ≡ true → not p ≡ true
    waits_before false b h = refl
    waits_before true b h = absurd (false≢true h)

    apart : (p b : Bool) → (not (p || b) && b) ≡ false
    apart true b = refl
    apart false true = refl
    apart false false = refl

-- who is carried got on here or stays on, and who was carried stays on or gets off
carried_on : (s : Snapshot) (c : ℕ) (p : Progress) (st : Stop)
    → persons_where s (make_stop s c p st).carried + persons_where s (gets_off s p st.floor) ≤ persons_where s p.carried + persons_where s (boards_at s st)
carried_on s c p st =
    let after = split (rider_count s) (stays_on s p st.floor) (boards_at s st) (persons_of s) in
    let before = joined (rider_count s) p.carried (stays_on s p st.floor) (gets_off s p st.floor) (persons_of s) (λ r h. (and_parts (p.carried r) _ h).0)
    (λ r h. (and_parts (p.carried r) _ h).0) (λ r. excludes (p.carried r) (eqb (destination_of s r) st.floor)) in
    omega (arith, after, before)
  where
    excludes : (a b : Bool) → ((a && not b) && (a && b)) ≡ false
    excludes true true = refl
    excludes true false = refl
    excludes false b = refl

pub arrival-le : (s : Snapshot) (c : ℕ) (p : Progress) (g : ℕ) → IsAccepted s → p.floor < floor_count s.building → g < floor_count s.building
    → arrival s c p g ≤ p.leaves + 20000000
arrival-le s c p g a from to =
    let floors = a.building.travel_floors in
    let short = a.building.travel.bounded p.floor g (omega (arith, floors, from)) (omega (arith, floors, to)) in
    either (has_leg s c p) p.leaves (time_between s.building.travel p.floor g) short
  where
    either : (b : Bool) (leaves time : ℕ) → time ≤ 20000000 → cond b (leaves + time) leaves ≤ leaves + 20000000
    either true leaves time short = omega (arith, short)
    either false leaves time short = omega arith

pub latest_falls : (s : Snapshot) (c : ℕ) (p : Progress) (st : Stop) → IsAccepted s → c < car_count s → p.floor < floor_count s.building
    → broken_at s c none_taken p st ≡ None → latest s (make_stop s c p st) ≤ latest s p
latest_falls s c p st a lt from ok =
    let spec = a.building.cars c lt in
    let arrives = arrival-le s c p st.floor a from (fine_floor s c none_taken p st ok) in
    let off = mul-le-mul_right (persons_where s (gets_off s p st.floor)) spec.alighting in
    let on = mul-le-mul_right (persons_where s (boards_at s st)) spec.boarding in
    let stops = stop_falls s c p st ok in
    let waits = waited s c p st ok in
    let rides = carried_on s c p st in
    omega (arith, arrives, off, on, stops, waits, rides, spec.opening, spec.closing)

-- the budget of a whole tour
pub latest_start : (s : Snapshot) (c : ℕ) → IsAccepted s → c < car_count s → (start_of s c).leaves ≤ 1100000000 → latest s (start_of s c) ≤ 8000000000
latest_start s c a lt early =
    let stops = stops_few s c a lt in
    let calls = most_calls_few s a in
    let waits = sum_where-times (call_count s) (λ j. true) (λ j. true) (λ j. (call_of s j).persons) (λ _. 1) 8 (λ j below h. h)
    (λ j below h. let high = (a.calls j below).persons_high in omega (arith, high)) in
    let every = count-le (call_count s) (λ j. true) in
    let rides = sum_riders s (is_aboard s c) (persons_of s) (λ j. false) (λ k. eqb (group_of s k).car c) (λ j. (call_of s j).persons)
    (λ k. (group_of s k).persons) (is_aboard-call s c) (λ j below h. persons_of-call s j below) (is_aboard-group s c) (λ k below. persons_of-group s k) in
    let none = sum_where-none (call_count s) (λ j. false) (λ j. (call_of s j).persons) (λ j below. refl) in
    let aboard = aboard-le s c a lt in
    omega (arith, stops, calls, waits, every, rides, none, aboard, early)
