-- The completion bound of an empty partial tour at the prices that a search starts with.
use Rattle.std.proofs.Common.{◌≡◌, ℕ, ◌+◌, ◌^◌, ◌<◌, ◌≤◌, ◌==◌, Bool, true, false, ◌&&◌, cond, [], length, refl, sym, ap, ◌∙◌, subst, zero-add, arith, Option}
use Rattle.std.specs.Prelude.{ℤ, pos, ◌+ℤ◌, ◌-ℤ◌, ◌≤ℤ◌, int_lt, unwrap_or}
use Rattle.std.proofs.lemmas.Int.{ints}
use Rattle.std.proofs.lemmas.Bool.{eqb-true}
use Rattle.std.proofs.lemmas.List.FromFn.{get_or-map-range_with_len}
use Rattle.call_sets.specs.Counting.{has, sum_where}
use Rattle.call_sets.proofs.Sums.{sum_where-none, sum_where-same}
use Rattle.elevator_model.specs.Snapshot.{Snapshot, IsAccepted, car_count, call_count, call_of, group_of, state_of, moment_of, is_possible}
use Rattle.elevator_model.specs.Tours.{start_of, is_aboard, rider_count}
use Rattle.elevator_model.specs.Costs.{settled_cost}
use Rattle.elevator_model.specs.Partial.{course_start}
use Rattle.search_model.specs.Bounds.{completion_bound, cost_if_alone, cost_if_straight, waiting_term}
use Rattle.search_model.specs.Nodes.{allows, requires_of, root_of, set_of}
use Rattle.search_model.specs.Prices.{price_at, scaled}
use Rattle.search_model.specs.Solving.{least_lone_cost, start_prices, straight_cost}
use Rattle.search_model.specs.Sums.{int_sum_where}
use Rattle.search_model.proofs.SetLemmas.{has-set_where, has-single}
use Rattle.search_model.proofs.SnapshotNodes.{set_of-root}
use Rattle.search_model.proofs.SumLemmas.{int_sum-same, int_sum-zero}
use Rattle.assign_branch.specs.Pricings.{IsWorthSize}
use Rattle.pricing_bound.proofs.Sizes.{bound_size}
use Rattle.tour_rules.proofs.RiderSums.{is_aboard-call, is_aboard-group, sum_riders}
use Rattle.tour_rules.proofs.Settled.{settled_start}
use Rattle.snapshot_solver.specs.Starts.{aboard_cost}
use Rattle.snapshot_solver.proofs.LeastLemmas.{at_most-number, least_where-at_most, least_where-only}

-- ---- calls

pub start_price-at : (s : Snapshot) (j : ℕ) → j < call_count s → price_at (start_prices s) j ≡ scaled (least_lone_cost s j)
start_price-at s j lt = get_or-map-range_with_len (λ i. scaled (least_lone_cost s i)) 0 (call_count s) j j (pos 0) lt (zero-add j)

-- a call of the root is allowed to its possible cars
allowed-possible : (s : Snapshot) (c j : ℕ) → c < car_count s → j < call_count s → allows (root_of s) c j ≡ is_possible s c (call_of s j)
allowed-possible s c j car call =
    ap (λ (set : ℕ). has set c) (set_of-root s j call) ∙ has-set_where (car_count s) (λ d. is_possible s d (call_of s j)) c car

least-below : (s : Snapshot) (c j : ℕ) → c < car_count s → is_possible s c (call_of s j) ≡ true
    → least_lone_cost s j ≤ cost_if_alone s j (moment_of (state_of s c))
least-below s c j car may =
    at_most-number _ _ (least_where-at_most (car_count s) (λ d. is_possible s d (call_of s j)) (λ d. cost_if_alone s j (moment_of (state_of s d))) c car may)

-- a call that one car alone may serve costs least with that one
least-only : (s : Snapshot) (c j : ℕ) → c < car_count s → j < call_count s → is_possible s c (call_of s j) ≡ true → requires_of (root_of s) c j ≡ true
    → least_lone_cost s j ≡ cost_if_alone s j (moment_of (state_of s c))
least-only s c j car call may alone =
    let one = eqb-true (set_of (root_of s) j) (2 ^ c) alone in
    ap (λ (o : Option ℕ). unwrap_or o 0)
    (least_where-only (car_count s) (λ d. is_possible s d (call_of s j)) (λ d. cost_if_alone s j (moment_of (state_of s d))) c car may
    (λ d in' here. has-single c d (ap (λ (set : ℕ). has set d) (sym one) ∙ allowed-possible s d j in' call ∙ here)))

none_low : (t : ℤ) → pos 0 ≤ℤ t → cond (int_lt t (pos 0)) t (pos 0) ≡ pos 0
none_low t h = grind (arith, ints)

-- at its least cost no call lowers the bound, and one that has to board does not raise it
adds_nothing : (allowed required : Bool) (cost least : ℕ) → (allowed ≡ true → least ≤ cost) → (allowed ≡ true → required ≡ true → least ≡ cost)
    → cond (allowed && true)
    (cond required (scaled cost -ℤ scaled least) (cond (int_lt (scaled cost -ℤ scaled least) (pos 0)) (scaled cost -ℤ scaled least) (pos 0))) (pos 0) ≡ pos 0
adds_nothing false required cost least below same = refl
adds_nothing true true cost least below same = let e = same refl refl in omega (arith, ints, e)
adds_nothing true false cost least below same = let le = below refl in none_low (scaled cost -ℤ scaled least) (omega (arith, ints, le))

call_adds_nothing : (s : Snapshot) (c j : ℕ) → c < car_count s → j < call_count s
    → cond (allows (root_of s) c j && true) (waiting_term s (price_at (start_prices s)) (requires_of (root_of s) c) (start_of s c) j) (pos 0) ≡ pos 0
call_adds_nothing s c j car call =
    let may = allowed-possible s c j car call in
    let cost = cost_if_alone s j (moment_of (state_of s c)) in
    let allowed = allows (root_of s) c j in
    let required = requires_of (root_of s) c j in
    subst (λ (price : ℤ).
    cond (allowed && true) (cond required (scaled cost -ℤ price) (cond (int_lt (scaled cost -ℤ price) (pos 0)) (scaled cost -ℤ price) (pos 0))) (pos 0)
    ≡ pos 0) (sym (start_price-at s j call))
    (adds_nothing allowed required cost (least_lone_cost s j) (λ e. least-below s c j car (sym may ∙ e))
    (λ e alone. least-only s c j car call (sym may ∙ e) alone))

-- ---- groups aboard

group_cost-same : (s : Snapshot) (c k : ℕ) → ((group_of s k).car == c) ≡ true → cost_if_straight s (start_of s c) (call_count s + k) ≡ straight_cost s k
group_cost-same s c k e = ap (λ (car : ℕ). cost_if_straight s (start_of s car) (call_count s + k)) (sym (eqb-true (group_of s k).car c e))

aboard-cost : (s : Snapshot) (c : ℕ) → sum_where (rider_count s) (is_aboard s c) (cost_if_straight s (start_of s c)) ≡ aboard_cost s c
aboard-cost s c =
    let cost : ℕ → ℕ = cost_if_straight s (start_of s c) in
    let apart = sum_riders s (is_aboard s c) cost (λ _. false) (λ k. (group_of s k).car == c) cost (λ k. cost (call_count s + k))
    (λ j lt. is_aboard-call s c j lt) (λ j lt e. refl) (λ k lt. is_aboard-group s c k lt) (λ k lt. refl) in
    let none = sum_where-none (call_count s) (λ _. false) cost (λ k lt. refl) in
    let groups = sum_where-same (length s.aboard) (λ k. (group_of s k).car == c) (λ k. (group_of s k).car == c) (λ k. cost (call_count s + k))
    (straight_cost s) (λ k lt. refl) (λ k lt e. group_cost-same s c k e) in
    omega (arith, apart, none, groups)

-- ---- all

together : (settled straight costs : ℕ) (paid waiting : ℤ) → settled ≡ 0 → straight ≡ costs → paid ≡ pos 0 → waiting ≡ pos 0
    → (((scaled settled +ℤ scaled straight) -ℤ paid) +ℤ waiting) ≡ scaled costs
together settled straight costs paid waiting none same unpaid nothing = omega (arith, ints, none, same, unpaid, nothing)

-- where no call adds anything the bound is the cost of those aboard
bound-aboard : (s : Snapshot) (c : ℕ) (price : ℕ → ℤ) (allowed required : ℕ → Bool)
    → ((j : ℕ) → j < call_count s → cond (allowed j && true) (waiting_term s price required (start_of s c) j) (pos 0) ≡ pos 0)
    → completion_bound s c price allowed required (course_start s c) ≡ scaled (aboard_cost s c)
bound-aboard s c price allowed required nothing =
    let calls = int_sum-same (call_count s) (λ j. cond (allowed j && true) (waiting_term s price required (start_of s c) j) (pos 0)) (λ _. pos 0) nothing
    ∙ int_sum-zero (call_count s) in
    together (settled_cost s c (start_of s c)) (sum_where (rider_count s) (is_aboard s c) (cost_if_straight s (start_of s c))) (aboard_cost s c)
    (int_sum_where (call_count s) (λ _. false) price)
    (int_sum_where (call_count s) (λ j. allowed j && true) (waiting_term s price required (start_of s c))) (settled_start s c) (aboard-cost s c)
    (int_sum-zero (call_count s)) calls

-- The completion bound of a car's empty partial tour in the root is what those aboard cost.
pub bound-start : (s : Snapshot) (c : ℕ) → c < car_count s
    → completion_bound s c (price_at (start_prices s)) (allows (root_of s) c) (requires_of (root_of s) c) (course_start s c) ≡ scaled (aboard_cost s c)
bound-start s c car =
    bound-aboard s c (price_at (start_prices s)) (allows (root_of s) c) (requires_of (root_of s) c) (λ j call. call_adds_nothing s c j car call)

-- it is a worth's size, as each completion bound is
pub aboard_cost-size : (s : Snapshot) (c : ℕ) → IsAccepted s → c < car_count s → IsWorthSize (scaled (aboard_cost s c))
aboard_cost-size s c accepted car =
    let settled = settled_start s c in
    subst IsWorthSize (bound-aboard s c (λ _. pos 0) (λ _. false) (λ _. false) (λ j call. refl))
    (bound_size s c (λ _. pos 0) (λ _. false) (λ _. false) [] (course_start s c) accepted car (λ j. (omega (arith, ints), omega (arith, ints))) refl
    (omega (arith, settled)))
