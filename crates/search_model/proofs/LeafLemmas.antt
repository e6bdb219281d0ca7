-- A sound leaf bounds the cost of each feasible plan in its node.
use Rattle.std.proofs.Common.{◌≡◌, ℕ, ◌^◌, ◌<◌, ◌≤◌, ◌==◌, true, not, cond, List, [], ◌∷◌, length, map, sym, ap, ◌∙◌, subst, inl, inr, arith}
use Rattle.std.specs.Prelude.{ℤ, pos, ◌+ℤ◌, ◌-ℤ◌, ◌≤ℤ◌, nat_lt, count_by}
use Rattle.std.specs.List.{list_all}
use Rattle.std.proofs.lemmas.Int.{ints}
use Rattle.std.proofs.lemmas.Bool.{cases_lt, and_parts, eqb-true, ltb-true}
use Rattle.std.proofs.lemmas.List.{get_or_past}
use Rattle.std.proofs.lemmas.Nat.{pow_pos}
use Rattle.elevator_model.specs.declared.Stop.{Stop}
use Rattle.search_model.specs.declared.PriceOf.{PriceOf}
use Rattle.search_model.specs.declared.WorthOf.{WorthOf}
use Rattle.search_model.specs.declared.Leaf.{Leaf}
use Rattle.call_sets.specs.Counting.{has, any_below, sum_where}
use Rattle.elevator_model.specs.Snapshot.{Snapshot, car_count, call_count}
use Rattle.elevator_model.specs.Costs.{cost_of}
use Rattle.elevator_model.specs.Plans.{IsFeasiblePlan, plan_cost_of, is_boarded_in, tour_of}
use Rattle.search_model.specs.Sums.{int_sum_below, int_sum_by}
use Rattle.search_model.specs.Nodes.{Node, set_of, requires_of, is_plan_in, IsTourIn}
use Rattle.search_model.specs.Prices.{scaled, prices_of_tour, value_of}
use Rattle.search_model.specs.Certificates.{are_each_once, price_in, worth_in, sum_needed, IsSoundLeaf}
use Rattle.search_model.proofs.SumLemmas.{int_sum-le, int_sum-same, int_sum-zero, int_sum-add, int_sum-minus, int_sum-swap, int_sum-once, int_sum-at}
use Rattle.search_model.proofs.SumLemmas.{scaled-sum}
use Rattle.search_model.proofs.SetLemmas.{has-single}
use Rattle.search_model.proofs.NodeLemmas.{IsWithin, within-from, once-at}
use Rattle.search_model.proofs.FeasibleLemmas.{boarded-below}

-- values that stand under keys below n, added up by key
pub int_sum_by-keys : {X : Type 0} (n : ℕ) (key : X → ℕ) (v : X → ℤ) (xs : List X) → list_all (λ k. nat_lt k n) (map key xs) ≡ true
    → int_sum_below n (λ k. int_sum_by (λ x. cond (key x == k) (v x) (pos 0)) xs) ≡ int_sum_by v xs
int_sum_by-keys n key v [] h = int_sum-zero n
int_sum_by-keys n key v (x ∷ xs) h =
    let both = and_parts (nat_lt (key x) n) (list_all (λ k. nat_lt k n) (map key xs)) h in
    int_sum-add n (λ k. cond (key x == k) (v x) (pos 0)) (λ k. int_sum_by (λ y. cond (key y == k) (v y) (pos 0)) xs)
    ∙ ap (λ (z : ℤ). z +ℤ int_sum_below n (λ k. int_sum_by (λ y. cond (key y == k) (v y) (pos 0)) xs))
    (int_sum-at n (key x) (v x) (ltb-true (key x) n both.0)) ∙ ap (λ (z : ℤ). v x +ℤ z) (int_sum_by-keys n key v xs both.1)

-- the car's tour of a feasible plan in a node is a tour in the node
pub tour_in_node : (s : Snapshot) (node : Node) (plan : List (List Stop)) (c : ℕ) → IsFeasiblePlan s plan → length node ≡ call_count s
    → is_plan_in node plan ≡ true → c < car_count s → IsTourIn s node c (tour_of plan c)
tour_in_node s node plan c feasible len inside lt =
    record {
      feasible = feasible.tours c lt;
      serves = λ j required. elim (cases_lt j (call_count s)) [ inl below ↦ serves_below j required below | inr past ↦ absurd (none_past j required past) ];
      keeps = λ j boards. within.at j c (subst (λ (n : ℕ). j < n) (sym len) (boarded-below s c (tour_of plan c) j (feasible.tours c lt) boards)) in_plan boards;
    }
  where
    within : IsWithin node plan
    within = within-from node plan inside

    in_plan : c < length plan
    in_plan = subst (λ (n : ℕ). c < n) (sym feasible.cars) lt

    single : (j : ℕ) → requires_of node c j ≡ true → set_of node j ≡ 2 ^ c
    single j required = eqb-true (set_of node j) (2 ^ c) required

    serves_below : (j : ℕ) → requires_of node c j ≡ true → j < call_count s → is_boarded_in (tour_of plan c) j ≡ true
    serves_below j required below =
        let found = once-at (length plan) (λ d. is_boarded_in (tour_of plan d) j) (feasible.serves_once j below) in
        let had : has (set_of node j) found.0 ≡ true = within.at j found.0 (subst (λ (n : ℕ). j < n) (sym len) below) found.1 found.2 in
        let same : found.0 ≡ c = has-single c found.0 (ap (λ (x : ℕ). has x found.0) (sym (single j required)) ∙ had) in
        subst (λ (d : ℕ). is_boarded_in (tour_of plan d) j ≡ true) same found.2

    none_past : (j : ℕ) → requires_of node c j ≡ true → call_count s ≤ j → ⊥
    none_past j required past =
        let none : set_of node j ≡ 0 = get_or_past node j 0 (omega (arith, len, past)) in
        let some = pow_pos c in
        omega (arith, none, some, single j required)

-- the prices of the calls of all tours are the prices of all calls
prices-once : (s : Snapshot) (plan : List (List Stop)) (price : ℕ → ℤ) → IsFeasiblePlan s plan
    → int_sum_below (car_count s) (λ c. prices_of_tour s price (tour_of plan c)) ≡ int_sum_below (call_count s) price
prices-once s plan price feasible =
    int_sum-swap (car_count s) (call_count s) (λ c j. cond (is_boarded_in (tour_of plan c) j) (price j) (pos 0))
    ∙ int_sum-same (call_count s) (λ j. int_sum_below (car_count s) (λ c. cond (is_boarded_in (tour_of plan c) j) (price j) (pos 0))) price
    (λ j lt. int_sum-once (car_count s) (λ c. is_boarded_in (tour_of plan c) j) (price j)
    (subst (λ (n : ℕ). sum_where n (λ c. is_boarded_in (tour_of plan c) j) (λ _. 1) ≡ 1) feasible.cars (feasible.serves_once j lt)))

-- the values of a plan's tours and the prices of all calls sum to its cost in thousandths
pub values-sum : (s : Snapshot) (plan : List (List Stop)) (price : ℕ → ℤ) → IsFeasiblePlan s plan
    → int_sum_below (car_count s) (λ c. value_of s c price (tour_of plan c)) ≡ scaled (plan_cost_of s plan) -ℤ int_sum_below (call_count s) price
values-sum s plan price feasible =
    int_sum-minus (car_count s) (λ c. scaled (cost_of s c (tour_of plan c))) (λ c. prices_of_tour s price (tour_of plan c))
    ∙ ap (λ (z : ℤ). z -ℤ int_sum_below (car_count s) (λ c. prices_of_tour s price (tour_of plan c)))
    (sym (scaled-sum (car_count s) (λ c. cost_of s c (tour_of plan c))))
    ∙ ap (λ (z : ℤ). scaled (plan_cost_of s plan) -ℤ z) (prices-once s plan price feasible)

pub leaf-bounds : (s : Snapshot) (bound : ℕ) (node : Node) (leaf : Leaf) (plan : List (List Stop)) → IsSoundLeaf s bound node leaf → IsFeasiblePlan s plan
    → length node ≡ call_count s → is_plan_in node plan ≡ true → sum_needed bound ≤ℤ scaled (plan_cost_of s plan)
leaf-bounds s bound node leaf plan sound feasible len inside =
    let worths : int_sum_below (car_count s) (worth_in leaf) ≤ℤ int_sum_below (car_count s) (λ c. value_of s c (price_in leaf) (tour_of plan c)) =
    int_sum-le (car_count s) (worth_in leaf) (λ c. value_of s c (price_in leaf) (tour_of plan c))
    (λ c lt. sound.worths c lt (tour_of plan c) (tour_in_node s node plan c feasible len inside lt)) in
    let values = values-sum s plan (price_in leaf) feasible in
    let both = and_parts (are_each_once (call_count s) (map (λ (p : PriceOf). p.call) leaf.prices))
    (are_each_once (car_count s) (map (λ (w : WorthOf). w.car) leaf.worths)) sound.whole in
    let calls = and_parts (list_all (λ k. nat_lt k (call_count s)) (map (λ (p : PriceOf). p.call) leaf.prices))
    (not (any_below (call_count s) (λ k. not (count_by (λ x. x == k) (map (λ (p : PriceOf). p.call) leaf.prices) == 1)))) both.0 in
    let cars = and_parts (list_all (λ k. nat_lt k (car_count s)) (map (λ (w : WorthOf). w.car) leaf.worths))
    (not (any_below (car_count s) (λ k. not (count_by (λ x. x == k) (map (λ (w : WorthOf). w.car) leaf.worths) == 1)))) both.1 in
    let prices : int_sum_below (call_count s) (price_in leaf) ≡ int_sum_by (λ (p : PriceOf). p.price) leaf.prices =
    int_sum_by-keys (call_count s) (λ (p : PriceOf). p.call) (λ (p : PriceOf). p.price) leaf.prices calls.0 in
    let stated : int_sum_below (car_count s) (worth_in leaf) ≡ int_sum_by (λ (w : WorthOf). w.worth) leaf.worths =
    int_sum_by-keys (car_count s) (λ (w : WorthOf). w.car) (λ (w : WorthOf). w.worth) leaf.worths cars.0 in
    let enough = sound.enough in
    omega (arith, ints, worths, values, prices, stated, enough)
