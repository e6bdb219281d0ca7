-- A node in which each call has one car left: the tours of pricings that reached no limit make a plan.
use Rattle.std.proofs.Common.{◌≡◌, ℕ, zero, suc, ◌<◌, ◌≤◌, ◌^◌, ◌==◌, eqb, Bool, true, false, List, [], ◌∷◌, length, map, get_or, refl, sym, ap, ◌∙◌, subst}
use Rattle.std.proofs.Common.{arith}
use Rattle.std.specs.Prelude.{ℤ, pos, ◌+ℤ◌, ◌≤ℤ◌, Some}
use Rattle.std.proofs.lemmas.Int.{ints}
use Rattle.std.proofs.lemmas.Bool.{both_ways, eqb-true, eq-eqb}
use Rattle.elevator_model.specs.declared.Stop.{Stop}
use Rattle.call_sets.specs.Counting.{has, sum_where}
use Rattle.call_sets.proofs.Sums.{sum_where-same, sum_where-one}
use Rattle.call_sets.proofs.BelowTests.{any_below-true}
use Rattle.elevator_model.specs.Snapshot.{Snapshot, car_count, call_count}
use Rattle.elevator_model.specs.Plans.{IsFeasiblePlan, is_boarded_in, times_served, tour_of, plan_cost_of}
use Rattle.search_model.specs.declared.TurnOf.{TurnOf}
use Rattle.search_model.specs.Sums.{int_sum_below, int_sum_by, rounded_up}
use Rattle.search_model.specs.Nodes.{Node, IsNodeOf, IsTourIn, set_of}
use Rattle.search_model.specs.Prices.{scaled, price_at, value_of}
use Rattle.search_model.specs.Solving.{no_turn}
use Rattle.search_model.proofs.SetLemmas.{has-single}
use Rattle.search_model.proofs.SumLemmas.{int_sum-same}
use Rattle.search_model.proofs.LeafLemmas.{values-sum}
use Rattle.search_model.proofs.RoundLemmas.{rounded_up-least}
use Rattle.search_tree.specs.Sheets.{PriceSheet, sum_of_sheet, sum_of_worths, sheet_of_turn, turn_worth}
use Rattle.search_tree.specs.Branches.{AreSingle}
use Rattle.search_tree.specs.Answers.{AreAnswersIn, GivesTour}
use Rattle.node_search.specs.Searches.{IsPlanOf}

-- one member alone
once : (n : ℕ) (t : ℕ → Bool) (c : ℕ) → c < n → t c ≡ true → ((d : ℕ) → d < n → t d ≡ true → c ≡ d) → sum_where n t (λ _. 1) ≡ 1
once n t c lt is one =
    sum_where-same n t (eqb c) (λ _. 1) (λ _. 1) (λ d below. same d below (t d) refl) (λ d below e. refl) ∙ sum_where-one n (λ _. 1) c lt
  where
    same : (d : ℕ) → d < n → (b : Bool) → t d ≡ b → t d ≡ eqb c d
    same d below true e = e ∙ sym (eq-eqb c d (one d below e))
    same d below false e = e ∙ sym (apart (c == d) refl)
      where
        apart : (v : Bool) → (c == d) ≡ v → eqb c d ≡ false
        apart true at = absurd (both_ways (t d) e (subst (λ (k : ℕ). t k ≡ true) (eqb-true c d at) is))
        apart false at = at

int_sum-front : (n : ℕ) (f : ℕ → ℤ) → int_sum_below (suc n) f ≡ f 0 +ℤ int_sum_below n (λ k. f (suc k))
int_sum-front zero f = omega (arith, ints)
int_sum-front (suc n) f = let rest = int_sum-front n f in omega (arith, ints, rest)

int_sum-list : {X : Type 0} (f : X → ℤ) (xs : List X) (d : X) → int_sum_below (length xs) (λ k. f (get_or xs k d)) ≡ int_sum_by f xs
int_sum-list f [] d = refl
int_sum-list f (x ∷ xs) d = int_sum-front (length xs) (λ k. f (get_or (x ∷ xs) k d)) ∙ ap (λ (z : ℤ). f x +ℤ z) (int_sum-list f xs d)

worths-sum : (cars : List TurnOf) → sum_of_worths (map turn_worth cars) ≡ int_sum_by (λ (t : TurnOf). t.priced.worth) cars
worths-sum [] = refl
worths-sum (t ∷ cars) = ap (λ (z : ℤ). t.priced.worth +ℤ z) (worths-sum cars)

-- a sum in thousandths of a whole number of cost units
scaled-rounds : (cost : ℕ) (sum : ℤ) → scaled cost ≤ℤ sum → pos cost ≤ℤ rounded_up sum
scaled-rounds cost sum le = let most = (rounded_up-least sum).enough in omega (arith, ints, le, most)

module _ (s : Snapshot) (most_tours : ℕ) (node : Node) (prices : List ℤ) (cars : List TurnOf) (plan : List (List Stop))
    (answers : AreAnswersIn s most_tours node prices cars) (is_node : IsNodeOf s node) (single : AreSingle (call_count s) node) (few : car_count s ≤ 16)
    (none : (c : ℕ) → c < length cars → (get_or cars c no_turn).priced.spent ≡ false) (of : IsPlanOf cars plan) where
  below : (c : ℕ) → c < car_count s → c < length cars
  below c lt = let count = answers.count in omega (arith, lt, count)

  -- the plan's tour is the one that the pricing gave
  gives : (c : ℕ) → c < car_count s → GivesTour s node c (price_at prices) (get_or cars c no_turn)
  gives c lt = (answers.each c lt).gives (none c (below c lt))

  same_tour : (c : ℕ) (lt : c < car_count s) → (gives c lt).tour ≡ tour_of plan c
  same_tour c lt = some-same (sym (gives c lt).given ∙ of.tours c (below c lt))
    where
      some-same : {t u : List Stop} → Some t ≡ Some u → t ≡ u
      some-same e = cc e

  within : (c : ℕ) → c < car_count s → IsTourIn s node c (tour_of plan c)
  within c lt = subst (IsTourIn s node c) (same_tour c lt) (gives c lt).within

  cars_are : length plan ≡ car_count s
  cars_are = of.count ∙ answers.count

  serves : (j : ℕ) → j < call_count s → times_served plan j ≡ 1
  serves j lt =
      let found = any_below-true (car_count s) (has (set_of node j)) (is_node.some j lt) in
      let at = found.0 in
      let is : set_of node j ≡ 2 ^ at = single j lt at found.2 in
      once (length plan) (λ c. is_boarded_in (tour_of plan c) j) at (subst (λ (n : ℕ). at < n) (sym cars_are) found.1)
      ((within at found.1).serves j (eq-eqb (set_of node j) (2 ^ at) is))
      (λ d below' boards. sym
      (has-single at d (subst (λ (x : ℕ). has x d ≡ true) is ((within d (subst (λ (n : ℕ). d < n) cars_are below')).keeps j boards))))

  pub single-feasible : IsFeasiblePlan s plan
  single-feasible = record { cars = cars_are; tours = λ c lt. (within c lt).feasible; serves_once = serves }

  -- what the plan costs is the sum of the prices and worths
  pub single-cost : scaled (plan_cost_of s plan) ≡ sum_of_sheet (sheet_of_turn prices cars)
  single-cost =
      let values = values-sum s plan (price_at prices) single-feasible in
      let worths : int_sum_below (car_count s) (λ c. value_of s c (price_at prices) (tour_of plan c))
      ≡ int_sum_below (car_count s) (λ c. (get_or cars c no_turn).priced.worth) =
      int_sum-same (car_count s) (λ c. value_of s c (price_at prices) (tour_of plan c)) (λ c. (get_or cars c no_turn).priced.worth)
      (λ c lt. ap (value_of s c (price_at prices)) (sym (same_tour c lt)) ∙ (gives c lt).has_it) in
      let listed : int_sum_below (car_count s) (λ c. (get_or cars c no_turn).priced.worth) ≡ sum_of_worths (map turn_worth cars) =
      ap (λ (n : ℕ). int_sum_below n (λ c. (get_or cars c no_turn).priced.worth)) (sym answers.count)
      ∙ int_sum-list (λ (t : TurnOf). t.priced.worth) cars no_turn ∙ sym (worths-sum cars) in
      let priced : int_sum_below (call_count s) (price_at prices) ≡ int_sum_by (λ (x : ℤ). x) prices =
      ap (λ (n : ℕ). int_sum_below n (price_at prices)) (sym answers.calls) ∙ int_sum-list (λ (x : ℤ). x) prices (pos 0) in
      omega (arith, ints, values, worths, listed, priced)

  -- so the plan costs no more than the bound of a leaf with that sum or a greater one
  pub single-bound : (cost : ℕ) (sheet : PriceSheet) → cost ≤ plan_cost_of s plan → sum_of_sheet (sheet_of_turn prices cars) ≤ℤ sum_of_sheet sheet
      → pos cost ≤ℤ rounded_up (sum_of_sheet sheet)
  single-bound cost sheet le up =
      let is = single-cost in
      let most = scaled-rounds (plan_cost_of s plan) (sum_of_sheet sheet) (omega (arith, ints, is, up)) in
      omega (arith, ints, le, most)
