-- A plan twice is a pair plan of lists that have its tours.
use Rattle.std.proofs.Common.{◌≡◌, ℕ, zero, suc, ◌+◌, ◌*◌, ◌<◌, ◌≤◌, ◌==◌, List, [], ◌∷◌, ◌++◌, length, refl, sym, ap, ◌∙◌, inl, inr, arith}
use Rattle.std.proofs.lemmas.Bool.{cases_lt, cond-true, eq-eqb}
use Rattle.std.proofs.lemmas.List.{get_or_default}
use Rattle.car_search.specs.Counts.{one_if}
use Rattle.call_sets.specs.Counting.{sum_below}
use Rattle.call_sets.proofs.Sums.{sum_below-same}
use Rattle.elevator_model.specs.declared.Stop.{Stop}
use Rattle.elevator_model.specs.Snapshot.{Snapshot, car_count, call_count}
use Rattle.elevator_model.specs.Costs.{cost_of}
use Rattle.elevator_model.specs.Plans.{IsFeasiblePlan, is_boarded_in, plan_cost_of, times_served, tour_of}
use Rattle.half_plans.specs.declared.Pair.{Pair}
use Rattle.half_plans.specs.declared.Share.{Share}
use Rattle.half_plans.specs.PairPlans.{ArePairShares, IsPairPlan, boards_of_pair, cost_of_pair, list_of, pair_plan_cost, share_of, shares_below, shares_of_pair}
use Rattle.half_plans.specs.PairPlans.{tour_at}
use Rattle.root_prices.specs.Doubles.{HasPlan, doubled_below}

sum_doubled : (n : ℕ) (f : ℕ → ℕ) → sum_below n (λ c. f c + f c) ≡ sum_below n f + sum_below n f
sum_doubled zero f = refl
sum_doubled (suc n) f = let before = sum_doubled n f in omega (arith, before)

module _ (s : Snapshot) (plan : List (List Stop)) (lists : List (List (List Stop))) (feasible : IsFeasiblePlan s plan) (has : HasPlan s plan lists) where
  -- where the car's tour stands in its list
  pub record HasPlace (c : ℕ) : Type 0 where
    pub place : ℕ
    pub within : c < car_count s → place < length (list_of lists c)
    pub at : c < car_count s → tour_at (list_of lists c) place ≡ tour_of plan c

  pub place_of : (c : ℕ) → HasPlace c
  place_of c = elim (cases_lt c (car_count s)) [
    | inl lt ↦ found lt
    | inr past ↦ record { place = 0; within = λ lt. absurd (omega (arith, lt, past)); at = λ lt. absurd (omega (arith, lt, past)) }
  ]
    where
      found : c < car_count s → HasPlace c
      found lt =
          let h = has c lt in
          record { place = h.0; within = λ _. h.1; at = λ _. sym (get_or_default (list_of lists c) h.0 (tour_of plan c) [] h.1) ∙ h.2 }

  abbrev pub pairs : ℕ → Pair
  pairs c = record { first = (place_of c).place; second = (place_of c).place }

  boards : (j c : ℕ) → c < car_count s
      → boards_of_pair (list_of lists c) (pairs c) j ≡ one_if (is_boarded_in (tour_of plan c) j) + one_if (is_boarded_in (tour_of plan c) j)
  boards j c lt = ap (λ (tour : List Stop). one_if (is_boarded_in tour j) + one_if (is_boarded_in tour j)) ((place_of c).at lt)

  served : (j : ℕ) → sum_below (car_count s) (λ c. one_if (is_boarded_in (tour_of plan c) j)) ≡ times_served plan j
  served j = ap (λ (n : ℕ). sum_below n (λ c. one_if (is_boarded_in (tour_of plan c) j))) (sym feasible.cars)

  costs : (c : ℕ) → c < car_count s → cost_of_pair s c (list_of lists c) (pairs c) ≡ cost_of s c (tour_of plan c) + cost_of s c (tour_of plan c)
  costs c lt = ap (λ (tour : List Stop). cost_of s c tour + cost_of s c tour) ((place_of c).at lt)

  pub is_plan : IsPairPlan s lists pairs
  is_plan = record {
    places = λ c lt. record { ordered = omega arith; within = (place_of c).within lt };
    twice = λ j lt. twice_served j lt;
  }
    where
      twice_served : (j : ℕ) → j < call_count s → sum_below (car_count s) (λ c. boards_of_pair (list_of lists c) (pairs c) j) ≡ 2
      twice_served j lt =
          let same = sum_below-same (car_count s) (λ c. boards_of_pair (list_of lists c) (pairs c) j)
          (λ c. one_if (is_boarded_in (tour_of plan c) j) + one_if (is_boarded_in (tour_of plan c) j)) (λ c less. boards j c less) in
          let both = sum_doubled (car_count s) (λ c. one_if (is_boarded_in (tour_of plan c) j)) in
          let all = served j in
          let once = feasible.serves_once j lt in
          omega (arith, same, both, all, once)

  pub double_cost : pair_plan_cost s lists pairs ≡ 2 * plan_cost_of s plan
  double_cost =
      let same = sum_below-same (car_count s) (λ c. cost_of_pair s c (list_of lists c) (pairs c))
      (λ c. cost_of s c (tour_of plan c) + cost_of s c (tour_of plan c)) (λ c less. costs c less) in
      let both = sum_doubled (car_count s) (λ c. cost_of s c (tour_of plan c)) in
      omega (arith, same, both)

  share : (c : ℕ) → c < car_count s → shares_of_pair c (list_of lists c) (pairs c) ≡ share_of c 2 (tour_of plan c) ∷ []
  share c lt =
      let place = (place_of c).place in
      let tours = list_of lists c in
      cond-true (place == place) (share_of c 2 (tour_at tours place) ∷ []) (share_of c 1 (tour_at tours place) ∷ share_of c 1 (tour_at tours place) ∷ [])
      (eq-eqb place place refl) ∙ ap (λ (tour : List Stop). share_of c 2 tour ∷ []) ((place_of c).at lt)

  shares : (n : ℕ) → n ≤ car_count s → shares_below lists pairs n ≡ doubled_below plan n
  shares zero le = refl
  shares (suc n) le =
      ap (λ (before : List Share). before ++ shares_of_pair n (list_of lists n) (pairs n)) (shares n (omega (arith, le)))
      ∙ ap (λ (here : List Share). doubled_below plan n ++ here) (share n (omega (arith, le)))

  pub doubled_shares : ArePairShares s lists (doubled_below plan (length plan)) (2 * plan_cost_of s plan)
  doubled_shares = record {
    pairs = pairs;
    plan = is_plan;
    is = ap (doubled_below plan) feasible.cars ∙ sym (shares (car_count s) (omega arith));
    cost = sym double_cost;
  }

-- one tour more
pub doubled_more : (plan : List (List Stop)) (k : ℕ) (old new : List Share) (tour : List Stop) → old ≡ doubled_below plan k → tour ≡ tour_of plan k
    → new ≡ old ++ share_of k 2 tour ∷ [] → new ≡ doubled_below plan (k + 1)
doubled_more plan k old new tour so_far at is =
    let next : k + 1 ≡ suc k = omega arith in
    is ∙ ap (λ (xs : List Share). xs ++ share_of k 2 tour ∷ []) so_far ∙ ap (λ (t : List Stop). doubled_below plan k ++ share_of k 2 t ∷ []) at
    ∙ sym (ap (doubled_below plan) next)
