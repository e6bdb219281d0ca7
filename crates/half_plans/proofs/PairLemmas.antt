-- A pair plan is a mixture of halves.
use Rattle.std.proofs.Common.{◌≡◌, ℕ, zero, suc, ◌+◌, ◌*◌, ◌^◌, ◌<◌, ◌≤◌, ◌==◌, Bool, true, false, cond, List, [], ◌∷◌, refl, sym, ap, ◌∙◌, subst, inl, inr}
use Rattle.std.proofs.Common.{arith}
use Rattle.std.specs.Prelude.{sum_by, All}
use Rattle.std.proofs.lemmas.Bool.{cases_Bool, cases_eq, cases_lt, and_parts, eq-eqb, eqb-true, ne_eqb, cond-true, cond-false}
use Rattle.std.proofs.lemmas.Nat.{pow_pos}
use Rattle.std.proofs.lemmas.List.{get_or_past}
use Rattle.std.proofs.lemmas.List.Elements.{All-nil, All-cons, All-append}
use Rattle.std.proofs.lemmas.List.Sums.{sum_by-cons, sum_by-append}
use Rattle.call_sets.specs.Counting.{has, sum_below}
use Rattle.call_sets.proofs.Sums.{sum_below-same}
use Rattle.elevator_model.specs.declared.Stop.{Stop}
use Rattle.elevator_model.specs.Snapshot.{Snapshot, call_count, car_count, call_of, is_possible}
use Rattle.elevator_model.specs.Tours.{IsFeasible}
use Rattle.elevator_model.specs.Costs.{cost_of}
use Rattle.elevator_model.specs.Plans.{is_boarded_in}
use Rattle.search_model.specs.Nodes.{set_of, root_of, allows, requires_of}
use Rattle.search_model.proofs.SetLemmas.{has-single, has-set_where}
use Rattle.search_model.proofs.SnapshotNodes.{set_of-root}
use Rattle.search_model.proofs.FeasibleLemmas.{boarded-possible, boarded-below, length-root_of}
use Rattle.std.specs.Prelude.{nat_lt}
use Rattle.half_plans.specs.declared.Share.{Share}
use Rattle.half_plans.specs.declared.Pair.{Pair}
use Rattle.half_plans.specs.Mixtures.{weight_where, mixture_cost, IsShare}
use Rattle.car_search.specs.Counts.{one_if}
use Rattle.half_plans.specs.PairPlans.{list_of, tour_at, AreTourLists, boards_of_pair, cost_of_pair, IsPairPlan, pair_plan_cost, share_of, shares_of_pair}
use Rattle.half_plans.specs.PairPlans.{shares_below, shares_of, HalvesLaw}

-- ---- sums over the shares of pairs

over_cars : (f : Share → ℕ) (lists : List (List (List Stop))) (pairs : ℕ → Pair) (n : ℕ)
    → sum_by f (shares_below lists pairs n) ≡ sum_below n (λ c. sum_by f (shares_of_pair c (list_of lists c) (pairs c)))
over_cars f lists pairs zero = refl
over_cars f lists pairs (suc n) =
    let joined = sum_by-append f (shares_below lists pairs n) (shares_of_pair n (list_of lists n) (pairs n)) in
    let before = over_cars f lists pairs n in
    omega (arith, joined, before)

of_one : (f : Share → ℕ) (x : Share) → sum_by f (x ∷ []) ≡ f x
of_one f x = (let first = sum_by-cons f x [] in omega (arith, first))

of_two : (f : Share → ℕ) (x y : Share) → sum_by f (x ∷ y ∷ []) ≡ f x + f y
of_two f x y = (let first = sum_by-cons f x (y ∷ []) in let second = of_one f y in omega (arith, first, second))

of_pair : (f : Share → ℕ) (g : List Stop → ℕ) (c : ℕ) (tours : List (List Stop)) (pair : Pair) → ((tour : List Stop) → f (share_of c 1 tour) ≡ g tour)
    → ((tour : List Stop) → f (share_of c 2 tour) ≡ g tour + g tour)
    → sum_by f (shares_of_pair c tours pair) ≡ g (tour_at tours pair.first) + g (tour_at tours pair.second)
of_pair f g c tours pair once twice =
    let first = tour_at tours pair.first in
    let second = tour_at tours pair.second in
    let one : List Share = share_of c 2 first ∷ [] in
    let two : List Share = share_of c 1 first ∷ share_of c 1 second ∷ [] in
    elim (cases_Bool (pair.first == pair.second)) [
      | inl e ↦ ap (sum_by f) (cond-true (pair.first == pair.second) one two e) ∙ of_one f (share_of c 2 first) ∙ twice first
          ∙ ap (λ (k : ℕ). g first + g (tour_at tours k)) (eqb-true pair.first pair.second e)
      | inr e ↦ ap (sum_by f) (cond-false (pair.first == pair.second) one two e) ∙ of_two f (share_of c 1 first) (share_of c 1 second)
          ∙ ap (λ (k : ℕ). k + f (share_of c 1 second)) (once first) ∙ ap (λ (k : ℕ). g first + k) (once second)
    ]

-- ---- the shares of a pair are tours of the root

-- a sum in which one number alone counts
sum_alone : (n c : ℕ) (f : ℕ → ℕ) → c < n → ((d : ℕ) → d < n → (d ≡ c → ⊥) → f d ≡ 0) → sum_below n f ≡ f c
sum_alone zero c f lt others = absurd (omega (arith, lt))
sum_alone (suc n) c f lt others =
    elim (cases_eq n c) [
      | inl e ↦ (let none = all_none n f (λ d less. others d (omega (arith, less)) (λ same. absurd (omega (arith, same, e, less)))) in let here = ap f e in
          omega (arith, none, here))
      | inr ne ↦ (let before = sum_alone n c f (less_than ne) (λ d less apart. others d (omega (arith, less)) apart) in let here = others n (omega arith) ne in
          omega (arith, before, here))
    ]
  where
    less_than : (n ≡ c → ⊥) → c < n
    less_than ne = elim (cases_lt c n) [ inl less ↦ less | inr past ↦ absurd (ne (omega (arith, past, lt))) ]

    all_none : (m : ℕ) (g : ℕ → ℕ) → ((d : ℕ) → d < m → g d ≡ 0) → sum_below m g ≡ 0
    all_none zero g none = refl
    all_none (suc m) g none =
        let before = all_none m g (λ d less. none d (omega (arith, less))) in
        let here = none m (omega arith) in
        omega (arith, before, here)

boarded-allowed : (s : Snapshot) (c : ℕ) (tour : List Stop) (j : ℕ) → IsFeasible s c tour → c < car_count s → is_boarded_in tour j ≡ true
    → allows (root_of s) c j ≡ true
boarded-allowed s c tour j feasible lt boards =
    ap (λ (x : ℕ). has x c) (set_of-root s j (boarded-below s c tour j feasible boards))
    ∙ has-set_where (car_count s) (λ d. is_possible s d (call_of s j)) c lt
    ∙ (and_parts (nat_lt j (call_count s)) (is_possible s c (call_of s j)) (boarded-possible s c tour j feasible boards)).1

-- a call that one car alone may board is one of the snapshot
required-below : (s : Snapshot) (c j : ℕ) → requires_of (root_of s) c j ≡ true → j < call_count s
required-below s c j required =
    elim (cases_lt j (call_count s)) [ inl lt ↦ lt | inr past ↦ absurd (none_past past) ]
  where
    none_past : call_count s ≤ j → ⊥
    none_past past =
        let len = length-root_of s in
        let none : set_of (root_of s) j ≡ 0 = get_or_past (root_of s) j 0 (omega (arith, len, past)) in
        let some = pow_pos c in
        let single = eqb-true (set_of (root_of s) j) (2 ^ c) required in
        omega (arith, none, some, single)

both_boarded : (a b : Bool) → one_if a + one_if b ≡ 2 → (a ≡ true) × (b ≡ true)
both_boarded true true e = (refl, refl)
both_boarded true false e = absurd (omega (arith, e))
both_boarded false true e = absurd (omega (arith, e))
both_boarded false false e = absurd (omega (arith, e))

pub not_boarded : (b : Bool) → (b ≡ true → ⊥) → one_if b ≡ 0
not_boarded true never = absurd (never refl)
not_boarded false never = refl

module _ (s : Snapshot) (lists : List (List (List Stop))) (pairs : ℕ → Pair) (are : AreTourLists s lists) (plan : IsPairPlan s lists pairs) where
  pub first_feasible : (c : ℕ) → c < car_count s → IsFeasible s c (tour_at (list_of lists c) (pairs c).first)
  first_feasible c lt =
      let place = plan.places c lt in
      let ordered = place.ordered in
      let within = place.within in
      are.feasible c lt (pairs c).first [] (omega (arith, ordered, within))

  pub second_feasible : (c : ℕ) → c < car_count s → IsFeasible s c (tour_at (list_of lists c) (pairs c).second)
  second_feasible c lt = are.feasible c lt (pairs c).second [] (plan.places c lt).within

  -- a call that one car alone may board boards in both of its tours
  required-both : (c j : ℕ) → c < car_count s → requires_of (root_of s) c j ≡ true → (is_boarded_in (tour_at (list_of lists c) (pairs c).first) j ≡ true)
      × (is_boarded_in (tour_at (list_of lists c) (pairs c).second) j ≡ true)
  required-both c j lt required =
      both_boarded (is_boarded_in (tour_at (list_of lists c) (pairs c).first) j) (is_boarded_in (tour_at (list_of lists c) (pairs c).second) j)
      (sym (sum_alone (car_count s) c (λ d. boards_of_pair (list_of lists d) (pairs d) j) lt
      (λ d less apart. (let first =
      not_boarded (is_boarded_in (tour_at (list_of lists d) (pairs d).first) j)
      (λ boards. apart (only d (boarded-allowed s d (tour_at (list_of lists d) (pairs d).first) j (first_feasible d less) less boards))) in
      let second = not_boarded (is_boarded_in (tour_at (list_of lists d) (pairs d).second) j)
      (λ boards. apart (only d (boarded-allowed s d (tour_at (list_of lists d) (pairs d).second) j (second_feasible d less) less boards))) in
      omega (arith, first, second)))) ∙ plan.twice j (required-below s c j required))
    where
      only : (d : ℕ) → allows (root_of s) d j ≡ true → d ≡ c
      only d allowed =
          has-single c d (ap (λ (x : ℕ). has x d) (sym (eqb-true (set_of (root_of s) j) (2 ^ c) required)) ∙ allowed)

  first_share : (c weight : ℕ) → c < car_count s → 1 ≤ weight → IsShare s (share_of c weight (tour_at (list_of lists c) (pairs c).first))
  first_share c weight lt some = record {
    car = lt;
    weight = some;
    tour = record {
      feasible = first_feasible c lt;
      serves = λ j required. (required-both c j lt required).0;
      keeps = λ j boards. boarded-allowed s c (tour_at (list_of lists c) (pairs c).first) j (first_feasible c lt) lt boards;
    };
  }

  second_share : (c weight : ℕ) → c < car_count s → 1 ≤ weight → IsShare s (share_of c weight (tour_at (list_of lists c) (pairs c).second))
  second_share c weight lt some = record {
    car = lt;
    weight = some;
    tour = record {
      feasible = second_feasible c lt;
      serves = λ j required. (required-both c j lt required).1;
      keeps = λ j boards. boarded-allowed s c (tour_at (list_of lists c) (pairs c).second) j (second_feasible c lt) lt boards;
    };
  }

  pair_shares : (c : ℕ) → c < car_count s → All (IsShare s) (shares_of_pair c (list_of lists c) (pairs c))
  pair_shares c lt =
      let pair = pairs c in
      let first = tour_at (list_of lists c) pair.first in
      let second = tour_at (list_of lists c) pair.second in
      let one : List Share = share_of c 2 first ∷ [] in
      let two : List Share = share_of c 1 first ∷ share_of c 1 second ∷ [] in
      elim (cases_Bool (pair.first == pair.second)) [
        | inl e ↦ subst (All (IsShare s)) (sym (cond-true (pair.first == pair.second) one two e))
            (All-cons (IsShare s) (share_of c 2 first) [] (first_share c 2 lt (omega arith)) (All-nil (IsShare s)))
        | inr e ↦ subst (All (IsShare s)) (sym (cond-false (pair.first == pair.second) one two e))
            (All-cons (IsShare s) (share_of c 1 first) (share_of c 1 second ∷ []) (first_share c 1 lt (omega arith))
            (All-cons (IsShare s) (share_of c 1 second) [] (second_share c 1 lt (omega arith)) (All-nil (IsShare s))))
      ]

  all_shares : (n : ℕ) → n ≤ car_count s → All (IsShare s) (shares_below lists pairs n)
  all_shares zero le = All-nil (IsShare s)
  all_shares (suc n) le =
      All-append (IsShare s) (shares_below lists pairs n) (shares_of_pair n (list_of lists n) (pairs n)) (all_shares n (omega (arith, le)))
      (pair_shares n (omega (arith, le)))

  -- ---- its sums

  car_of_pair : (c d : ℕ) → sum_by (λ (x : Share). cond (x.car == c) x.weight 0) (shares_of_pair d (list_of lists d) (pairs d)) ≡ cond (d == c) 2 0
  car_of_pair c d =
      of_pair (λ (x : Share). cond (x.car == c) x.weight 0) (λ tour. cond (d == c) 1 0) d (list_of lists d) (pairs d) (λ tour. refl) (λ tour. doubled (d == c))
      ∙ sym (doubled (d == c))
    where
      doubled : (b : Bool) → cond b 2 0 ≡ cond b 1 0 + cond b 1 0
      doubled true = refl
      doubled false = refl

  by_car : (c : ℕ) → c < car_count s → weight_where (λ (x : Share). x.car == c) (shares_of s lists pairs) ≡ 2
  by_car c lt =
      over_cars (λ (x : Share). cond (x.car == c) x.weight 0) lists pairs (car_count s)
      ∙ sum_below-same (car_count s) (λ d. sum_by (λ (x : Share). cond (x.car == c) x.weight 0) (shares_of_pair d (list_of lists d) (pairs d)))
      (λ d. cond (d == c) 2 0) (λ d less. car_of_pair c d)
      ∙ sum_alone (car_count s) c (λ d. cond (d == c) 2 0) lt (λ d less apart. cond-false (d == c) 2 0 (ne_eqb d c apart))
      ∙ cond-true (c == c) 2 0 (eq-eqb c c refl)

  call_of_pair : (j d : ℕ)
      → sum_by (λ (x : Share). cond (is_boarded_in x.tour j) x.weight 0) (shares_of_pair d (list_of lists d) (pairs d))
      ≡ boards_of_pair (list_of lists d) (pairs d) j
  call_of_pair j d =
      of_pair (λ (x : Share). cond (is_boarded_in x.tour j) x.weight 0) (λ tour. one_if (is_boarded_in tour j)) d (list_of lists d) (pairs d) (λ tour. refl)
      (λ tour. doubled (is_boarded_in tour j))
    where
      doubled : (b : Bool) → cond b 2 0 ≡ one_if b + one_if b
      doubled true = refl
      doubled false = refl

  by_call : (j : ℕ) → j < call_count s → weight_where (λ (x : Share). is_boarded_in x.tour j) (shares_of s lists pairs) ≡ 2
  by_call j lt =
      over_cars (λ (x : Share). cond (is_boarded_in x.tour j) x.weight 0) lists pairs (car_count s)
      ∙ sum_below-same (car_count s) (λ d. sum_by (λ (x : Share). cond (is_boarded_in x.tour j) x.weight 0) (shares_of_pair d (list_of lists d) (pairs d)))
      (λ d. boards_of_pair (list_of lists d) (pairs d) j) (λ d less. call_of_pair j d) ∙ plan.twice j lt

  cost_of_shares : (d : ℕ)
      → sum_by (λ (x : Share). x.weight * cost_of s x.car x.tour) (shares_of_pair d (list_of lists d) (pairs d)) ≡ cost_of_pair s d (list_of lists d) (pairs d)
  cost_of_shares d =
      of_pair (λ (x : Share). x.weight * cost_of s x.car x.tour) (λ tour. cost_of s d tour) d (list_of lists d) (pairs d) (λ tour. omega arith)
      (λ tour. omega arith)

  by_cost : mixture_cost s (shares_of s lists pairs) ≡ pair_plan_cost s lists pairs
  by_cost =
      over_cars (λ (x : Share). x.weight * cost_of s x.car x.tour) lists pairs (car_count s)
      ∙ sum_below-same (car_count s) (λ d. sum_by (λ (x : Share). x.weight * cost_of s x.car x.tour) (shares_of_pair d (list_of lists d) (pairs d)))
      (λ d. cost_of_pair s d (list_of lists d) (pairs d)) (λ d less. cost_of_shares d)

pub halves : HalvesLaw
halves s lists pairs are plan = record {
  some = omega arith;
  each = all_shares s lists pairs are plan (car_count s) (omega arith);
  cars = λ c lt. by_car s lists pairs are plan c lt;
  calls = λ j lt. by_call s lists pairs are plan j lt;
  cost = by_cost s lists pairs are plan;
}
