-- Plans in nodes: a split loses no plan.
use Rattle.std.proofs.Common.{◌≡◌, ℕ, zero, suc, ◌<◌, ◌≤◌, Bool, true, false, not, ◌&&◌, ◌||◌, cond, List, length, set, refl, sym, ap, ◌∙◌, subst, inl, inr}
use Rattle.std.proofs.Common.{arith}
use Rattle.std.proofs.lemmas.Bool.{cases_Bool, cases_eq, both_ways, false_from_ne_true, and_parts, and_left, and_right, and_from, not_from_true, not_from_false}
use Rattle.std.proofs.lemmas.Bool.{not-true, not-false}
use Rattle.std.proofs.lemmas.List.{length-set, get_or-set_same, get_or-set_other}
use Rattle.elevator_model.specs.declared.Stop.{Stop}
use Rattle.call_sets.specs.Counting.{has, any_below, sum_where}
use Rattle.call_sets.proofs.BelowTests.{any_below-false, any_below-none}
use Rattle.call_sets.proofs.Counts.{count-some}
use Rattle.elevator_model.specs.Snapshot.{Snapshot, car_count, call_count}
use Rattle.elevator_model.specs.Plans.{IsFeasiblePlan, is_boarded_in, tour_of}
use Rattle.search_model.specs.Nodes.{Node, set_of, allows, is_plan_in, is_part, rest_of, first_of_split, second_of_split, IsInOneOf}
use Rattle.search_model.proofs.SetLemmas.{has-rest_of}

-- each call of the plan is with a car of its set
pub record IsWithin (node : Node) (plan : List (List Stop)) : Type 0 where
  pub at : (j c : ℕ) → j < length node → c < length plan → is_boarded_in (tour_of plan c) j ≡ true → has (set_of node j) c ≡ true

pub within-from : (node : Node) (plan : List (List Stop)) → is_plan_in node plan ≡ true → IsWithin node plan
within-from node plan h =
    record {
      at = λ j c lt in' boards.
          let none : any_below (length node) (λ i. any_below (length plan) (λ d. is_boarded_in (tour_of plan d) i && not (allows node d i))) ≡ false =
          not-true _ h in
          let here : any_below (length plan) (λ d. is_boarded_in (tour_of plan d) j && not (allows node d j)) ≡ false =
          any_below-false (length node) (λ i. any_below (length plan) (λ d. is_boarded_in (tour_of plan d) i && not (allows node d i))) j none lt in
          let both : (is_boarded_in (tour_of plan c) j && not (allows node c j)) ≡ false =
          any_below-false (length plan) (λ d. is_boarded_in (tour_of plan d) j && not (allows node d j)) c here in' in
          let out : (true && not (allows node c j)) ≡ false = subst (λ (b : Bool). (b && not (allows node c j)) ≡ false) boards both in
          not-false (allows node c j) out;
    }

pub within-to : (node : Node) (plan : List (List Stop)) → IsWithin node plan → is_plan_in node plan ≡ true
within-to node plan w =
    not_from_false _ (any_below-none (length node) (λ i. any_below (length plan) (λ d. is_boarded_in (tour_of plan d) i && not (allows node d i)))
    (λ j lt. any_below-none (length plan) (λ d. is_boarded_in (tour_of plan d) j && not (allows node d j)) (λ c in'. at_car j c lt in')))
  where
    at_car : (j c : ℕ) → j < length node → c < length plan → (is_boarded_in (tour_of plan c) j && not (allows node c j)) ≡ false
    at_car j c lt in' =
        elim (cases_Bool (is_boarded_in (tour_of plan c) j)) [
          | inl e ↦ and_right (is_boarded_in (tour_of plan c) j) (not (allows node c j)) (not_from_true (allows node c j) (w.at j c lt in' e))
          | inr e ↦ and_left (is_boarded_in (tour_of plan c) j) (not (allows node c j)) e
        ]

-- the two tests give one answer
same_answer : (a b : Bool) → (a ≡ true → b ≡ true) → (b ≡ true → a ≡ true) → a ≡ b
same_answer true b to from = sym (to refl)
same_answer false b to from = sym (false_from_ne_true b (λ e. both_ways false refl (from e)))

-- a number that is counted once is one place
pub once-at : (n : ℕ) (t : ℕ → Bool) → sum_where n t (λ _. 1) ≡ 1 → (c : ℕ) × (c < n) × (t c ≡ true)
once-at zero t h = absurd (omega (arith, h))
once-at (suc n) t h =
    elim (cases_Bool (t n)) [
      | inl e ↦ (n, omega arith, e)
      | inr e ↦ (let none = ap {B = ℕ} (λ (b : Bool). cond b 1 0) e in let less : sum_where n t (λ _. 1) ≡ 1 = omega (arith, none, h) in
          let r = once-at n t less in let lt = r.1 in (r.0, omega arith, r.2))
    ]

pub once-same : (n : ℕ) (t : ℕ → Bool) → sum_where n t (λ _. 1) ≡ 1 → (c d : ℕ) → c < n → d < n → t c ≡ true → t d ≡ true → c ≡ d
once-same zero t h c d p q x y = absurd (omega arith)
once-same (suc n) t h c d p q x y =
    elim (cases_Bool (t n)) [
      | inl e ↦ (let one = ap {B = ℕ} (λ (b : Bool). cond b 1 0) e in let less : sum_where n t (λ _. 1) ≡ 0 = omega (arith, one, h) in
          let atc : c ≡ n = last less c p x in let atd : d ≡ n = last less d q y in omega arith)
      | inr e ↦ (let none = ap {B = ℕ} (λ (b : Bool). cond b 1 0) e in let less : sum_where n t (λ _. 1) ≡ 1 = omega (arith, none, h) in
          once-same n t less c d (not_last e c p x) (not_last e d q y) x y)
    ]
  where
    last : sum_where n t (λ _. 1) ≡ 0 → (k : ℕ) → k < suc n → t k ≡ true → k ≡ n
    last less k b here = elim (cases_eq k n) [
      | inl same ↦ same
      | inr ne ↦ (let some = count-some n t k (omega arith) here in absurd (omega (arith, some, less)))
    ]

    not_last : t n ≡ false → (k : ℕ) → k < suc n → t k ≡ true → k < n
    not_last e k b here = elim (cases_eq k n) [ inl same ↦ absurd (both_ways (t n) e (subst (λ (i : ℕ). t i ≡ true) same here)) | inr ne ↦ omega arith ]

-- the parts of a split
pub record IsPartOf (whole part : ℕ) : Type 0 where
  pub within : (c : ℕ) → c < 16 → has part c ≡ true → has whole c ≡ true

pub part-from : (whole part : ℕ) → is_part whole part ≡ true → IsPartOf whole part
part-from whole part h =
    let both = and_parts (any_below 16 (has part) && any_below 16 (λ c. has whole c && not (has part c)))
    (not (any_below 16 (λ c. has part c && not (has whole c)))) h in
    let none : any_below 16 (λ c. has part c && not (has whole c)) ≡ false = not-true _ both.1 in
    record {
      within = λ c lt here.
          let out : (has part c && not (has whole c)) ≡ false = any_below-false 16 (λ d. has part d && not (has whole d)) c none lt in
          let in' : (true && not (has whole c)) ≡ false = subst (λ (b : Bool). (b && not (has whole c)) ≡ false) here out in
          not-false (has whole c) in';
    }

pub set_of-set : (node : Node) (j x : ℕ) → j < length node → set_of (set node j x) j ≡ x
set_of-set node j x lt = get_or-set_same node j x 0 lt

pub set_of-other : (node : Node) (j x i : ℕ) → (i ≡ j → ⊥) → set_of (set node j x) i ≡ set_of node i
set_of-other node j x i ne = get_or-set_other node j i x 0 ne

-- two nodes that differ at one call
pub within-other : (node other : Node) (plan : List (List Stop)) (j : ℕ) → length other ≡ length node
    → ((i : ℕ) → (i ≡ j → ⊥) → set_of other i ≡ set_of node i)
    → ((c : ℕ) → j < length node → c < length plan → is_boarded_in (tour_of plan c) j ≡ true → has (set_of node j) c ≡ true → has (set_of other j) c ≡ true)
    → IsWithin node plan → IsWithin other plan
within-other node other plan j len others here w =
    record {
      at = λ i c lt in' boards.
          let lt' : i < length node = subst (λ (n : ℕ). i < n) len lt in
          let had : has (set_of node i) c ≡ true = w.at i c lt' in' boards in
          elim (cases_eq i j) [ inl e ↦ moved i c e lt' in' boards had | inr ne ↦ ap (λ (x : ℕ). has x c) (others i ne) ∙ had ];
    }
  where
    moved : (i c : ℕ) → i ≡ j → i < length node → c < length plan → is_boarded_in (tour_of plan c) i ≡ true → has (set_of node i) c ≡ true
        → has (set_of other i) c ≡ true
    moved i c e lt in' boards had =
        subst (λ (x : ℕ). has (set_of other x) c ≡ true) (sym e)
        (here c (subst (λ (x : ℕ). x < length node) e lt) in' (subst (λ (x : ℕ). is_boarded_in (tour_of plan c) x ≡ true) e boards)
        (subst (λ (x : ℕ). has (set_of node x) c ≡ true) e had))

-- whole is one of two, and the other one is false
in_first : (whole first second : Bool) → whole ≡ first → second ≡ false → IsInOneOf whole first second
in_first whole first second same none =
    record { either = same ∙ or_none first ∙ ap (λ (b : Bool). first || b) (sym none); not_both = and_right first second none }
  where
    or_none : (b : Bool) → b ≡ (b || false)
    or_none true = refl
    or_none false = refl

in_second : (whole first second : Bool) → whole ≡ second → first ≡ false → IsInOneOf whole first second
in_second whole first second same none =
    record { either = same ∙ ap (λ (b : Bool). b || second) (sym none); not_both = and_left first second none }

-- A split loses no plan: one that was in the node is in exactly one of the two.
pub split-keeps : (s : Snapshot) (node : Node) (j part : ℕ) (plan : List (List Stop)) → IsFeasiblePlan s plan → car_count s ≤ 16 → length node ≡ call_count s
    → j < call_count s → is_part (set_of node j) part ≡ true
    → IsInOneOf (is_plan_in node plan) (is_plan_in (first_of_split node j part) plan) (is_plan_in (second_of_split node j part) plan)
split-keeps s node j part plan feasible cars len lt is =
    let one : sum_where (length plan) boards (λ _. 1) ≡ 1 = feasible.serves_once j lt in
    let found = once-at (length plan) boards one in
    let small : found.0 < 16 = let a = found.1 in let b = feasible.cars in omega (arith, a, b, cars) in
    let inside : IsPartOf (set_of node j) part = part-from (set_of node j) part is in
    elim (cases_Bool (has part found.0)) [
      | inl e ↦ in_first _ _ _
          (same_answer _ _ (λ h. within-to first plan
          (within-other node first plan j len_first others_first
          (λ c k in' b _. ap (λ (x : ℕ). has x c) at_first
          ∙ subst (λ (x : ℕ). has part x ≡ true) (once-same (length plan) boards one found.0 c found.1 in' found.2 b) e) (within-from node plan h)))
          (λ h. within-to node plan
          (within-other first node plan j (sym len_first) (λ i ne. sym (others_first i ne))
          (λ c k in' b had. inside.within c (let x = feasible.cars in omega (arith, in', x, cars)) (ap (λ (x : ℕ). has x c) (sym at_first) ∙ had))
          (within-from first plan h)))) (not_second found.0 found.1 small found.2 e)
      | inr e ↦ in_second _ _ _
          (same_answer _ _ (λ h. within-to second plan
          (within-other node second plan j len_second others_second (λ c k in' b had. in_rest found.0 found.1 small found.2 e c in' b had)
          (within-from node plan h)))
          (λ h. within-to node plan
          (within-other second node plan j (sym len_second) (λ i ne. sym (others_second i ne))
          (λ c k in' b had. from_rest c (let x = feasible.cars in omega (arith, in', x, cars)) had) (within-from second plan h))))
          (not_first found.0 found.1 found.2 e)
    ]
  where
    first : Node
    first = first_of_split node j part

    second : Node
    second = second_of_split node j part

    boards : ℕ → Bool
    boards c = is_boarded_in (tour_of plan c) j

    in_node : j < length node
    in_node = omega (arith, len, lt)

    len_first : length first ≡ length node
    len_first = length-set node j part

    len_second : length second ≡ length node
    len_second = length-set node j (rest_of (set_of node j) part)

    others_first : (i : ℕ) → (i ≡ j → ⊥) → set_of first i ≡ set_of node i
    others_first i ne = set_of-other node j part i ne

    others_second : (i : ℕ) → (i ≡ j → ⊥) → set_of second i ≡ set_of node i
    others_second i ne = set_of-other node j (rest_of (set_of node j) part) i ne

    at_first : set_of first j ≡ part
    at_first = set_of-set node j part in_node

    at_second : set_of second j ≡ rest_of (set_of node j) part
    at_second = set_of-set node j (rest_of (set_of node j) part) in_node

    rest_at : (c : ℕ) → c < 16 → has (set_of second j) c ≡ (has (set_of node j) c && not (has part c))
    rest_at c small = ap (λ (x : ℕ). has x c) at_second ∙ has-rest_of (set_of node j) part c small

    not_second : (c : ℕ) → c < length plan → c < 16 → boards c ≡ true → has part c ≡ true → is_plan_in second plan ≡ false
    not_second c in' small b e =
        false_from_ne_true (is_plan_in second plan)
        (λ h. let had : has (set_of second j) c ≡ true = (within-from second plan h).at j c (omega (arith, len_second, in_node)) in' b in
        let out : (has (set_of node j) c && not (has part c)) ≡ false =
        and_right (has (set_of node j) c) (not (has part c)) (not_from_true (has part c) e) in
        both_ways (has (set_of second j) c) (rest_at c small ∙ out) had)

    not_first : (c : ℕ) → c < length plan → boards c ≡ true → has part c ≡ false → is_plan_in first plan ≡ false
    not_first c in' b e =
        false_from_ne_true (is_plan_in first plan)
        (λ h. let had : has (set_of first j) c ≡ true = (within-from first plan h).at j c (omega (arith, len_first, in_node)) in' b in
        both_ways (has part c) e (ap (λ (x : ℕ). has x c) (sym at_first) ∙ had))

    in_rest : (d : ℕ) → d < length plan → d < 16 → boards d ≡ true → has part d ≡ false → (c : ℕ) → c < length plan → boards c ≡ true
        → has (set_of node j) c ≡ true → has (set_of second j) c ≡ true
    in_rest d at small b e c in' here had =
        let same : d ≡ c = once-same (length plan) boards (feasible.serves_once j lt) d c at in' b here in
        let none : has part c ≡ false = subst (λ (x : ℕ). has part x ≡ false) same e in
        let small' : c < 16 = subst (λ (x : ℕ). x < 16) same small in
        rest_at c small' ∙ and_from (has (set_of node j) c) (not (has part c)) had (not_from_false (has part c) none)

    from_rest : (c : ℕ) → c < 16 → has (set_of second j) c ≡ true → has (set_of node j) c ≡ true
    from_rest c small had = (and_parts (has (set_of node j) c) (not (has part c)) (sym (rest_at c small) ∙ had)).0
