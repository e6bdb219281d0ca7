-- The verdict is yes exactly where the tree proves the plan, its cost and the bound, and no kept list is longer than
-- its claim.
use Rattle.std.proofs.Common.{◌≡◌, ℕ, zero, suc, ◌+◌, ◌^◌, ◌<◌, ◌≤◌, ◌==◌, Bool, true, false, not, ◌&&◌, cond, eqb, List, [], ◌∷◌, length, take, set, refl, sym}
use Rattle.std.proofs.Common.{ap, ◌∙◌, subst, inl, inr, arith, append-nil, Option, Some, None}
use Rattle.std.specs.Prelude.{ℤ, ◌≤ℤ◌, ◌<ℤ◌, int_lt, nat_lt, All}
use Rattle.std.proofs.Math.Nat.{eq-or-lt_of_le}
use Rattle.std.proofs.lemmas.Int.{ints}
use Rattle.std.proofs.lemmas.Bool.{and_parts, cases_eq, eqb-true, eq-eqb, cond-true, cond-false, le-ltb, ltb-false}
use Rattle.std.proofs.lemmas.List.{take_all}
use Rattle.std.proofs.lemmas.List.Elements.{All-nil, All-cons, All-head, All-tail}
use Rattle.std.proofs.lemmas.Nat.Bits.{bit_at-pow_same}
use Rattle.call_sets.specs.Counting.{has}
use Rattle.elevator_model.specs.declared.Move.{Move}
use Rattle.elevator_model.specs.declared.Stop.{Stop}
use Rattle.elevator_model.specs.declared.BadPlan.{BadPlan}
use Rattle.elevator_model.specs.Snapshot.{Snapshot, IsAccepted, car_count}
use Rattle.elevator_model.specs.Partial.{Course, course_of, moves_of}
use Rattle.elevator_model.specs.Plans.{first_bad, first_of, plan_cost_of}
use Rattle.search_model.specs.declared.Leaf.{Leaf}
use Rattle.search_model.specs.declared.Twig.{Twig}
use Rattle.search_model.specs.declared.Twig.TheVariants.{Split, Leaf as Tip}
use Rattle.search_model.specs.declared.Reason.{Reason}
use Rattle.search_model.specs.declared.Reason.TheVariants.{Split as BadSplit, Sum, Lists}
use Rattle.search_model.specs.declared.Verdict.TheVariants.{Yes}
use Rattle.search_model.specs.Bounds.{completion_bound}
use Rattle.search_model.specs.Extending.{IsDemand, can_be_extended}
use Rattle.search_model.specs.Kept.{is_kept, kept_list}
use Rattle.search_model.specs.Nodes.{Node, set_of, is_part, rest_of, allows, requires_of, root_of, first_of_split, second_of_split}
use Rattle.search_model.specs.Orders.{BeginsWith, Each, IsAmongLists}
use Rattle.search_model.specs.Prices.{IsWorth, value_of}
use Rattle.search_model.specs.Certificates.{TreePlace, Placed, has_whole_lists, sum_of_leaf, sum_needed, price_in, worth_in, claim_in, places_after}
use Rattle.search_model.specs.Certificates.{placed_from, placed_twigs, root_place, IsSoundLeaf, IsSound}
use Rattle.search_model.specs.Verdicts.{tour_under_at, first_under, kept_at, reason_of_visit, reason_of_car, reason_of_cars, reason_of_leaf, reason_of_twig}
use Rattle.search_model.specs.Verdicts.{reason_of_tree, reason_of_plan, reason_of_cost, verdict_for, verdict_of, FitsClaims, VerdictLaw, tours_enough}
use Rattle.search_model.proofs.SetLemmas.{has-rest_of}
use Rattle.search_model.proofs.NodeLemmas.{part-from, set_of-set, set_of-other}
use Rattle.search_model.proofs.SnapshotNodes.{root_is_node}
use Rattle.search_model.proofs.TreeLemmas.{part-index, proves-bound}
use Rattle.search_model.proofs.OrderLemmas.{IsTested, tested_lists-each}
use Rattle.search_model.proofs.ManyLemmas.{tested_lists-few}
use Rattle.tour_rules.proofs.Reached.{moves_reach}
use Rattle.tour_cost.proofs.Judged.{feasible_where_clear, clear_where_feasible}
use Rattle.tour_extension.proofs.NodeDemands.{node_holds}
use Rattle.pricing_bound.specs.LowerLemmas.{bound_is_lower}
use Rattle.kept_tours.proofs.EndLemmas.{ended_within, ended_value}
use Rattle.kept_tours.proofs.KeptLaws.{kept_holds}
use Rattle.kept_tours.proofs.LeafLemmas.{cars_few}
use Rattle.kept_tours.proofs.WorthLemmas.{IsWithinRoot, both_none, first_parts, none_of_worth, worth_of_car}
use Rattle.cert_checker.specs.Laws.{HasEnough, SufficientLaw, YesLaw}

-- ---- parts of a reason

leaf_parts : {X : Type 0} (whole low : Bool) (lists sum : X) (cars : Option X) → cond (not whole) (Some lists) (cond low (Some sum) cars) ≡ None
    → (whole ≡ true) × (low ≡ false) × (cars ≡ None)
leaf_parts true true lists sum cars e = absurd cc
leaf_parts true false lists sum cars e = (refl, refl, e)
leaf_parts false low lists sum cars e = absurd cc

leaf_none : {X : Type 0} (whole low : Bool) (lists sum : X) (cars : Option X) → whole ≡ true → low ≡ false → cars ≡ None
    → cond (not whole) (Some lists) (cond low (Some sum) cars) ≡ None
leaf_none true true lists sum cars w l e = absurd cc
leaf_none true false lists sum cars w l e = e
leaf_none false low lists sum cars w l e = absurd cc

visit_parts : (s : Snapshot) (k : ℕ) (leaf : Leaf) (c : ℕ) (longer : Bool) (o : Option (List Stop)) → reason_of_visit s k leaf c longer o ≡ None
    → (longer ≡ false) × (o ≡ None)
visit_parts s k leaf c true None e = absurd cc
visit_parts s k leaf c false None e = (refl, refl)
visit_parts s k leaf c longer (Some tour) e = absurd cc

visit_none : (s : Snapshot) (k : ℕ) (leaf : Leaf) (c : ℕ) (longer : Bool) (o : Option (List Stop)) → longer ≡ false → o ≡ None
    → reason_of_visit s k leaf c longer o ≡ None
visit_none s k leaf c true None l e = absurd cc
visit_none s k leaf c false None l e = refl
visit_none s k leaf c longer (Some tour) l e = absurd cc

cars_parts : (s : Snapshot) (k : ℕ) (node : Node) (leaf : Leaf) (n : ℕ) → reason_of_cars s k node leaf n ≡ None → (c : ℕ) → c < n
    → reason_of_car s k node leaf c ≡ None
cars_parts s k node leaf zero e c lt = absurd (omega (arith, lt))
cars_parts s k node leaf (suc n) e c lt =
    let both = first_parts (reason_of_cars s k node leaf n) (reason_of_car s k node leaf n) e in
    let le : c ≤ n = omega (arith, lt) in
    elim (eq-or-lt_of_le le) [
      | inl same ↦ subst (λ (d : ℕ). reason_of_car s k node leaf d ≡ None) (sym same) both.1
      | inr below ↦ cars_parts s k node leaf n both.0 c below
    ]

cars_none : (s : Snapshot) (k : ℕ) (node : Node) (leaf : Leaf) (n : ℕ) → ((c : ℕ) → c < n → reason_of_car s k node leaf c ≡ None)
    → reason_of_cars s k node leaf n ≡ None
cars_none s k node leaf zero h = refl
cars_none s k node leaf (suc n) h =
    both_none (reason_of_cars s k node leaf n) (reason_of_car s k node leaf n) (cars_none s k node leaf n (λ c lt. h c (omega (arith, lt)))) (h n (omega arith))

-- ---- lengths

-- no list is longer than the claim
not_longer : (claim n : ℕ) → nat_lt claim n ≡ false → n ≤ claim
not_longer claim n e = ltb-false claim n e

is_no_longer : (claim n : ℕ) → n ≤ claim → nat_lt claim n ≡ false
is_no_longer claim n le = le-ltb claim n le

-- ---- leaves

-- the leaf is sound, and its kept lists are no longer than its claims
record Stands (s : Snapshot) (bound : ℕ) (node : Node) (leaf : Leaf) : Type 0 where
  pub sound : IsSoundLeaf s bound node leaf
  pub fits : (c : ℕ) → c < car_count s → length (kept_at s node leaf c) ≤ claim_in leaf c

leaf_stands : (s : Snapshot) (bound k : ℕ) (node : Node) (leaf : Leaf) → IsAccepted s → IsWithinRoot s node → reason_of_leaf s bound k node leaf ≡ None
    → Stands s bound node leaf
leaf_stands s bound k node leaf ok within e =
    let parts = leaf_parts (has_whole_lists s leaf) (int_lt (sum_of_leaf leaf) (sum_needed bound)) (Lists k) (Sum k (sum_needed bound) (sum_of_leaf leaf))
    (reason_of_cars s k node leaf (car_count s)) e in
    record {
      sound = record {
        whole = parts.0;
        enough = enough_of (sum_of_leaf leaf) (sum_needed bound) parts.1;
        worths = λ c lt. worth_of_car s node c (price_in leaf) (worth_in leaf c) ok lt within (all_none c lt parts.2);
      };
      fits = λ c lt. fits_of c lt parts.2;
    }
  where
    enough_of : (sum need : ℤ) → int_lt sum need ≡ false → need ≤ℤ sum
    enough_of sum need h = grind (arith, ints)

    car_parts : (c : ℕ) → c < car_count s → reason_of_cars s k node leaf (car_count s) ≡ None
        → (nat_lt (claim_in leaf c) (length (kept_at s node leaf c)) ≡ false)
        × (first_under s c (price_in leaf) (worth_in leaf c) (take (claim_in leaf c) (kept_at s node leaf c)) ≡ None)
    car_parts c lt h = visit_parts s k leaf c _ _ (cars_parts s k node leaf (car_count s) h c lt)

    fits_of : (c : ℕ) → c < car_count s → reason_of_cars s k node leaf (car_count s) ≡ None → length (kept_at s node leaf c) ≤ claim_in leaf c
    fits_of c lt h = not_longer (claim_in leaf c) (length (kept_at s node leaf c)) (car_parts c lt h).0

    all_none : (c : ℕ) → c < car_count s → reason_of_cars s k node leaf (car_count s) ≡ None
        → first_under s c (price_in leaf) (worth_in leaf c) (kept_at s node leaf c) ≡ None
    all_none c lt h = ap (first_under s c (price_in leaf) (worth_in leaf c)) (sym (take_all (claim_in leaf c) (kept_at s node leaf c) (fits_of c lt h)))
        ∙ (car_parts c lt h).1

leaf_clear : (s : Snapshot) (bound k : ℕ) (node : Node) (leaf : Leaf) → IsAccepted s → IsWithinRoot s node → Stands s bound node leaf
    → reason_of_leaf s bound k node leaf ≡ None
leaf_clear s bound k node leaf ok within stands =
    leaf_none (has_whole_lists s leaf) (int_lt (sum_of_leaf leaf) (sum_needed bound)) (Lists k) (Sum k (sum_needed bound) (sum_of_leaf leaf))
    (reason_of_cars s k node leaf (car_count s)) stands.sound.whole (enough_of (sum_of_leaf leaf) (sum_needed bound) stands.sound.enough)
    (cars_none s k node leaf (car_count s) car_none)
  where
    enough_of : (sum need : ℤ) → need ≤ℤ sum → int_lt sum need ≡ false
    enough_of sum need h = grind (arith, ints)

    car_none : (c : ℕ) → c < car_count s → reason_of_car s k node leaf c ≡ None
    car_none c lt =
        let kept = kept_at s node leaf c in
        let none = none_of_worth s node c (price_in leaf) (worth_in leaf c) ok lt within (stands.sound.worths c lt) in
        visit_none s k leaf c (nat_lt (claim_in leaf c) (length kept)) (first_under s c (price_in leaf) (worth_in leaf c) (take (claim_in leaf c) kept))
        (is_no_longer (claim_in leaf c) (length kept) (stands.fits c lt))
        (ap (first_under s c (price_in leaf) (worth_in leaf c)) (take_all (claim_in leaf c) kept (stands.fits c lt)) ∙ none)

-- ---- trees

root_within : (s : Snapshot) → IsWithinRoot s (root_of s)
root_within s j c lt h = h

one_call : (s : Snapshot) (node : Node) (j x : ℕ) → j < length node → IsWithinRoot s node → ((c : ℕ) → c < 16 → has x c ≡ true → has (set_of node j) c ≡ true)
    → IsWithinRoot s (set node j x)
one_call s node j x lt within falls i c few h =
    elim (cases_eq i j) [
      | inl e ↦ subst (λ (k : ℕ). has (set_of (root_of s) k) c ≡ true) (sym e)
          (within j c few (falls c few
          (ap (λ (y : ℕ). has y c) (sym (set_of-set node j x lt)) ∙ subst (λ (k : ℕ). has (set_of (set node j x) k) c ≡ true) e h)))
      | inr ne ↦ within i c few (ap (λ (y : ℕ). has y c) (sym (set_of-other node j x i ne)) ∙ h)
    ]

first_within : (s : Snapshot) (node : Node) (j part : ℕ) → is_part (set_of node j) part ≡ true → IsWithinRoot s node
    → IsWithinRoot s (first_of_split node j part)
first_within s node j part is within = one_call s node j part (part-index node j part is) within (part-from (set_of node j) part is).within

second_within : (s : Snapshot) (node : Node) (j part : ℕ) → is_part (set_of node j) part ≡ true → IsWithinRoot s node
    → IsWithinRoot s (second_of_split node j part)
second_within s node j part is within =
    one_call s node j (rest_of (set_of node j) part) (part-index node j part is) within
    (λ c few e. (and_parts (has (set_of node j) c) (not (has part c)) (sym (has-rest_of (set_of node j) part c few) ∙ e)).0)

abbrev AreWithinRoot : Snapshot → List TreePlace → Type 0
AreWithinRoot s [] = Unit {0}
AreWithinRoot s (place ∷ places) = IsWithinRoot s place.node × AreWithinRoot s places

abbrev Sound : Snapshot → ℕ → Placed → Type 0
Sound s bound p = IsSound s bound p.place p.twig

abbrev Fits : Snapshot → Placed → Type 0
Fits s p = FitsClaims s p.place p.twig

split_is : (k : ℕ) (b : Bool) → cond b None (Some (BadSplit k)) ≡ None → b ≡ true
split_is k true e = refl
split_is k false e = absurd cc

split_none : (k : ℕ) (b : Bool) → b ≡ true → cond b None (Some (BadSplit k)) ≡ None
split_none k true e = refl
split_none k false e = absurd cc

tree_stands : (s : Snapshot) (bound k : ℕ) (places : List TreePlace) (twigs : List Twig) → IsAccepted s → AreWithinRoot s places
    → reason_of_tree s bound k (placed_from places twigs) ≡ None → All (Sound s bound) (placed_from places twigs) × All (Fits s) (placed_from places twigs)
tree_stands s bound k [] [] ok within e = (All-nil (Sound s bound), All-nil (Fits s))
tree_stands s bound k (place ∷ places) [] ok within e = (All-nil (Sound s bound), All-nil (Fits s))
tree_stands s bound k [] (twig ∷ twigs) ok within e = (All-nil (Sound s bound), All-nil (Fits s))
tree_stands s bound k (place ∷ places) (Split j part ∷ twigs) ok within e =
    let twig = Split j part in
    let here : Placed = record { place = place; twig = twig } in
    let later = placed_from (places_after place twig places) twigs in
    let parts = first_parts (reason_of_twig s bound k place twig) (reason_of_tree s bound (k + 1) later) e in
    let is = split_is k (is_part (set_of place.node j) part) parts.0 in
    let rest = tree_stands s bound (k + 1) (places_after place twig places) twigs ok
    (first_within s place.node j part is within.0, (second_within s place.node j part is within.0, within.1)) parts.1 in
    (All-cons (Sound s bound) here later is rest.0, All-cons (Fits s) here later tt rest.1)
tree_stands s bound k (place ∷ places) (Tip leaf ∷ twigs) ok within e =
    let twig = Tip leaf in
    let here : Placed = record { place = place; twig = twig } in
    let later = placed_from places twigs in
    let parts = first_parts (reason_of_twig s bound k place twig) (reason_of_tree s bound (k + 1) later) e in
    let is = leaf_stands s bound k place.node leaf ok within.0 parts.0 in
    let rest = tree_stands s bound (k + 1) places twigs ok within.1 parts.1 in
    (All-cons (Sound s bound) here later is.sound rest.0, All-cons (Fits s) here later is.fits rest.1)

tree_clear : (s : Snapshot) (bound k : ℕ) (places : List TreePlace) (twigs : List Twig) → IsAccepted s → AreWithinRoot s places
    → All (Sound s bound) (placed_from places twigs) → All (Fits s) (placed_from places twigs) → reason_of_tree s bound k (placed_from places twigs) ≡ None
tree_clear s bound k [] [] ok within sound fits = refl
tree_clear s bound k (place ∷ places) [] ok within sound fits = refl
tree_clear s bound k [] (twig ∷ twigs) ok within sound fits = refl
tree_clear s bound k (place ∷ places) (Split j part ∷ twigs) ok within sound fits =
    let twig = Split j part in
    let here : Placed = record { place = place; twig = twig } in
    let later = placed_from (places_after place twig places) twigs in
    let is = All-head (Sound s bound) here later sound in
    both_none (reason_of_twig s bound k place twig) (reason_of_tree s bound (k + 1) later) (split_none k (is_part (set_of place.node j) part) is)
    (tree_clear s bound (k + 1) (places_after place twig places) twigs ok
    (first_within s place.node j part is within.0, (second_within s place.node j part is within.0, within.1)) (All-tail (Sound s bound) here later sound)
    (All-tail (Fits s) here later fits))
tree_clear s bound k (place ∷ places) (Tip leaf ∷ twigs) ok within sound fits =
    let twig = Tip leaf in
    let here : Placed = record { place = place; twig = twig } in
    let later = placed_from places twigs in
    both_none (reason_of_twig s bound k place twig) (reason_of_tree s bound (k + 1) later)
    (leaf_clear s bound k place.node leaf ok within.0
    (record { sound = All-head (Sound s bound) here later sound; fits = All-head (Fits s) here later fits }))
    (tree_clear s bound (k + 1) places twigs ok within.1 (All-tail (Sound s bound) here later sound) (All-tail (Fits s) here later fits))

-- ---- verdicts

is_yes : (o : Option Reason) → verdict_for o ≡ Yes → o ≡ None
is_yes None e = refl
is_yes (Some reason) e = absurd cc

no_bad : (o : Option BadPlan) → reason_of_plan o ≡ None → o ≡ None
no_bad None e = refl
no_bad (Some bad) e = absurd cc

cost_is : (s : Snapshot) (plan : List (List Stop)) (cost : ℕ) → reason_of_cost s plan cost ≡ None → plan_cost_of s plan ≡ cost
cost_is s plan cost e = by_test (plan_cost_of s plan == cost) refl
  where
    by_test : (b : Bool) → (plan_cost_of s plan == cost) ≡ b → plan_cost_of s plan ≡ cost
    by_test true t = eqb-true (plan_cost_of s plan) cost t
    by_test false t = absurd (some_none (sym (cond-false (plan_cost_of s plan == cost) None (Some _) t) ∙ e))
      where
        some_none : {X : Type 0} {x : X} → Some x ≡ None → ⊥
        some_none h = cc

pub verdict_holds : VerdictLaw
verdict_holds s plan cost bound tree ok cars whole = record {
  proof = λ e. (
      let p = parts e in
      record {
        feasible = feasible_where_clear s plan cars (no_bad (first_bad s plan) p.0);
        costs = cost_is s plan cost p.1;
        whole = whole;
        sound = (tree_stands s bound 1 (root_place s ∷ []) tree ok (root_within s, tt) p.2).0;
      }
      );
  claims = λ e. (tree_stands s bound 1 (root_place s ∷ []) tree ok (root_within s, tt) (parts e).2).1;
  yes = λ proves fits. ap verdict_for
      (both_none (reason_of_plan (first_bad s plan)) _ (ap reason_of_plan (clear_where_feasible s plan proves.feasible))
      (both_none (reason_of_cost s plan cost) _ (cond-true (plan_cost_of s plan == cost) None (Some _) (eq-eqb (plan_cost_of s plan) cost proves.costs))
      (tree_clear s bound 1 (root_place s ∷ []) tree ok (root_within s, tt) proves.sound fits)));
}
  where
    parts : verdict_of s plan cost bound tree ≡ Yes → (reason_of_plan (first_bad s plan) ≡ None) × (reason_of_cost s plan cost ≡ None)
        × (reason_of_tree s bound 1 (placed_twigs s tree) ≡ None)
    parts e =
        let all = first_parts (reason_of_plan (first_bad s plan)) (first_of (reason_of_cost s plan cost) (reason_of_tree s bound 1 (placed_twigs s tree)))
        (is_yes _ e) in
        let rest = first_parts (reason_of_cost s plan cost) (reason_of_tree s bound 1 (placed_twigs s tree)) all.1 in
        (all.0, rest.0, rest.1)

-- ---- sufficient claims

enough_fits : (s : Snapshot) (places : List TreePlace) (twigs : List Twig) → All (HasEnough s) twigs → All (Fits s) (placed_from places twigs)
enough_fits s [] [] enough = All-nil (Fits s)
enough_fits s (place ∷ places) [] enough = All-nil (Fits s)
enough_fits s [] (twig ∷ twigs) enough = All-nil (Fits s)
enough_fits s (place ∷ places) (Split j part ∷ twigs) enough =
    let twig = Split j part in
    All-cons (Fits s) (record { place = place; twig = twig }) (placed_from (places_after place twig places) twigs) tt
    (enough_fits s (places_after place twig places) twigs (All-tail (HasEnough s) twig twigs enough))
enough_fits s (place ∷ places) (Tip leaf ∷ twigs) enough =
    let twig = Tip leaf in
    let here = All-head (HasEnough s) twig twigs enough in
    All-cons (Fits s) (record { place = place; twig = twig }) (placed_from places twigs) (λ c lt. few c lt (here c lt))
    (enough_fits s places twigs (All-tail (HasEnough s) twig twigs enough))
  where
    few : (c : ℕ) → c < car_count s → tours_enough s ≤ claim_in leaf c → length (kept_at s place.node leaf c) ≤ claim_in leaf c
    few c lt claim =
        let short = tested_lists-few s c (allows place.node c)
        (is_kept s c (price_in leaf) (allows place.node c) (requires_of place.node c) (worth_in leaf c)) lt in
        omega (arith, short, claim)

pub sufficient_holds : SufficientLaw
sufficient_holds s plan cost bound tree ok cars whole enough =
    let means = verdict_holds s plan cost bound tree ok cars whole in
    (means.proof, λ proves. means.yes proves (enough_fits s (root_place s ∷ []) tree enough))

pub yes_holds : YesLaw
yes_holds s plan cost bound tree ok cars whole e =
    let proves = (verdict_holds s plan cost bound tree ok cars whole).proof e in
    record { feasible = proves.feasible; costs = proves.costs; least = proves-bound s plan cost bound tree (cars_few s ok) proves }
