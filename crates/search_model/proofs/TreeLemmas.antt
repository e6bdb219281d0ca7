-- Certificates: each feasible plan is in exactly one leaf's node, and what a certificate proves is a bound.
use Rattle.std.proofs.Common.{◌≡◌, ℕ, ◌+◌, ◌<◌, ◌≤◌, Bool, true, false, not, ◌&&◌, ◌||◌, cond, List, [], ◌∷◌, length, refl, sym, ap, ◌∙◌, subst, inl, inr}
use Rattle.std.proofs.Common.{arith}
use Rattle.std.specs.Prelude.{◌≤ℤ◌, count_by, All}
use Rattle.std.specs.List.{list_any}
use Rattle.std.proofs.lemmas.Int.{ints}
use Rattle.std.proofs.lemmas.Bool.{cases_lt, both_ways, and_parts, or_cases, or_left}
use Rattle.std.proofs.lemmas.List.{get_or_past, length-set}
use Rattle.std.proofs.lemmas.List.Elements.{All-head, All-tail}
use Rattle.std.proofs.lemmas.List.Sums.{sum_by-cons}
use Rattle.elevator_model.specs.declared.Stop.{Stop}
use Rattle.search_model.specs.declared.Twig.{Twig}
use Rattle.search_model.specs.declared.Twig.TheVariants.{Split, Leaf as Tip}
use Rattle.call_sets.specs.Counting.{has, any_below}
use Rattle.call_sets.proofs.BelowTests.{any_below-true}
use Rattle.call_sets.proofs.Bits.{has_zero}
use Rattle.elevator_model.specs.Snapshot.{Snapshot, car_count, call_count}
use Rattle.elevator_model.specs.Plans.{IsFeasiblePlan, IsBound, plan_cost_of}
use Rattle.search_model.specs.Nodes.{Node, set_of, root_of, is_plan_in, is_part, rest_of, first_of_split, second_of_split, IsInOneOf}
use Rattle.search_model.specs.Prices.{scaled}
use Rattle.search_model.specs.Certificates.{TreePlace, Placed, places_after, placed_from, is_filled, root_place, placed_twigs, IsSound, Proves, sum_needed}
use Rattle.search_model.specs.Certificates.{is_leaf_with, leaves_with}
use Rattle.search_model.proofs.NodeLemmas.{part-from, split-keeps}
use Rattle.search_model.proofs.FeasibleLemmas.{length-root_of, plan_in_root}
use Rattle.search_model.proofs.LeafLemmas.{leaf-bounds}

-- a call past the last one has no cars, so no part either
pub part-index : (node : Node) (j part : ℕ) → is_part (set_of node j) part ≡ true → j < length node
part-index node j part h =
    elim (cases_lt j (length node)) [ inl lt ↦ lt | inr past ↦ absurd (none_past past) ]
  where
    none_past : length node ≤ j → ⊥
    none_past past =
        let both = and_parts (any_below 16 (has part) && any_below 16 (λ c. has (set_of node j) c && not (has part c)))
        (not (any_below 16 (λ c. has part c && not (has (set_of node j) c)))) h in
        let two = and_parts (any_below 16 (has part)) (any_below 16 (λ c. has (set_of node j) c && not (has part c))) both.0 in
        let found = any_below-true 16 (has part) two.0 in
        let had : has (set_of node j) found.0 ≡ true = (part-from (set_of node j) part h).within found.0 found.1 found.2 in
        both_ways (has (set_of node j) found.0) (ap (λ (x : ℕ). has x found.0) (get_or_past node j 0 past) ∙ has_zero found.0) had

-- the places have a set for each call
abbrev AreWide : Snapshot → List TreePlace → Type 0
AreWide s [] = Unit {0}
AreWide s (place ∷ places) = (length place.node ≡ call_count s) × AreWide s places

wide-after : (s : Snapshot) (place : TreePlace) (twig : Twig) (places : List TreePlace) → length place.node ≡ call_count s → AreWide s places
    → AreWide s (places_after place twig places)
wide-after s place (Split j part) places len wide =
    (length-set place.node j part ∙ len, (length-set place.node j (rest_of (set_of place.node j) part) ∙ len, wide))
wide-after s place (Tip leaf) places len wide = wide

-- in how many of the places' nodes the plan is
abbrev places_with : List (List Stop) → List TreePlace → ℕ
places_with plan places = count_by (λ (p : TreePlace). is_plan_in p.node plan) places

counted_once : (whole first second : Bool) → IsInOneOf whole first second → cond whole 1 0 ≡ cond first 1 0 + cond second 1 0
counted_once whole true true h = absurd (both_ways true h.not_both refl)
counted_once whole true false h = ap {B = ℕ} (λ (b : Bool). cond b 1 0) h.either
counted_once whole false true h = ap {B = ℕ} (λ (b : Bool). cond b 1 0) h.either
counted_once whole false false h = ap {B = ℕ} (λ (b : Bool). cond b 1 0) h.either

leaves-places : (s : Snapshot) (bound : ℕ) (plan : List (List Stop)) → IsFeasiblePlan s plan → car_count s ≤ 16 → (places : List TreePlace) (twigs : List Twig)
    → is_filled places twigs ≡ true → AreWide s places → All (λ (p : Placed). IsSound s bound p.place p.twig) (placed_from places twigs)
    → leaves_with plan (placed_from places twigs) ≡ places_with plan places
leaves-places s bound plan feasible few [] [] filled wide sound = refl
leaves-places s bound plan feasible few (place ∷ places) [] filled wide sound = absurd (both_ways false refl filled)
leaves-places s bound plan feasible few [] (twig ∷ twigs) filled wide sound = absurd (both_ways false refl filled)
leaves-places s bound plan feasible few (place ∷ places) (Split j part ∷ twigs) filled wide sound =
    let P : Placed → Type 0 = λ (p : Placed). IsSound s bound p.place p.twig in
    let here : Placed = record { place = place; twig = Split j part } in
    let is : is_part (set_of place.node j) part ≡ true = All-head P here (placed_from (places_after place (Split j part) places) twigs) sound in
    let rest = leaves-places s bound plan feasible few (places_after place (Split j part) places) twigs filled
    (wide-after s place (Split j part) places wide.0 wide.1) (All-tail P here (placed_from (places_after place (Split j part) places) twigs) sound) in
    let lt : j < call_count s = subst (λ (n : ℕ). j < n) wide.0 (part-index place.node j part is) in
    let once = counted_once (is_plan_in place.node plan) (is_plan_in (first_of_split place.node j part) plan)
    (is_plan_in (second_of_split place.node j part) plan) (split-keeps s place.node j part plan feasible few wide.0 lt is) in
    let first : TreePlace = record { node = first_of_split place.node j part; above = place.node } in
    let second : TreePlace = record { node = second_of_split place.node j part; above = place.node } in
    let leaves = sum_by-cons (λ (p : Placed). cond (is_leaf_with plan p.place p.twig) 1 0) here
    (placed_from (places_after place (Split j part) places) twigs) in
    let front = sum_by-cons (λ (p : TreePlace). cond (is_plan_in p.node plan) 1 0) place places in
    let after = sum_by-cons (λ (p : TreePlace). cond (is_plan_in p.node plan) 1 0) first (second ∷ places) in
    let then = sum_by-cons (λ (p : TreePlace). cond (is_plan_in p.node plan) 1 0) second places in
    omega (arith, rest, once, leaves, front, after, then)
leaves-places s bound plan feasible few (place ∷ places) (Tip leaf ∷ twigs) filled wide sound =
    let P : Placed → Type 0 = λ (p : Placed). IsSound s bound p.place p.twig in
    let here : Placed = record { place = place; twig = Tip leaf } in
    let rest = leaves-places s bound plan feasible few places twigs filled wide.1 (All-tail P here (placed_from places twigs) sound) in
    let leaves = sum_by-cons (λ (p : Placed). cond (is_leaf_with plan p.place p.twig) 1 0) here (placed_from places twigs) in
    let front = sum_by-cons (λ (p : TreePlace). cond (is_plan_in p.node plan) 1 0) place places in
    omega (arith, rest, leaves, front)

-- A feasible plan is in the node of exactly one leaf.
pub plan_in_one_leaf : (s : Snapshot) (plan other : List (List Stop)) (cost bound : ℕ) (tree : List Twig) → car_count s ≤ 16 → Proves s other cost bound tree
    → IsFeasiblePlan s plan → leaves_with plan (placed_twigs s tree) ≡ 1
plan_in_one_leaf s plan other cost bound tree few proves feasible =
    let all = leaves-places s bound plan feasible few (root_place s ∷ []) tree proves.whole (length-root_of s, tt) proves.sound in
    let one = ap {B = ℕ} (λ (b : Bool). cond b 1 0) (plan_in_root s plan feasible) in
    omega (arith, all, one)

costs-enough : (s : Snapshot) (bound : ℕ) (plan : List (List Stop)) → IsFeasiblePlan s plan → car_count s ≤ 16 → (places : List TreePlace) (twigs : List Twig)
    → is_filled places twigs ≡ true → AreWide s places → All (λ (p : Placed). IsSound s bound p.place p.twig) (placed_from places twigs)
    → list_any (λ (p : TreePlace). is_plan_in p.node plan) places ≡ true → sum_needed bound ≤ℤ scaled (plan_cost_of s plan)
costs-enough s bound plan feasible few [] twigs filled wide sound some = absurd (both_ways false refl some)
costs-enough s bound plan feasible few (place ∷ places) [] filled wide sound some = absurd (both_ways false refl filled)
costs-enough s bound plan feasible few (place ∷ places) (Split j part ∷ twigs) filled wide sound some =
    let P : Placed → Type 0 = λ (p : Placed). IsSound s bound p.place p.twig in
    let here : Placed = record { place = place; twig = Split j part } in
    let is : is_part (set_of place.node j) part ≡ true = All-head P here (placed_from (places_after place (Split j part) places) twigs) sound in
    let lt : j < call_count s = subst (λ (n : ℕ). j < n) wide.0 (part-index place.node j part is) in
    let split = split-keeps s place.node j part plan feasible few wide.0 lt is in
    costs-enough s bound plan feasible few (places_after place (Split j part) places) twigs filled (wide-after s place (Split j part) places wide.0 wide.1)
    (All-tail P here (placed_from (places_after place (Split j part) places) twigs) sound)
    (some_after (is_plan_in place.node plan) (is_plan_in (first_of_split place.node j part) plan) (is_plan_in (second_of_split place.node j part) plan)
    (list_any (λ (p : TreePlace). is_plan_in p.node plan) places) split some)
  where
    some_after : (whole first second later : Bool) → IsInOneOf whole first second → (whole || later) ≡ true → (first || (second || later)) ≡ true
    some_after whole true second later h any = refl
    some_after whole false true later h any = refl
    some_after whole false false later h any = ap (λ (b : Bool). b || later) (sym h.either) ∙ any
costs-enough s bound plan feasible few (place ∷ places) (Tip leaf ∷ twigs) filled wide sound some =
    let P : Placed → Type 0 = λ (p : Placed). IsSound s bound p.place p.twig in
    let here : Placed = record { place = place; twig = Tip leaf } in
    elim (or_cases (is_plan_in place.node plan) (list_any (λ (p : TreePlace). is_plan_in p.node plan) places) some) [
      | inl inside ↦ leaf-bounds s bound place.node leaf plan (All-head P here (placed_from places twigs) sound) feasible wide.0 inside
      | inr later ↦ costs-enough s bound plan feasible few places twigs filled wide.1 (All-tail P here (placed_from places twigs) sound) later
    ]

-- What a certificate proves: no feasible plan of the snapshot costs less than the bound.
pub proves-bound : (s : Snapshot) (plan : List (List Stop)) (cost bound : ℕ) (tree : List Twig) → car_count s ≤ 16 → Proves s plan cost bound tree
    → IsBound s bound
proves-bound s plan cost bound tree few proves other feasible =
    let enough = costs-enough s bound other feasible few (root_place s ∷ []) tree proves.whole (length-root_of s, tt) proves.sound
    (or_left (is_plan_in (root_of s) other) false (plan_in_root s other feasible)) in
    omega (arith, ints, enough)
