-- A worth is one exactly where no kept partial tour ends a tour of a lesser value.
use Rattle.std.proofs.Common.{◌≡◌, ℕ, ◌^◌, ◌<◌, Bool, true, false, ◌&&◌, cond, eqb, List, [], ◌∷◌, refl, sym, ap, ◌∙◌, subst, inl, inr, arith, append-nil}
use Rattle.std.proofs.Common.{Option, Some, None}
use Rattle.std.specs.Prelude.{ℤ, ◌≤ℤ◌, ◌<ℤ◌, int_lt}
use Rattle.std.proofs.lemmas.Int.{ints}
use Rattle.std.proofs.lemmas.Bool.{and_parts, eqb-true, cond-false}
use Rattle.std.proofs.lemmas.Nat.Bits.{bit_at-pow_same}
use Rattle.call_sets.specs.Counting.{has}
use Rattle.elevator_model.specs.declared.Move.{Move}
use Rattle.elevator_model.specs.Snapshot.{Snapshot, IsAccepted, car_count}
use Rattle.elevator_model.specs.Partial.{Course, course_of, moves_of}
use Rattle.elevator_model.specs.Plans.{first_of}
use Rattle.search_model.specs.Bounds.{completion_bound}
use Rattle.search_model.specs.Extending.{IsDemand, can_be_extended}
use Rattle.search_model.specs.Kept.{is_kept, kept_list}
use Rattle.search_model.specs.Nodes.{Node, set_of, allows, requires_of, root_of}
use Rattle.search_model.specs.Orders.{BeginsWith, Each, IsAmongLists}
use Rattle.search_model.specs.Prices.{IsWorth, value_of}
use Rattle.search_model.specs.Verdicts.{tour_under_at, first_under}
use Rattle.search_model.proofs.SnapshotNodes.{root_is_node}
use Rattle.search_model.proofs.OrderLemmas.{IsTested, tested_lists-each}
use Rattle.tour_rules.proofs.Reached.{moves_reach}
use Rattle.tour_extension.proofs.NodeDemands.{node_holds}
use Rattle.pricing_bound.specs.LowerLemmas.{bound_is_lower}
use Rattle.kept_tours.proofs.EndLemmas.{ended_within, ended_value}
use Rattle.kept_tours.proofs.KeptLaws.{kept_holds}
use Rattle.kept_tours.proofs.LeafLemmas.{cars_few}

pub first_parts : {X : Type 0} (a b : Option X) → first_of a b ≡ None → (a ≡ None) × (b ≡ None)
first_parts None b e = (refl, e)
first_parts (Some x) b e = absurd cc

pub both_none : {X : Type 0} (a b : Option X) → a ≡ None → b ≡ None → first_of a b ≡ None
both_none None b h e = e
both_none (Some x) b h e = absurd cc

-- ---- the first tour under a worth

under_in : (s : Snapshot) (c : ℕ) (price : ℕ → ℤ) (worth : ℤ) (w : List Move) (lists : List (List Move)) → IsAmongLists w lists
    → first_under s c price worth lists ≡ None → tour_under_at s c price worth (course_of s c w) ≡ None
under_in s c price worth w [] among e = absurd among
under_in s c price worth w (v ∷ lists) (inl same) e =
    subst (λ (u : List Move). tour_under_at s c price worth (course_of s c u) ≡ None) same
    (first_parts (tour_under_at s c price worth (course_of s c v)) (first_under s c price worth lists) e).0
under_in s c price worth w (v ∷ lists) (inr later) e =
    under_in s c price worth w lists later (first_parts (tour_under_at s c price worth (course_of s c v)) (first_under s c price worth lists) e).1

no_under : (s : Snapshot) (c : ℕ) (price : ℕ → ℤ) (worth : ℤ) (P : List Move → Type 0) (lists : List (List Move))
    → ((w : List Move) → P w → tour_under_at s c price worth (course_of s c w) ≡ None) → Each P lists → first_under s c price worth lists ≡ None
no_under s c price worth P [] none each = refl
no_under s c price worth P (w ∷ lists) none each =
    both_none (tour_under_at s c price worth (course_of s c w)) (first_under s c price worth lists) (none w each.0)
    (no_under s c price worth P lists none each.1)

none_under : (s : Snapshot) (c : ℕ) (price : ℕ → ℤ) (worth : ℤ) (o : Option Course) (x : Course) → o ≡ Some x
    → (x.ended ≡ true → worth ≤ℤ value_of s c price x.left) → tour_under_at s c price worth o ≡ None
none_under s c price worth o x at high = ap (tour_under_at s c price worth) at ∙ by_end x.ended refl
  where
    not_lower : (v : ℤ) → worth ≤ℤ v → int_lt v worth ≡ false
    not_lower v le = grind (arith, ints)

    by_end : (b : Bool) → x.ended ≡ b → cond (x.ended && int_lt (value_of s c price x.left) worth) (Some x.left) None ≡ None
    by_end true e = cond-false (x.ended && int_lt (value_of s c price x.left) worth) (Some x.left) None
        (ap (λ (v : Bool). v && int_lt (value_of s c price x.left) worth) e ∙ not_lower (value_of s c price x.left) (high e))
    by_end false e = cond-false (x.ended && int_lt (value_of s c price x.left) worth) (Some x.left) None
        (ap (λ (v : Bool). v && int_lt (value_of s c price x.left) worth) e)

-- what ends a tour below the worth is found
some_under : (s : Snapshot) (c : ℕ) (price : ℕ → ℤ) (worth : ℤ) (o : Option Course) (x : Course) → o ≡ Some x → x.ended ≡ true
    → tour_under_at s c price worth o ≡ None → worth ≤ℤ value_of s c price x.left
some_under s c price worth o x at over none = by_test (int_lt (value_of s c price x.left) worth) refl
  where
    here : cond (int_lt (value_of s c price x.left) worth) (Some x.left) None ≡ None
    here = ap (λ (b : Bool). cond (b && int_lt (value_of s c price x.left) worth) (Some x.left) None) (sym over) ∙ ap (tour_under_at s c price worth) (sym at)
        ∙ none

    no_lower : (v : ℤ) → int_lt v worth ≡ false → worth ≤ℤ v
    no_lower v e = grind (arith, ints)

    by_test : (b : Bool) → int_lt (value_of s c price x.left) worth ≡ b → worth ≤ℤ value_of s c price x.left
    by_test true e = absurd (some_none (ap (λ (d : Bool). cond d (Some x.left) None) (sym e) ∙ here))
      where
        some_none : Some x.left ≡ None → ⊥
        some_none h = cc
    by_test false e = no_lower (value_of s c price x.left) e

-- ---- a car at a leaf

few_cars : (s : Snapshot) (c : ℕ) → IsAccepted s → c < car_count s → c < 16
few_cars s c ok below = let few = cars_few s ok in omega (arith, below, few)

-- each call's cars are possible ones
abbrev pub IsWithinRoot : Snapshot → Node → Type 0
IsWithinRoot s node = (j c : ℕ) → c < 16 → has (set_of node j) c ≡ true → has (set_of (root_of s) j) c ≡ true

demand_at : (s : Snapshot) (node : Node) (c : ℕ) → IsAccepted s → c < car_count s → IsWithinRoot s node → IsDemand s c (allows node c) (requires_of node c)
demand_at s node c ok car within = record {
  within = λ j e. subst (λ (x : ℕ). has x c ≡ true) (sym (eqb-true (set_of node j) (2 ^ c) e)) (ap (λ (b : ℕ). eqb b 1) (bit_at-pow_same c));
  possible = λ j e. (node_holds s (root_of s) c (root_is_node s ok)).possible j (within j c (few_cars s c ok car) e);
}

at_most : (w u v : ℤ) → w ≤ℤ u → u ≡ v → w ≤ℤ v
at_most w u v h e = omega (arith, ints, h, e)

through : (u v z : ℤ) → u ≤ℤ v → v <ℤ z → u <ℤ z
through u v z h k = omega (arith, ints, h, k)

-- No kept one ends a tour below the worth, so no tour of the node is below it.
pub worth_of_car : (s : Snapshot) (node : Node) (c : ℕ) (price : ℕ → ℤ) (worth : ℤ) → IsAccepted s → c < car_count s → IsWithinRoot s node
    → first_under s c price worth (kept_list s c price (allows node c) (requires_of node c) worth) ≡ None → IsWorth s node c price worth
worth_of_car s node c price worth ok car within none tour inside = by_test (int_lt (value_of s c price tour) worth) refl
  where
    no_lower : (v : ℤ) → int_lt v worth ≡ false → worth ≤ℤ v
    no_lower v e = grind (arith, ints)

    lower : (v : ℤ) → int_lt v worth ≡ true → v <ℤ worth
    lower v e = grind (arith, ints)

    demand : IsDemand s c (allows node c) (requires_of node c)
    demand = demand_at s node c ok car within

    by_test : (b : Bool) → int_lt (value_of s c price tour) worth ≡ b → worth ≤ℤ value_of s c price tour
    by_test false e = no_lower (value_of s c price tour) e
    by_test true e =
        let moves = moves_of s tour in
        let at = moves_reach s c tour inside.feasible in
        let begins : BeginsWith s tour moves = ([], sym (append-nil moves)) in
        let low = bound_is_lower s c price (allows node c) (requires_of node c) moves _ tour ok car at begins inside in
        let below = through _ (value_of s c price tour) worth low (lower (value_of s c price tour) e) in
        let among = (kept_holds s c price (allows node c) (requires_of node c) worth ok car demand).all moves (_, at, (tour, inside, begins), below) in
        let there = under_in s c price worth moves (kept_list s c price (allows node c) (requires_of node c) worth) among none in
        let high = some_under s c price worth (course_of s c moves) _ at refl there in
        at_most worth _ (value_of s c price tour) high (sym (ended_value s c price moves _ tour at refl begins (allows node c) (requires_of node c) inside))

-- a worth has no kept one that ends a tour below it
pub none_of_worth : (s : Snapshot) (node : Node) (c : ℕ) (price : ℕ → ℤ) (worth : ℤ) → IsAccepted s → c < car_count s → IsWithinRoot s node
    → IsWorth s node c price worth → first_under s c price worth (kept_list s c price (allows node c) (requires_of node c) worth) ≡ None
none_of_worth s node c price worth ok car within is =
    no_under s c price worth (IsTested s c (allows node c) (is_kept s c price (allows node c) (requires_of node c) worth))
    (kept_list s c price (allows node c) (requires_of node c) worth) none
    (tested_lists-each s c (allows node c) (is_kept s c price (allows node c) (requires_of node c) worth))
  where
    demand : IsDemand s c (allows node c) (requires_of node c)
    demand = demand_at s node c ok car within

    none : (w : List Move) → IsTested s c (allows node c) (is_kept s c price (allows node c) (requires_of node c) worth) w
        → tour_under_at s c price worth (course_of s c w) ≡ None
    none w tested =
        let x = tested.0 in
        let both = and_parts (can_be_extended s c (allows node c) (requires_of node c) x)
        (int_lt (completion_bound s c price (allows node c) (requires_of node c) x) worth) tested.2 in
        none_under s c price worth (course_of s c w) x tested.1
        (λ over. is x.left (ended_within s c (allows node c) (requires_of node c) w x demand tested.1 tested.3 over both.0))
