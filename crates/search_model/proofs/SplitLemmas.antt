-- What a car may board and has to board in the nodes of a split.
use Rattle.std.proofs.Common.{◌≡◌, ℕ, ◌^◌, ◌<◌, ◌≤◌, ◌==◌, eqb, Bool, true, false, not, ◌&&◌, List, length, set, sym, ap, ◌∙◌, subst, inl, inr}
use Rattle.std.specs.Prelude.{ℤ}
use Rattle.std.proofs.lemmas.Bool.{cases_eq, both_ways, and_parts, eqb-true, not-true}
use Rattle.std.proofs.lemmas.Nat.Bits.{bit_at-pow_same}
use Rattle.call_sets.specs.Counting.{has, any_below}
use Rattle.call_sets.proofs.BelowTests.{any_below-true}
use Rattle.elevator_model.specs.Snapshot.{Snapshot}
use Rattle.elevator_model.specs.declared.Stop.{Stop}
use Rattle.search_model.specs.Prices.{IsWorth}
use Rattle.search_model.specs.Nodes.{Node, IsTourWithin, set_of, allows, requires_of, is_part, rest_of, first_of_split, second_of_split}
use Rattle.search_model.specs.Kept.{kept_list}
use Rattle.search_model.proofs.SetLemmas.{has-single, has-rest_of}
use Rattle.search_model.proofs.NodeLemmas.{part-from, set_of-set, set_of-other}
use Rattle.search_model.proofs.KeptLemmas.{Narrows, kept_list-narrows}

pub has-own : (c : ℕ) → has (2 ^ c) c ≡ true
has-own c = ap (λ (x : ℕ). eqb x 1) (bit_at-pow_same c)

-- a set of one car has no part
no_part : (c part : ℕ) → is_part (2 ^ c) part ≡ true → ⊥
no_part c part h =
    let both = and_parts (any_below 16 (has part) && any_below 16 (λ d. has (2 ^ c) d && not (has part d)))
    (not (any_below 16 (λ d. has part d && not (has (2 ^ c) d)))) h in
    let two = and_parts (any_below 16 (has part)) (any_below 16 (λ d. has (2 ^ c) d && not (has part d))) both.0 in
    let member = any_below-true 16 (has part) two.0 in
    let other = any_below-true 16 (λ d. has (2 ^ c) d && not (has part d)) two.1 in
    let parts = and_parts (has (2 ^ c) other.0) (not (has part other.0)) other.2 in
    let same : member.0 ≡ c = has-single c member.0 ((part-from (2 ^ c) part h).within member.0 member.1 member.2) in
    let same' : other.0 ≡ c = has-single c other.0 parts.0 in
    let in_part : has part c ≡ true = subst (λ (x : ℕ). has part x ≡ true) same member.2 in
    let out : has part c ≡ false = subst (λ (x : ℕ). has part x ≡ false) same' (not-true (has part other.0) parts.1) in
    both_ways (has part c) out in_part

required_inside : (node : Node) (c j : ℕ) → requires_of node c j ≡ true → allows node c j ≡ true
required_inside node c j h = ap (λ (x : ℕ). has x c) (eqb-true (set_of node j) (2 ^ c) h) ∙ has-own c

-- one call's set falls, and it had more than one car
narrows : (node : Node) (c j x : ℕ) → j < length node → (has x c ≡ true → has (set_of node j) c ≡ true) → (requires_of node c j ≡ true → ⊥)
    → Narrows (allows node c) (requires_of node c) (allows (set node j x) c) (requires_of (set node j x) c)
narrows node c j x lt falls many =
    record {
      fewer = λ i h. elim (cases_eq i j) [
        | inl e ↦ subst (λ (k : ℕ). has (set_of node k) c ≡ true) (sym e)
            (falls (ap (λ (y : ℕ). has y c) (sym (set_of-set node j x lt)) ∙ subst (λ (k : ℕ). has (set_of (set node j x) k) c ≡ true) e h))
        | inr ne ↦ ap (λ (y : ℕ). has y c) (sym (set_of-other node j x i ne)) ∙ h
      ];
      more = λ i h. elim (cases_eq i j) [
        | inl e ↦ absurd (many (subst (λ (k : ℕ). requires_of node c k ≡ true) e h))
        | inr ne ↦ ap (λ (y : ℕ). y == 2 ^ c) (set_of-other node j x i ne) ∙ h
      ];
      inside = λ i h. required_inside (set node j x) c i h;
    }

not_single : (node : Node) (c j part : ℕ) → is_part (set_of node j) part ≡ true → requires_of node c j ≡ true → ⊥
not_single node c j part h required = no_part c part (subst (λ (x : ℕ). is_part x part ≡ true) (eqb-true (set_of node j) (2 ^ c) required) h)

pub first-narrows : (node : Node) (c j part : ℕ) → c < 16 → j < length node → is_part (set_of node j) part ≡ true
    → Narrows (allows node c) (requires_of node c) (allows (first_of_split node j part) c) (requires_of (first_of_split node j part) c)
first-narrows node c j part few lt h =
    narrows node c j part lt (λ e. (part-from (set_of node j) part h).within c few e) (not_single node c j part h)

pub second-narrows : (node : Node) (c j part : ℕ) → c < 16 → j < length node → is_part (set_of node j) part ≡ true
    → Narrows (allows node c) (requires_of node c) (allows (second_of_split node j part) c) (requires_of (second_of_split node j part) c)
second-narrows node c j part few lt h =
    narrows node c j (rest_of (set_of node j) part) lt
    (λ e. (and_parts (has (set_of node j) c) (not (has part c)) (sym (has-rest_of (set_of node j) part c few) ∙ e)).0) (not_single node c j part h)

-- what is kept in a node of a split is no more than what is kept in the split node
pub kept_in_first : (s : Snapshot) (node : Node) (c j part : ℕ) (price : ℕ → ℤ) (worth : ℤ) → c < 16 → j < length node → is_part (set_of node j) part ≡ true
    → length (kept_list s c price (allows (first_of_split node j part) c) (requires_of (first_of_split node j part) c) worth) ≤ length
    (kept_list s c price (allows node c) (requires_of node c) worth)
kept_in_first s node c j part price worth few lt h =
    kept_list-narrows s c price (allows node c) (requires_of node c) (allows (first_of_split node j part) c) (requires_of (first_of_split node j part) c) worth
    (first-narrows node c j part few lt h)

pub kept_in_second : (s : Snapshot) (node : Node) (c j part : ℕ) (price : ℕ → ℤ) (worth : ℤ) → c < 16 → j < length node → is_part (set_of node j) part ≡ true
    → length (kept_list s c price (allows (second_of_split node j part) c) (requires_of (second_of_split node j part) c) worth) ≤ length
    (kept_list s c price (allows node c) (requires_of node c) worth)
kept_in_second s node c j part price worth few lt h =
    kept_list-narrows s c price (allows node c) (requires_of node c) (allows (second_of_split node j part) c)
    (requires_of (second_of_split node j part) c) worth (second-narrows node c j part few lt h)

-- a tour in a node of a split is a tour in the split node, so a worth there is a worth in both
pub tour_within-wider : (s : Snapshot) (c : ℕ) (allowed required allowed' required' : ℕ → Bool) (tour : List Stop)
    → Narrows allowed required allowed' required' → IsTourWithin s c allowed' required' tour → IsTourWithin s c allowed required tour
tour_within-wider s c allowed required allowed' required' tour n t =
    record { feasible = t.feasible; serves = λ j h. t.serves j (n.more j h); keeps = λ j h. n.fewer j (t.keeps j h) }

pub worth_in_first : (s : Snapshot) (node : Node) (c j part : ℕ) (price : ℕ → ℤ) (worth : ℤ) → c < 16 → j < length node → is_part (set_of node j) part ≡ true
    → IsWorth s node c price worth → IsWorth s (first_of_split node j part) c price worth
worth_in_first s node c j part price worth few lt h w tour t =
    w tour (tour_within-wider s c (allows node c) (requires_of node c) (allows (first_of_split node j part) c)
    (requires_of (first_of_split node j part) c) tour (first-narrows node c j part few lt h) t)

pub worth_in_second : (s : Snapshot) (node : Node) (c j part : ℕ) (price : ℕ → ℤ) (worth : ℤ) → c < 16 → j < length node → is_part (set_of node j) part ≡ true
    → IsWorth s node c price worth → IsWorth s (second_of_split node j part) c price worth
worth_in_second s node c j part price worth few lt h w tour t =
    w tour (tour_within-wider s c (allows node c) (requires_of node c) (allows (second_of_split node j part) c)
    (requires_of (second_of_split node j part) c) tour (second-narrows node c j part few lt h) t)
