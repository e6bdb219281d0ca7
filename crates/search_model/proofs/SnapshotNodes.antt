-- Nodes of a snapshot's search: the root is one, and a split of one gives two.
use Rattle.std.proofs.Common.{◌≡◌, ℕ, ◌^◌, ◌<◌, ◌≤◌, true, not, ◌&&◌, set, sym, ap, ◌∙◌, subst, inl, inr}
use Rattle.std.proofs.lemmas.Bool.{cases_eq, cases_lt, both_ways, and_parts}
use Rattle.std.proofs.lemmas.List.{get_or-map, get_or_past, length-set}
use Rattle.elevator_model.specs.declared.Call.{Call}
use Rattle.call_sets.specs.Counting.{has, any_below}
use Rattle.call_sets.proofs.Bits.{has_none_above, has_zero}
use Rattle.call_sets.proofs.BelowTests.{any_below-at, any_below-true, any_below-same}
use Rattle.elevator_model.specs.Snapshot.{Snapshot, IsAccepted, car_count, call_count, call_of, no_call, is_possible}
use Rattle.search_model.specs.Nodes.{Node, IsNodeOf, set_of, set_where, root_of, is_part, rest_of, first_of_split, second_of_split}
use Rattle.search_model.proofs.SetLemmas.{has-set_where, set_where-below, has-rest_of}
use Rattle.search_model.proofs.NodeLemmas.{part-from, set_of-set, set_of-other}
use Rattle.search_model.proofs.FeasibleLemmas.{length-root_of}

-- the set of a call in the root
pub set_of-root : (s : Snapshot) (j : ℕ) → j < call_count s → set_of (root_of s) j ≡ set_where (car_count s) (λ c. is_possible s c (call_of s j))
set_of-root s j lt = get_or-map (λ (call : Call). set_where (car_count s) (λ c. is_possible s c call)) s.calls j no_call 0 lt

pub root_is_node : (s : Snapshot) → IsAccepted s → IsNodeOf s (root_of s)
root_is_node s accepted =
    record {
      calls = length-root_of s;
      some = λ j lt. any_below-same (car_count s) (has (set_of (root_of s) j)) (λ c. is_possible s c (call_of s j))
          (λ c in'. ap (λ (x : ℕ). has x c) (set_of-root s j lt) ∙ has-set_where (car_count s) (λ d. is_possible s d (call_of s j)) c in')
          ∙ (accepted.calls j lt).possible;
      within = λ j c h. h;
    }

-- a set of the root has cars of the building alone
root_below : (s : Snapshot) (j c : ℕ) → has (set_of (root_of s) j) c ≡ true → c < car_count s
root_below s j c h =
    elim (cases_lt c (car_count s)) [
      | inl lt ↦ lt
      | inr past ↦ absurd (elim (cases_lt j (call_count s)) [
        | inl in' ↦ both_ways _
            (ap (λ (x : ℕ). has x c) (set_of-root s j in')
            ∙ has_none_above (car_count s) (set_where (car_count s) (λ d. is_possible s d (call_of s j))) c
            (set_where-below (car_count s) (λ d. is_possible s d (call_of s j))) past) h
        | inr out ↦ both_ways _ (ap (λ (x : ℕ). has x c) (get_or_past (root_of s) j 0 (subst (λ (n : ℕ). n ≤ j) (sym (length-root_of s)) out)) ∙ has_zero c) h
      ])
    ]

-- one call's set is another one that is not empty and has possible cars of the call alone
changed : (s : Snapshot) (node : Node) (j x : ℕ) → IsNodeOf s node → j < call_count s → ((c : ℕ) → has x c ≡ true → has (set_of node j) c ≡ true) → (c : ℕ)
    → has x c ≡ true → IsNodeOf s (set node j x)
changed s node j x is lt falls one member =
    record {
      calls = length-set node j x ∙ is.calls;
      some = λ i in'. elim (cases_eq i j) [
        | inl e ↦ subst (λ (k : ℕ). any_below (car_count s) (has (set_of (set node j x) k)) ≡ true) (sym e)
            (any_below-at (car_count s) (has (set_of (set node j x) j)) one (root_below s j one (is.within j one (falls one member)))
            (ap (λ (y : ℕ). has y one) at_call ∙ member))
        | inr ne ↦ subst (λ (y : ℕ). any_below (car_count s) (has y) ≡ true) (sym (set_of-other node j x i ne)) (is.some i in')
      ];
      within = λ i c h. elim (cases_eq i j) [
        | inl e ↦ subst (λ (k : ℕ). has (set_of (root_of s) k) c ≡ true) (sym e)
            (is.within j c (falls c (ap (λ (y : ℕ). has y c) (sym at_call) ∙ subst (λ (k : ℕ). has (set_of (set node j x) k) c ≡ true) e h)))
        | inr ne ↦ is.within i c (ap (λ (y : ℕ). has y c) (sym (set_of-other node j x i ne)) ∙ h)
      ];
    }
  where
    at_call : set_of (set node j x) j ≡ x
    at_call = set_of-set node j x (subst (λ (n : ℕ). j < n) (sym is.calls) lt)

pub second_is_node : (s : Snapshot) (node : Node) (j part : ℕ) → IsNodeOf s node → j < call_count s → is_part (set_of node j) part ≡ true
    → IsNodeOf s (second_of_split node j part)
second_is_node s node j part is lt h =
    let both = and_parts (any_below 16 (has part) && any_below 16 (λ c. has (set_of node j) c && not (has part c)))
    (not (any_below 16 (λ c. has part c && not (has (set_of node j) c)))) h in
    let two = and_parts (any_below 16 (has part)) (any_below 16 (λ c. has (set_of node j) c && not (has part c))) both.0 in
    let found = any_below-true 16 (λ c. has (set_of node j) c && not (has part c)) two.1 in
    changed s node j (rest_of (set_of node j) part) is lt in_set found.0 (has-rest_of (set_of node j) part found.0 found.1 ∙ found.2)
  where
    in_set : (c : ℕ) → has (rest_of (set_of node j) part) c ≡ true → has (set_of node j) c ≡ true
    in_set c e =
        elim (cases_lt c 16) [
          | inl few ↦ (and_parts (has (set_of node j) c) (not (has part c)) (sym (has-rest_of (set_of node j) part c few) ∙ e)).0
          | inr past ↦ absurd
              (both_ways _ (has_none_above 16 (rest_of (set_of node j) part) c (set_where-below 16 (λ d. has (set_of node j) d && not (has part d))) past) e)
        ]

-- the part has no car from 16 on, as no set of cars has
pub first_is_node : (s : Snapshot) (node : Node) (j part : ℕ) → part < 2 ^ 16 → IsNodeOf s node → j < call_count s → is_part (set_of node j) part ≡ true
    → IsNodeOf s (first_of_split node j part)
first_is_node s node j part small is lt h =
    let both = and_parts (any_below 16 (has part) && any_below 16 (λ c. has (set_of node j) c && not (has part c)))
    (not (any_below 16 (λ c. has part c && not (has (set_of node j) c)))) h in
    let two = and_parts (any_below 16 (has part)) (any_below 16 (λ c. has (set_of node j) c && not (has part c))) both.0 in
    let found = any_below-true 16 (has part) two.0 in
    changed s node j part is lt in_set found.0 found.2
  where
    in_set : (c : ℕ) → has part c ≡ true → has (set_of node j) c ≡ true
    in_set c e =
        elim (cases_lt c 16) [
          | inl few ↦ (part-from (set_of node j) part h).within c few e
          | inr past ↦ absurd (both_ways _ (has_none_above 16 part c small past) e)
        ]
