-- Sets of one car, and the part that is the least car alone.
use Rattle.std.proofs.Common.{◌≡◌, ◌≢◌, ℕ, ◌<◌, ◌^◌, eqb, Bool, true, false, not, ◌&&◌, ◌||◌, refl, sym, ap, ◌∙◌, inl, inr, arith}
use Rattle.std.specs.Int.{bit_at}
use Rattle.std.proofs.lemmas.Bool.{cases_eq, both_ways, eq-eqb, ne_eqb}
use Rattle.std.proofs.lemmas.Bool.Decides.{nat_tests}
use Rattle.std.proofs.lemmas.Nat.Bits.{same_from_bits, bit_at-lt, bit_at-pow_same, bit_at-pow_other}
use Rattle.call_sets.specs.Counting.{has, any_below}
use Rattle.call_sets.proofs.BelowTests.{any_below-at, any_below-none, any_below-true}
use Rattle.call_sets.proofs.Bits.{has_zero}
use Rattle.elevator_model.specs.Snapshot.{Snapshot, call_count, car_count}
use Rattle.search_model.specs.Nodes.{IsNodeOf, Node, is_part, set_of}
use Rattle.search_tree.specs.Branches.{AreSingle}

same_bit : (x y : ℕ) → x < 2 → y < 2 → eqb x 1 ≡ eqb y 1 → x ≡ y
same_bit x y p q e = grind (arith, nat_tests, e)

-- a set of one car is the number that has its bit
single_number : (set car : ℕ) → has set car ≡ true → ((k : ℕ) → k ≢ car → has set k ≡ false) → set ≡ 2 ^ car
single_number set car own others =
    same_from_bits set (2 ^ car) (λ k. same_bit (bit_at set k) (bit_at (2 ^ car) k) (bit_at-lt set k) (bit_at-lt (2 ^ car) k) (elim (cases_eq k car) [
      | inl e ↦ at_own k e
      | inr ne ↦ others k ne ∙ sym (ap (λ (x : ℕ). eqb x 1) (bit_at-pow_other car k ne))
    ]))
  where
    at_own : (k : ℕ) → k ≡ car → has set k ≡ has (2 ^ car) k
    at_own k e = ap (has set) e ∙ own ∙ sym (ap (λ (x : ℕ). eqb x 1) (bit_at-pow_same car)) ∙ ap (has (2 ^ car)) (sym e)

-- no car but this one is in the set
pub alone : (set rest car k : ℕ) → has set car ≡ true → ((j : ℕ) → has rest j ≡ (has set j && not (eqb j car))) → ((j : ℕ) → has rest j ≡ false)
    → has set k ≡ true → set ≡ 2 ^ k
alone set rest car k own rest_is none member =
    elim (cases_eq k car) [
      | inl e ↦ single_number set car own others ∙ ap (λ (x : ℕ). 2 ^ x) (sym e)
      | inr ne ↦ absurd (both_ways (has set k) (others k ne) member)
    ]
  where
    others : (j : ℕ) → j ≢ car → has set j ≡ false
    others j ne = other (has set j) (eqb j car) (ne_eqb j car ne) (sym (rest_is j) ∙ none j)
      where
        other : (a b : Bool) → b ≡ false → (a && not b) ≡ false → a ≡ false
        other false b e h = refl
        other true false e h = h
        other true true e h = e

-- the least car alone divides a set that has another car
pub alone-is_part : (set rest none part car other : ℕ) → car < 16 → has set car ≡ true → ((j : ℕ) → has rest j ≡ (has set j && not (eqb j car))) → other < 16
    → has rest other ≡ true → none ≡ 0 → ((j : ℕ) → has part j ≡ (has none j || eqb j car)) → is_part set part ≡ true
alone-is_part set rest none part car other lt own rest_is lt' more none_is part_is =
    both (any_below 16 (has part)) (any_below 16 (λ c. has set c && not (has part c))) (any_below 16 (λ c. has part c && not (has set c)))
    (any_below-at 16 (has part) car lt (part_at car ∙ eq-eqb car car refl))
    (any_below-at 16 (λ c. has set c && not (has part c)) other lt' (ap (λ (b : Bool). has set other && not b) (part_at other) ∙ sym (rest_is other) ∙ more))
    (any_below-none 16 (λ c. has part c && not (has set c)) (λ k _. ap (λ (b : Bool). b && not (has set k)) (part_at k) ∙ within k))
  where
    part_at : (k : ℕ) → has part k ≡ eqb k car
    part_at k = part_is k ∙ ap (λ (b : Bool). b || eqb k car) (ap (λ (x : ℕ). has x k) none_is ∙ has_zero k)

    within : (k : ℕ) → (eqb k car && not (has set k)) ≡ false
    within k = elim (cases_eq k car) [ inl e ↦ member k (ap (has set) e ∙ own) | inr ne ↦ ap (λ (b : Bool). b && not (has set k)) (ne_eqb k car ne) ]
      where
        member : (k : ℕ) → has set k ≡ true → (eqb k car && not (has set k)) ≡ false
        member k h = ap (λ (b : Bool). eqb k car && not b) h ∙ never (eqb k car)
          where
            never : (b : Bool) → (b && false) ≡ false
            never true = refl
            never false = refl

    both : (a b c : Bool) → a ≡ true → b ≡ true → c ≡ false → (a && b && not c) ≡ true
    both true true false _ _ _ = refl
    both false b c h _ _ = h
    both true false c _ h _ = h
    both true true true _ _ h = sym h

pub alone-number : (none part car : ℕ) → none ≡ 0 → ((j : ℕ) → has part j ≡ (has none j || eqb j car)) → part ≡ 2 ^ car
alone-number none part car none_is part_is =
    single_number part car (part_at car ∙ eq-eqb car car refl) (λ k ne. part_at k ∙ ne_eqb k car ne)
  where
    part_at : (k : ℕ) → has part k ≡ eqb k car
    part_at k = part_is k ∙ ap (λ (b : Bool). b || eqb k car) (ap (λ (x : ℕ). has x k) none_is ∙ has_zero k)

-- in a node of the search each call then has one car left
pub single-in_node : (s : Snapshot) (node : Node) → IsNodeOf s node → AreSingle (call_count s) node → (j : ℕ) → j < call_count s → (c : ℕ)
    × (set_of node j ≡ 2 ^ c)
single-in_node s node is_node single j lt =
    let some = any_below-true (car_count s) (has (set_of node j)) (is_node.some j lt) in
    (some.0, single j lt some.0 some.2)
