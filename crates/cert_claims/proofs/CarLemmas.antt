-- The claims of a leaf, car by car.
use Rattle.std.proofs.Common.{◌≡◌, ℕ, ◌+◌, ◌-◌, ◌<◌, ◌≤◌, List, length, Option, sym, subst, inl, inr, arith, ◌∙◌}
use Rattle.std.specs.Prelude.{slice_index_or, slice_set}
use Rattle.std.proofs.lemmas.Bool.{cases_eq}
use Rattle.std.proofs.lemmas.List.{get_or-set_same, get_or-set_other}
use Rattle.call_sets.proofs.Sums.{sum_below-more, sum_below-up}
use Rattle.elevator_model.specs.Snapshot.{Snapshot, car_count}
use Rattle.cert_claims.specs.Due.{claim_due}
use Rattle.search_model.specs.declared.Leaf.{Leaf}
use Rattle.search_model.specs.Nodes.{Node}
use Rattle.cert_claims.specs.Leaves.{HasWorths, IsClaimWithin, LeafAt, extra_of, extra_of_cars, leaf_of}

module _ (s : Snapshot) (at : LeafAt) where
  pub extra-more : (n : ℕ) → extra_of_cars s at (n + 1) ≡ extra_of_cars s at n + (claim_due s at.node at.leaf n - 1)
  extra-more n = sum_below-more n (λ c. claim_due s at.node at.leaf c - 1)

  -- one car more goes beyond what is spare
  pub past : (car left spare : ℕ) → car < car_count s → extra_of_cars s at car + left ≡ spare → left + 1 < claim_due s at.node at.leaf car
      → spare < extra_of s at
  past car left spare lt so over =
      let more = extra-more car in
      let up = sum_below-up (car_count s) (car + 1) (λ c. claim_due s at.node at.leaf c - 1) (omega (arith, lt)) in
      omega (arith, so, over, more, up)

  -- one car more within it
  pub more_left : (car left spare claim : ℕ) → extra_of_cars s at car + left ≡ spare → claim ≡ claim_due s at.node at.leaf car → claim ≤ left + 1
      → extra_of_cars s at (car + 1) + (left - (claim - 1)) ≡ spare
  more_left car left spare claim so due few = (let more = extra-more car in omega (arith, so, due, few, more))

  pub more_due : (car claim : ℕ) (by : List ℕ) → car < length by → claim ≡ claim_due s at.node at.leaf car
      → ((c : ℕ) → c < car → slice_index_or by c 0 ≡ claim_due s at.node at.leaf c)
      → (c : ℕ) → c < car + 1 → slice_index_or (slice_set by car claim) c 0 ≡ claim_due s at.node at.leaf c
  more_due car claim by room due before c lt =
      elim (cases_eq c car) [
        | inl same ↦ subst (λ (k : ℕ). slice_index_or (slice_set by car claim) k 0 ≡ claim_due s at.node at.leaf k) (sym same)
            (get_or-set_same by car claim 0 room ∙ due)
        | inr other ↦ get_or-set_other by car c claim 0 other ∙ before c (below other)
      ]
    where
      below : (c ≡ car → ⊥) → c < car
      below other = grind (arith, lt, other)

-- at the snapshot that the desk has
pub claim_here : (s t : Snapshot) (node : Node) (leaf : Leaf) (left car : ℕ) (o : Option ℕ) → t ≡ s
    → (HasWorths t node leaf → IsClaimWithin t left (leaf_of node leaf) car o) → HasWorths s node leaf → IsClaimWithin s left (leaf_of node leaf) car o
claim_here s t node leaf left car o same given worths =
    subst (λ (x : Snapshot). IsClaimWithin x left (leaf_of node leaf) car o) same (given (subst (λ (x : Snapshot). HasWorths x node leaf) (sym same) worths))
