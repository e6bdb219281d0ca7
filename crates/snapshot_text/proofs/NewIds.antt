-- The id of an item that has no fault is among none of those before it.
use Rattle.std.proofs.Common.{◌≡◌, ℕ, ◌<◌, ◌==◌, false, List, length, map, slice_index, sym, ◌∙◌}
use Rattle.std.specs.List.{list_any}
use Rattle.std.proofs.lemmas.Bool.{eqb-false}
use Rattle.call_state.proofs.IdLemmas.{any_indexed}
use Rattle.call_state.proofs.ListTests.{list_any_at_false}

pub new_id : {X : Type 0} (id : X → ℕ) (xs : List X) (ids : List ℕ) (wanted : ℕ) → ids ≡ map id xs → list_any (λ x. id x == wanted) xs ≡ false → (k : ℕ)
    → k < length ids → slice_index ids k ≡ wanted → ⊥
new_id id xs ids wanted is none k within same =
    eqb-false wanted (slice_index ids k) (list_any_at_false (λ k. wanted == k) ids 0 k (any_indexed id xs ids wanted is ∙ none) within) (sym same)
