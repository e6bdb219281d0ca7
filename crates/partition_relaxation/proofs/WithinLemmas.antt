-- One more price within reach of its centre.
use Rattle.std.proofs.Common.{◌≡◌, ℕ, zero, ◌+◌, ◌<◌, ◌≤◌, ℤ, pos, List, [], ◌∷◌, ◌++◌, length, get_or, ap, sym, subst, ◌∙◌, inl, inr, arith}
use Rattle.std.proofs.lemmas.List.{get_or_append_left, get_or-append-add}
use Rattle.std.proofs.Math.Nat.{eq-or-lt_of_le}
use Rattle.search_model.specs.Prices.{price_at}
use Rattle.partition_relaxation.specs.Reaching.{IsWithin}

pub within_more : (reach : ℕ) (centre prices : List ℤ) (new : ℤ) (n : ℕ) → length prices ≡ n
    → ((j : ℕ) → j < n → IsWithin reach (price_at centre j) (price_at prices j)) → IsWithin reach (price_at centre n) new → (j : ℕ) → j < n + 1
    → IsWithin reach (price_at centre j) (price_at (prices ++ new ∷ []) j)
within_more reach centre prices new n size before here j lt =
    let le : j ≤ n = omega (arith, lt) in
    elim (eq-or-lt_of_le le) [
      | inl e ↦ (let at : length prices + 0 ≡ j = omega (arith, e, size) in
          let new_is : price_at (prices ++ new ∷ []) j ≡ new = ap (price_at (prices ++ new ∷ [])) (sym at) ∙ get_or-append-add prices (new ∷ []) 0 (pos 0) in
          subst (λ (z : ℤ). IsWithin reach (price_at centre j) z) (sym new_is) (subst (λ (k : ℕ). IsWithin reach (price_at centre k) new) (sym e) here))
      | inr less ↦ subst (λ (z : ℤ). IsWithin reach (price_at centre j) z) (sym (get_or_append_left prices (new ∷ []) (pos 0) j (omega (arith, less, size))))
          (before j less)
    ]
