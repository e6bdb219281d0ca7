-- Prices that move.
use Rattle.std.proofs.Common.{◌≡◌, ℕ, ◌+◌, ◌*◌, ◌^◌, ◌<◌, ◌≤◌, ℤ, pos, negsuc, neg_ℤ, ◌+ℤ◌, ◌-ℤ◌, ◌*ℤ◌, ◌≤ℤ◌, zero, suc, List, length, set, sym, ap, ◌∙◌, inl}
use Rattle.std.proofs.Common.{inr, arith}
use mir.Syntax.{w128}
use mir.Val.{SFits, to_z, of_z}
use Rattle.std.proofs.Math.IntN.{pos-*ℤ-pos, pos-*ℤ-negsuc}
use Rattle.std.proofs.Math.Nat.{eq-or-lt_of_le}
use Rattle.std.proofs.lemmas.Nat.{mul-le}
use Rattle.std.proofs.lemmas.Int.{ints, to_z-of_z}
use Rattle.std.proofs.lemmas.List.{get_or-set_same, get_or-set_other}
use Rattle.price_scale.specs.Scale.{cut}
use Rattle.search_model.specs.Prices.{price_at}

-- a value that fits is kept
pub wrapped : (x y : ℤ) → x ≡ y → SFits w128 y → to_z w128 (of_z w128 x) ≡ y
wrapped x y e fits = ap (λ (z : ℤ). to_z w128 (of_z w128 z)) e ∙ to_z-of_z w128 y fits

pub small_fits : (z : ℤ) → neg_ℤ (pos (10 ^ 30)) ≤ℤ z → z ≤ℤ pos (10 ^ 30) → SFits w128 z
small_fits (pos n) low high = record { sfits = omega (arith, ints, low, high) }
small_fits (negsuc n) low high = record { sfits = omega (arith, ints, low, high) }

pub less_fits : (n : ℕ) → n ≤ 16 → SFits w128 (pos 1 -ℤ pos n)
less_fits n few =
    let low : neg_ℤ (pos (10 ^ 30)) ≤ℤ (pos 1 -ℤ pos n) = omega (arith, ints, few) in
    let high : (pos 1 -ℤ pos n) ≤ℤ pos (10 ^ 30) = omega (arith, ints) in
    small_fits (pos 1 -ℤ pos n) low high

-- how far a price moves
IsChange : ℤ → Type 0
IsChange z = (neg_ℤ (pos (16 * 10 ^ 24)) ≤ℤ z) × (z ≤ℤ pos (10 ^ 24))

change_at : (k n : ℕ) → k ≤ 10 ^ 24 → n ≤ 16 → IsChange (pos k *ℤ (pos 1 -ℤ pos n))
unfolding IsChange
change_at k zero high few =
    let product : pos k *ℤ (pos 1 -ℤ pos 0) ≡ pos (k * 1) = pos-*ℤ-pos k 1 in
    (omega (arith, ints, product), omega (arith, ints, product))
change_at k (suc n) high few =
    let less : pos 1 -ℤ pos (suc n) ≡ neg_ℤ (pos n) = omega (arith, ints) in
    let product : pos k *ℤ (pos 1 -ℤ pos (suc n)) ≡ neg_ℤ (pos (k * n)) = ap (λ (z : ℤ). pos k *ℤ z) less ∙ pos_times_neg k n in
    let most = mul-le k n (10 ^ 24) 16 high (omega (arith, few)) in
    (omega (arith, ints, product, most), omega (arith, ints, product))
  where
    pos_times_neg : (k n : ℕ) → pos k *ℤ neg_ℤ (pos n) ≡ neg_ℤ (pos (k * n))
    pos_times_neg k zero = pos-*ℤ-pos k 0 ∙ omega (arith, ints)
    pos_times_neg k (suc n) = pos-*ℤ-negsuc k n

pub change_low : (step : ℤ) (n : ℕ) → pos 0 ≤ℤ step → step ≤ℤ pos (10 ^ 24) → n ≤ 16 → neg_ℤ (pos (16 * 10 ^ 24)) ≤ℤ (step *ℤ (pos 1 -ℤ pos n))
unfolding IsChange
change_low (pos k) n low high few = (change_at k n (omega (arith, ints, high)) few).0
change_low (negsuc k) n low high few = absurd (omega (arith, ints, low))

pub change_high : (step : ℤ) (n : ℕ) → pos 0 ≤ℤ step → step ≤ℤ pos (10 ^ 24) → n ≤ 16 → (step *ℤ (pos 1 -ℤ pos n)) ≤ℤ pos (10 ^ 24)
unfolding IsChange
change_high (pos k) n low high few = (change_at k n (omega (arith, ints, high)) few).1
change_high (negsuc k) n low high few = absurd (omega (arith, ints, low))

-- one price more is moved
pub moved_more : (prices old : List ℤ) (change : ℕ → ℤ) (n : ℕ) (new : ℤ) → n < length prices
    → ((j : ℕ) → j < n → price_at prices j ≡ cut (price_at old j +ℤ change j)) → new ≡ cut (price_at old n +ℤ change n) → (j : ℕ) → j < n + 1
    → price_at (set prices n new) j ≡ cut (price_at old j +ℤ change j)
moved_more prices old change n new within before here j lt =
    let le : j ≤ n = omega (arith, lt) in
    elim (eq-or-lt_of_le le) [
      | inl e ↦ ap (price_at (set prices n new)) e ∙ get_or-set_same prices n new (pos 0) within ∙ here
          ∙ sym (ap (λ (k : ℕ). cut (price_at old k +ℤ change k)) e)
      | inr less ↦ get_or-set_other prices n j new (pos 0) (λ same. omega (arith, same, less)) ∙ before j less
    ]
