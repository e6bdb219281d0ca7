-- Tests of the numbers below a bound.
use Rattle.std.proofs.Common.{◌≡◌, ℕ, zero, suc, ◌+◌, ◌<◌, ◌≤◌, Bool, true, false, ◌||◌, refl, sym, ap, ◌∙◌, subst, inl, inr, arith}
use Rattle.std.proofs.lemmas.Bool.{or_from, or_cases, or_left, or_right, false≢true, false_from_ne_true, both_ways}
use Rattle.std.proofs.Math.Nat.{eq-or-lt_of_le}
use Rattle.call_sets.specs.Counting.{any_below}

pub any_below-at : (n : ℕ) (t : ℕ → Bool) (k : ℕ) → k < n → t k ≡ true → any_below n t ≡ true
any_below-at zero t k below h = absurd (omega arith)
any_below-at (suc n) t k below h =
    let le : k ≤ n = omega arith in
    elim (eq-or-lt_of_le le) [
      | inl e ↦ or_right (any_below n t) (t n) (subst (λ (x : ℕ). t x ≡ true) e h)
      | inr lt ↦ or_left (any_below n t) (t n) (any_below-at n t k lt h)
    ]

pub any_below-false : (n : ℕ) (t : ℕ → Bool) (k : ℕ) → any_below n t ≡ false → k < n → t k ≡ false
any_below-false n t k none below = false_from_ne_true (t k) (λ h. both_ways _ none (any_below-at n t k below h))

pub any_below-true : (n : ℕ) (t : ℕ → Bool) → any_below n t ≡ true → (k : ℕ) × (k < n) × (t k ≡ true)
any_below-true zero t h = absurd (false≢true h)
any_below-true (suc n) t h =
    elim (or_cases (any_below n t) (t n) h) [ inl e ↦ let r = any_below-true n t e in let b = r.1 in (r.0, omega arith, r.2) | inr e ↦ (n, omega arith, e) ]

pub any_below-none : (n : ℕ) (t : ℕ → Bool) → ((k : ℕ) → k < n → t k ≡ false) → any_below n t ≡ false
any_below-none zero t h = refl
any_below-none (suc n) t h = or_from (any_below n t) (t n) (any_below-none n t (λ k b. h k (omega arith))) (h n (omega arith))

-- fewer numbers pass
pub any_below-less : (n : ℕ) (t u : ℕ → Bool) → ((k : ℕ) → t k ≡ true → u k ≡ true) → any_below n u ≡ false → any_below n t ≡ false
any_below-less n t u less none =
    any_below-none n t (λ k b. false_from_ne_true (t k) (λ h. both_ways _ (any_below-false n u k none b) (less k h)))

pub any_below-same : (n : ℕ) (t u : ℕ → Bool) → ((k : ℕ) → k < n → t k ≡ u k) → any_below n t ≡ any_below n u
any_below-same zero t u h = refl
any_below-same (suc n) t u h = let a = any_below-same n t u (λ k b. h k (omega arith)) in let b = h n (omega arith) in cc

pub any_below-split : (n m : ℕ) (t : ℕ → Bool) → any_below (n + m) t ≡ (any_below n t || any_below m (λ k. t (n + k)))
any_below-split n zero t = let e : n + 0 ≡ n = omega arith in ap (λ (x : ℕ). any_below x t) e ∙ sym (or_false (any_below n t))
  where
    or_false : (b : Bool) → (b || false) ≡ b
    or_false true = refl
    or_false false = refl
any_below-split n (suc m) t =
    let e : n + suc m ≡ suc (n + m) = omega arith in
    ap (λ (x : ℕ). any_below x t) e ∙ ap (λ (b : Bool). b || t (n + m)) (any_below-split n m t)
    ∙ or_again (any_below n t) (any_below m (λ k. t (n + k))) (t (n + m))
  where
    or_again : (a b d : Bool) → ((a || b) || d) ≡ (a || (b || d))
    or_again true b d = refl
    or_again false b d = refl

pub any_below-more : (t : ℕ → Bool) (n : ℕ) → any_below n t ≡ false → t n ≡ false → any_below (n + 1) t ≡ false
any_below-more t n none here = let e : n + 1 ≡ suc n = omega arith in ap (λ (k : ℕ). any_below k t) e ∙ or_from (any_below n t) (t n) none here
