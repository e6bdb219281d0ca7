-- How many numbers below a bound pass a test.
use Rattle.std.proofs.Common.{◌≡◌, ℕ, zero, suc, ◌+◌, ◌<◌, ◌≤◌, Bool, true, false, cond, ◌&&◌, ◌||◌, refl, sym, ap, ◌∙◌, subst, inl, inr, arith}
use Rattle.std.proofs.lemmas.Bool.{false≢true}
use Rattle.std.proofs.Math.Nat.{eq-or-lt_of_le}
use Rattle.call_sets.specs.Counting.{any_below, sum_where}
use Rattle.call_sets.proofs.BelowTests.{any_below-true}
use Rattle.call_sets.proofs.Sums.{sum_below-same}

abbrev pub count_where : ℕ → (ℕ → Bool) → ℕ
count_where n t = sum_where n t (λ _. 1)

pub count-same : (n : ℕ) (t u : ℕ → Bool) → ((k : ℕ) → k < n → t k ≡ u k) → count_where n t ≡ count_where n u
count-same n t u h = sum_below-same n _ _ (λ k b. ap {B = ℕ} (λ (x : Bool). cond x 1 0) (h k b))

pub count-none : (n : ℕ) (t : ℕ → Bool) → ((k : ℕ) → k < n → t k ≡ false) → count_where n t ≡ 0
count-none zero t h = refl
count-none (suc n) t h = let a = count-none n t (λ k b. h k (omega arith)) in let b = ap {B = ℕ} (λ (x : Bool). cond x 1 0) (h n (omega arith)) in
    omega (arith, a, b)

pub count-all : (n : ℕ) (t : ℕ → Bool) → ((k : ℕ) → k < n → t k ≡ true) → count_where n t ≡ n
count-all zero t h = refl
count-all (suc n) t h = let a = count-all n t (λ k b. h k (omega arith)) in let b = ap {B = ℕ} (λ (x : Bool). cond x 1 0) (h n (omega arith)) in
    omega (arith, a, b)

pub count-le : (n : ℕ) (t : ℕ → Bool) → count_where n t ≤ n
count-le zero t = omega arith
count-le (suc n) t = let a = count-le n t in let b = at_most_one (t n) in omega (arith, a, b)
  where
    at_most_one : (b : Bool) → cond {A = ℕ} b 1 0 ≤ 1
    at_most_one true = omega arith
    at_most_one false = omega arith

-- one number that passes makes the count positive
pub count-some : (n : ℕ) (t : ℕ → Bool) (k : ℕ) → k < n → t k ≡ true → 1 ≤ count_where n t
count-some zero t k b h = absurd (omega arith)
count-some (suc n) t k b h =
    let le : k ≤ n = omega arith in
    elim (eq-or-lt_of_le le) [
      | inl e ↦ let here = ap {B = ℕ} (λ (x : Bool). cond x 1 0) (subst (λ (x : ℕ). t x ≡ true) e h) in omega (arith, here)
      | inr lt ↦ let r = count-some n t k lt h in omega (arith, r)
    ]

pub count-any : (n : ℕ) (t : ℕ → Bool) → any_below n t ≡ true → 1 ≤ count_where n t
count-any n t h = let r = any_below-true n t h in count-some n t r.0 r.1 r.2

-- the tests differ at one number alone
pub count-less_one : (n : ℕ) (t u : ℕ → Bool) (j : ℕ) → j < n → t j ≡ true → u j ≡ false → ((k : ℕ) → (k ≡ j → ⊥) → t k ≡ u k)
    → count_where n t ≡ count_where n u + 1
count-less_one zero t u j b h k same = absurd (omega arith)
count-less_one (suc n) t u j b h k same =
    let le : j ≤ n = omega arith in
    elim (eq-or-lt_of_le le) [
      | inl e ↦ (let below = count-same n t u (λ i lt. same i (λ eq. omega arith)) in
          let one = ap {B = ℕ} (λ (x : Bool). cond x 1 0) (subst (λ (x : ℕ). t x ≡ true) e h) in
          let none = ap {B = ℕ} (λ (x : Bool). cond x 1 0) (subst (λ (x : ℕ). u x ≡ false) e k) in omega (arith, below, one, none))
      | inr lt ↦ (let r = count-less_one n t u j lt h k same in let here = ap {B = ℕ} (λ (x : Bool). cond x 1 0) (same n (λ eq. omega arith)) in
          omega (arith, r, here))
    ]

one-split : (t u v : Bool) → (t ≡ true → (u || v) ≡ true) → cond {A = ℕ} t 1 0 ≤ cond {A = ℕ} u 1 0 + cond {A = ℕ} v 1 0
one-split false u v h = omega arith
one-split true true true h = omega arith
one-split true true false h = omega arith
one-split true false true h = omega arith
one-split true false false h = absurd (false≢true (h refl))

-- what passes one test passes one of two
pub count-split : (n : ℕ) (t u v : ℕ → Bool) → ((k : ℕ) → t k ≡ true → (u k || v k) ≡ true) → count_where n t ≤ count_where n u + count_where n v
count-split zero t u v h = omega arith
count-split (suc n) t u v h = let a = count-split n t u v h in let b = one-split (t n) (u n) (v n) (h n) in omega (arith, a, b)

one-joined : (t u v : Bool) → (u ≡ true → t ≡ true) → (v ≡ true → t ≡ true) → (u && v) ≡ false → cond {A = ℕ} u 1 0 + cond {A = ℕ} v 1 0 ≤ cond {A = ℕ} t 1 0
one-joined true true true h k apart = absurd (false≢true (sym apart))
one-joined true true false h k apart = omega arith
one-joined true false true h k apart = omega arith
one-joined true false false h k apart = omega arith
one-joined false true v h k apart = absurd (false≢true (h refl))
one-joined false false true h k apart = absurd (false≢true (k refl))
one-joined false false false h k apart = omega arith

-- two tests that exclude each other, each of which implies a third
pub count-joined : (n : ℕ) (t u v : ℕ → Bool) → ((k : ℕ) → u k ≡ true → t k ≡ true) → ((k : ℕ) → v k ≡ true → t k ≡ true) → ((k : ℕ) → (u k && v k) ≡ false)
    → count_where n u + count_where n v ≤ count_where n t
count-joined zero t u v h k apart = omega arith
count-joined (suc n) t u v h k apart = let a = count-joined n t u v h k apart in let b = one-joined (t n) (u n) (v n) (h n) (k n) (apart n) in
    omega (arith, a, b)

-- numbers past n do not pass
pub count-beyond : (n m : ℕ) (t : ℕ → Bool) → ((k : ℕ) → n ≤ k → t k ≡ false) → count_where (n + m) t ≡ count_where n t
count-beyond n zero t h = let e : n + 0 ≡ n = omega arith in ap (λ (x : ℕ). count_where x t) e
count-beyond n (suc m) t h =
    let e : n + suc m ≡ suc (n + m) = omega arith in
    let r = count-beyond n m t h in
    let here = ap {B = ℕ} (λ (x : Bool). cond x 1 0) (h (n + m) (omega arith)) in
    let step : count_where (suc (n + m)) t ≡ count_where n t = omega (arith, r, here) in
    ap (λ (x : ℕ). count_where x t) e ∙ step
