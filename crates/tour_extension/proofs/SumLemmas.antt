-- Sums over those that pass one of two tests.
use Rattle.std.proofs.Common.{◌≡◌, ℕ, zero, suc, ◌+◌, ◌<◌, ◌≤◌, Bool, true, false, cond, ◌&&◌, ◌||◌, eqb, refl, subst, arith}
use Rattle.std.proofs.lemmas.Bool.{eqb-true, false≢true, true≢false}
use Rattle.call_sets.specs.Counting.{sum_where}
use Rattle.call_sets.proofs.Sums.{sum_where-less, sum_where-one}

-- one that passes is no more than all that pass
pub sum_where-has : (n : ℕ) (t : ℕ → Bool) (f : ℕ → ℕ) (k : ℕ) → k < n → t k ≡ true → f k ≤ sum_where n t f
sum_where-has n t f k lt e =
    let one = sum_where-one n f k lt in
    let less = sum_where-less n (eqb k) t f (λ i same. subst (λ (x : ℕ). t x ≡ true) (eqb-true k i same) e) in
    omega (arith, one, less)

one_either : (t u v : Bool) (x : ℕ) → (t ≡ true → (u || v) ≡ true) → cond t x 0 ≤ cond u x 0 + cond v x 0
one_either false u v x h = omega arith
one_either true true v x h = omega arith
one_either true false true x h = omega arith
one_either true false false x h = absurd (false≢true (h refl))

pub sum_either : (n : ℕ) (t u v : ℕ → Bool) (f : ℕ → ℕ) → ((k : ℕ) → k < n → t k ≡ true → (u k || v k) ≡ true)
    → sum_where n t f ≤ sum_where n u f + sum_where n v f
sum_either zero t u v f h = omega arith
sum_either (suc n) t u v f h =
    let a = sum_either n t u v f (λ k b. h k (omega arith)) in let b = one_either (t n) (u n) (v n) (f n) (h n (omega arith)) in omega arith

one_both : (t u v : Bool) (x : ℕ) → (u ≡ true → t ≡ true) → (v ≡ true → t ≡ true) → (u ≡ true → v ≡ true → ⊥) → cond u x 0 + cond v x 0 ≤ cond t x 0
one_both t false false x h k n = omega arith
one_both true true false x h k n = omega arith
one_both true false true x h k n = omega arith
one_both false true v x h k n = absurd (false≢true (h refl))
one_both false false true x h k n = absurd (false≢true (k refl))
one_both true true true x h k n = absurd (n refl refl)

pub sum_both : (n : ℕ) (t u v : ℕ → Bool) (f : ℕ → ℕ) → ((k : ℕ) → k < n → u k ≡ true → t k ≡ true) → ((k : ℕ) → k < n → v k ≡ true → t k ≡ true)
    → ((k : ℕ) → k < n → u k ≡ true → v k ≡ true → ⊥) → sum_where n u f + sum_where n v f ≤ sum_where n t f
sum_both zero t u v f h k m = omega arith
sum_both (suc n) t u v f h k m =
    let a = sum_both n t u v f (λ i b. h i (omega arith)) (λ i b. k i (omega arith)) (λ i b. m i (omega arith)) in
    let b = one_both (t n) (u n) (v n) (f n) (h n (omega arith)) (k n (omega arith)) (m n (omega arith)) in
    omega arith

one_joined : (t u v : Bool) (x : ℕ) → t ≡ (u || v) → (u && v) ≡ false → cond t x 0 ≡ cond u x 0 + cond v x 0
one_joined true true false x e n = omega arith
one_joined true false true x e n = omega arith
one_joined false false false x e n = refl
one_joined t true true x e n = absurd (true≢false n)
one_joined true false false x e n = absurd (true≢false e)
one_joined false true false x e n = absurd (false≢true e)
one_joined false false true x e n = absurd (false≢true e)

pub sum_joined : (n : ℕ) (t u v : ℕ → Bool) (f : ℕ → ℕ) → ((k : ℕ) → k < n → t k ≡ (u k || v k)) → ((k : ℕ) → k < n → (u k && v k) ≡ false)
    → sum_where n t f ≡ sum_where n u f + sum_where n v f
sum_joined zero t u v f h m = refl
sum_joined (suc n) t u v f h m =
    let a = sum_joined n t u v f (λ k b. h k (omega arith)) (λ k b. m k (omega arith)) in
    let b = one_joined (t n) (u n) (v n) (f n) (h n (omega arith)) (m n (omega arith)) in
    omega arith
