-- Sets of cars.
use Rattle.std.proofs.Common.{◌≡◌, ℕ, zero, suc, ◌+◌, ◌-◌, ◌*◌, ◌^◌, ◌<◌, eqb, Bool, true, not, ◌&&◌, sym, ap, ◌∙◌, subst, inl, inr, arith}
use Rattle.std.specs.Int.{bit_at}
use Rattle.std.proofs.lemmas.Bool.{cases_Bool, cases_eq, cond-true, cond-false, both_ways}
use Rattle.std.proofs.lemmas.Nat.Bits.{bit_at-pow_other, bit_at_cat_low, bit_at_cat_high}
use Rattle.call_sets.specs.Counting.{has}
use Rattle.call_sets.proofs.Bits.{has_none_above}
use Rattle.search_model.specs.Nodes.{set_where, rest_of}

-- a set of one car
pub has-single : (c k : ℕ) → has (2 ^ c) k ≡ true → k ≡ c
has-single c k h =
    elim (cases_eq k c) [ inl e ↦ e | inr ne ↦ absurd (both_ways (has (2 ^ c) k) (ap (λ (x : ℕ). eqb x 1) (bit_at-pow_other c k ne)) h) ]

pub set_where-below : (n : ℕ) (t : ℕ → Bool) → set_where n t < 2 ^ n
set_where-below zero t = omega arith
set_where-below (suc n) t =
    let a = set_where-below n t in
    let double : 2 ^ suc n ≡ 2 * 2 ^ n = omega arith in
    elim (cases_Bool (t n)) [
      | inl e ↦ (let one = cond-true (t n) (2 ^ n) 0 e in omega (arith, a, one, double))
      | inr e ↦ (let none = cond-false (t n) (2 ^ n) 0 e in omega (arith, a, none, double))
    ]

with_top : (n x k : ℕ) → x < 2 ^ n → k < suc n → (k ≡ n → ⊥) → has (x + 2 ^ n) k ≡ has x k
with_top n x k small below ne =
    let e : x + 2 ^ n ≡ 1 * 2 ^ n + x = omega arith in
    ap (λ (m : ℕ). has m k) e ∙ ap (λ (b : ℕ). eqb b 1) (bit_at_cat_low 1 n x k (omega arith))

at_top : (n x : ℕ) → x < 2 ^ n → has (x + 2 ^ n) n ≡ true
at_top n x small =
    let e : x + 2 ^ n ≡ 1 * 2 ^ n + x = omega arith in
    let zero_left : n - n ≡ 0 = omega arith in
    ap (λ (m : ℕ). has m n) e ∙ ap (λ (b : ℕ). eqb b 1) (bit_at_cat_high 1 n x n small (omega arith)) ∙ ap (λ (i : ℕ). eqb (bit_at 1 i) 1) zero_left

-- the members of a set by a test
pub has-set_where : (n : ℕ) (t : ℕ → Bool) (k : ℕ) → k < n → has (set_where n t) k ≡ t k
has-set_where zero t k h = absurd (omega arith)
has-set_where (suc n) t k h =
    let small = set_where-below n t in
    elim (cases_Bool (t n)) [
      | inl e ↦ (let here = cond-true (t n) (2 ^ n) 0 e in ap (λ (x : ℕ). has (set_where n t + x) k) here ∙ elim (cases_eq k n) [
        | inl same ↦ subst (λ (x : ℕ). has (set_where n t + 2 ^ n) x ≡ t x) (sym same) (at_top n (set_where n t) small ∙ sym e)
        | inr ne ↦ with_top n (set_where n t) k small h ne ∙ has-set_where n t k (omega arith)
      ])
      | inr e ↦ (let here = cond-false (t n) (2 ^ n) 0 e in let plain : set_where n t + 0 ≡ set_where n t = omega arith in
          ap (λ (x : ℕ). has (set_where n t + x) k) here ∙ ap (λ (x : ℕ). has x k) plain ∙ elim (cases_eq k n) [
            | inl same ↦ subst (λ (x : ℕ). has (set_where n t) x ≡ t x) (sym same) (has_none_above n (set_where n t) n small (omega arith) ∙ sym e)
            | inr ne ↦ has-set_where n t k (omega arith)
          ])
    ]

-- a car below 16 is in the rest exactly where it is in the set and not in the part
pub has-rest_of : (set part k : ℕ) → k < 16 → has (rest_of set part) k ≡ (has set k && not (has part k))
has-rest_of set part k h = has-set_where 16 (λ c. has set c && not (has part c)) k h
