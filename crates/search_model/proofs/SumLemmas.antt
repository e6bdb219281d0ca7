-- Sums of signed whole numbers.
use Rattle.std.proofs.Common.{◌≡◌, ℕ, zero, suc, ◌<◌, ◌≤◌, ◌==◌, Bool, cond, refl, sym, ap, ◌∙◌, inl, inr, arith}
use Rattle.std.specs.Prelude.{ℤ, pos, ◌+ℤ◌, ◌-ℤ◌, ◌≤ℤ◌}
use Rattle.std.proofs.lemmas.Int.{ints}
use Rattle.std.proofs.lemmas.Bool.{cases_Bool, eq-eqb, ne_eqb, cond-true, cond-false}
use Rattle.std.proofs.Math.Nat.{eq-or-lt_of_le}
use Rattle.call_sets.specs.Counting.{sum_below, sum_where}
use Rattle.search_model.specs.Sums.{int_sum_below, int_sum_where}
use Rattle.search_model.specs.Prices.{scaled}

pub int_sum-le : (n : ℕ) (f g : ℕ → ℤ) → ((k : ℕ) → k < n → f k ≤ℤ g k) → int_sum_below n f ≤ℤ int_sum_below n g
int_sum-le zero f g h = omega (arith, ints)
int_sum-le (suc n) f g h =
    let a = int_sum-le n f g (λ k b. h k (omega arith)) in
    let b = h n (omega arith) in
    omega (arith, ints, a, b)

pub int_sum-same : (n : ℕ) (f g : ℕ → ℤ) → ((k : ℕ) → k < n → f k ≡ g k) → int_sum_below n f ≡ int_sum_below n g
int_sum-same zero f g h = refl
int_sum-same (suc n) f g h =
    let a = int_sum-same n f g (λ k b. h k (omega arith)) in
    let b = h n (omega arith) in
    ap (λ (z : ℤ). z +ℤ f n) a ∙ ap (λ (z : ℤ). int_sum_below n g +ℤ z) b

pub int_sum-zero : (n : ℕ) → int_sum_below n (λ _. pos 0) ≡ pos 0
int_sum-zero zero = refl
int_sum-zero (suc n) = ap (λ (z : ℤ). z +ℤ pos 0) (int_sum-zero n)

pub int_sum-add : (n : ℕ) (f g : ℕ → ℤ) → int_sum_below n (λ k. f k +ℤ g k) ≡ int_sum_below n f +ℤ int_sum_below n g
int_sum-add zero f g = refl
int_sum-add (suc n) f g = let a = int_sum-add n f g in omega (arith, ints, a)

pub int_sum-minus : (n : ℕ) (f g : ℕ → ℤ) → int_sum_below n (λ k. f k -ℤ g k) ≡ int_sum_below n f -ℤ int_sum_below n g
int_sum-minus zero f g = refl
int_sum-minus (suc n) f g = let a = int_sum-minus n f g in omega (arith, ints, a)

-- the order of two sums does not matter
pub int_sum-swap : (n m : ℕ) (f : ℕ → ℕ → ℤ) → int_sum_below n (λ i. int_sum_below m (λ j. f i j)) ≡ int_sum_below m (λ j. int_sum_below n (λ i. f i j))
int_sum-swap zero m f = sym (int_sum-zero m)
int_sum-swap (suc n) m f =
    ap (λ (z : ℤ). z +ℤ int_sum_below m (f n)) (int_sum-swap n m f) ∙ sym (int_sum-add m (λ j. int_sum_below n (λ i. f i j)) (f n))

-- a number that is counted nowhere, or once
pub int_sum-none : (n : ℕ) (t : ℕ → Bool) (z : ℤ) → sum_where n t (λ _. 1) ≡ 0 → int_sum_where n t (λ _. z) ≡ pos 0
int_sum-none zero t z h = refl
int_sum-none (suc n) t z h =
    elim (cases_Bool (t n)) [
      | inl e ↦ absurd (let one = ap {B = ℕ} (λ (b : Bool). cond b 1 0) e in omega (arith, one, h))
      | inr e ↦ (let here = ap (λ (b : Bool). cond b z (pos 0)) e in let none = ap {B = ℕ} (λ (b : Bool). cond b 1 0) e in
          let less : sum_where n t (λ _. 1) ≡ 0 = omega (arith, none, h) in let rest = int_sum-none n t z less in omega (arith, ints, here, rest))
    ]

pub int_sum-once : (n : ℕ) (t : ℕ → Bool) (z : ℤ) → sum_where n t (λ _. 1) ≡ 1 → int_sum_where n t (λ _. z) ≡ z
int_sum-once zero t z h = absurd (omega (arith, h))
int_sum-once (suc n) t z h =
    elim (cases_Bool (t n)) [
      | inl e ↦ (let here = ap (λ (b : Bool). cond b z (pos 0)) e in let one = ap {B = ℕ} (λ (b : Bool). cond b 1 0) e in
          let less : sum_where n t (λ _. 1) ≡ 0 = omega (arith, one, h) in let rest = int_sum-none n t z less in omega (arith, ints, here, rest))
      | inr e ↦ (let here = ap (λ (b : Bool). cond b z (pos 0)) e in let none = ap {B = ℕ} (λ (b : Bool). cond b 1 0) e in
          let less : sum_where n t (λ _. 1) ≡ 1 = omega (arith, none, h) in let rest = int_sum-once n t z less in omega (arith, ints, here, rest))
    ]

-- a cost of several parts in thousandths
pub scaled-sum : (n : ℕ) (f : ℕ → ℕ) → scaled (sum_below n f) ≡ int_sum_below n (λ k. scaled (f k))
scaled-sum zero f = refl
scaled-sum (suc n) f = let a = scaled-sum n f in omega (arith, ints, a)

-- one key stands at one number
pub int_sum-at : (n key : ℕ) (z : ℤ) → key < n → int_sum_below n (λ k. cond (key == k) z (pos 0)) ≡ z
int_sum-at zero key z h = absurd (omega arith)
int_sum-at (suc n) key z h =
    let le : key ≤ n = omega arith in
    elim (eq-or-lt_of_le le) [
      | inl e ↦ (let below =
          int_sum-same n (λ k. cond (key == k) z (pos 0)) (λ _. pos 0)
          (λ k b. cond-false (key == k) z (pos 0) (ne_eqb key k (λ same. absurd (omega (arith, same, e, b))))) in let zero_below = int_sum-zero n in
          let here = cond-true (key == n) z (pos 0) (eq-eqb key n e) in omega (arith, ints, below, zero_below, here))
      | inr lt ↦ (let below = int_sum-at n key z lt in let here = cond-false (key == n) z (pos 0) (ne_eqb key n (λ same. absurd (omega (arith, same, lt)))) in
          omega (arith, ints, below, here))
    ]
