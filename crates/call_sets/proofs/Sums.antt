-- Sums over the numbers below a bound.
use Rattle.std.proofs.Common.{◌≡◌, add-one, ℕ, zero, suc, ◌+◌, ◌*◌, ◌<◌, ◌≤◌, ◌==◌, Bool, true, false, cond, eqb, List, length, get_or, take, refl, sym, ap}
use Rattle.std.proofs.Common.{◌∙◌, subst, inl, inr, arith}
use Rattle.std.specs.List.{sum_by}
use Rattle.std.proofs.lemmas.Bool.{false≢true, eq-eqb, ne_eqb}
use Rattle.std.proofs.lemmas.List.Sums.{sum_by_more}
use Rattle.std.proofs.Math.Nat.{eq-or-lt_of_le}
use Rattle.std.proofs.Math.Seq.{take-length}
use Rattle.call_sets.specs.Counting.{sum_below, sum_where}

pub sum_below-le : (n : ℕ) (f g : ℕ → ℕ) → ((k : ℕ) → k < n → f k ≤ g k) → sum_below n f ≤ sum_below n g
sum_below-le zero f g h = omega arith
sum_below-le (suc n) f g h = let a = sum_below-le n f g (λ k b. h k (omega arith)) in let b = h n (omega arith) in omega arith

pub sum_below-same : (n : ℕ) (f g : ℕ → ℕ) → ((k : ℕ) → k < n → f k ≡ g k) → sum_below n f ≡ sum_below n g
sum_below-same zero f g h = refl
sum_below-same (suc n) f g h = let a = sum_below-same n f g (λ k b. h k (omega arith)) in let b = h n (omega arith) in omega arith

cond-mono : (b d : Bool) (x : ℕ) → (b ≡ true → d ≡ true) → cond b x 0 ≤ cond d x 0
cond-mono false d x h = omega arith
cond-mono true false x h = absurd (false≢true (h refl))
cond-mono true true x h = omega arith

pub sum_where-less : (n : ℕ) (t u : ℕ → Bool) (f : ℕ → ℕ) → ((k : ℕ) → t k ≡ true → u k ≡ true) → sum_where n t f ≤ sum_where n u f
sum_where-less n t u f less = sum_below-le n _ _ (λ k _. cond-mono (t k) (u k) (f k) (less k))

pub sum_below-up : (n k : ℕ) (f : ℕ → ℕ) → k ≤ n → sum_below k f ≤ sum_below n f
sum_below-up zero k f le = let e : k ≡ 0 = omega arith in subst (λ (x : ℕ). sum_below x f ≤ 0) (sym e) (omega arith)
sum_below-up (suc n) k f le =
    elim (eq-or-lt_of_le le) [
      | inl e ↦ subst (λ (x : ℕ). sum_below x f ≤ sum_below (suc n) f) (sym e) (omega arith)
      | inr lt ↦ (let r = sum_below-up n k f (omega arith) in omega (arith, r))
    ]

-- the sum over the first numbers that pass is part of the sum over all numbers that pass more
pub sum_where-up : (n k : ℕ) (t u : ℕ → Bool) (f : ℕ → ℕ) → k ≤ n → ((i : ℕ) → t i ≡ true → u i ≡ true) → sum_where k t f ≤ sum_where n u f
sum_where-up n k t u f le less = let a = sum_where-less k t u f less in let b = sum_below-up n k (λ i. cond (u i) (f i) 0) le in omega (arith, a, b)

pub sum_where-step : (n k : ℕ) (t u : ℕ → Bool) (f : ℕ → ℕ) → k < n → t k ≡ true → ((i : ℕ) → t i ≡ true → u i ≡ true) → sum_where k t f + f k ≤ sum_where n u f
sum_where-step n k t u f lt h less =
    let le = sum_where-up n (suc k) t u f (omega arith) less in
    let here = ap (λ (b : Bool). cond b (f k) 0) h in
    omega (arith, le, here)

pub sum_below-split : (n m : ℕ) (f : ℕ → ℕ) → sum_below (n + m) f ≡ sum_below n f + sum_below m (λ k. f (n + k))
sum_below-split n zero f = let e : n + 0 ≡ n = omega arith in ap (λ (x : ℕ). sum_below x f) e ∙ omega arith
sum_below-split n (suc m) f =
    let e : n + suc m ≡ suc (n + m) = omega arith in
    let r = sum_below-split n m f in
    let step : sum_below (suc (n + m)) f ≡ sum_below n f + sum_below (suc m) (λ k. f (n + k)) = omega (arith, r) in
    ap (λ (x : ℕ). sum_below x f) e ∙ step

pub sum_below-zero : (n : ℕ) → sum_below n (λ k. 0) ≡ 0
sum_below-zero zero = refl
sum_below-zero (suc n) = let r = sum_below-zero n in omega (arith, r)

pub sum_below-more : (n : ℕ) (f : ℕ → ℕ) → sum_below (n + 1) f ≡ sum_below n f + f n
sum_below-more n f = let e : n + 1 ≡ suc n = omega arith in ap (λ (m : ℕ). sum_below m f) e

pub sum_below-add : (n : ℕ) (f g : ℕ → ℕ) → sum_below n (λ k. f k + g k) ≡ sum_below n f + sum_below n g
sum_below-add zero f g = refl
sum_below-add (suc n) f g = let r = sum_below-add n f g in omega (arith, r)

cond_same : (b d : Bool) (x y : ℕ) → b ≡ d → (b ≡ true → x ≡ y) → cond b x 0 ≡ cond d y 0
cond_same true true x y e h = h refl
cond_same false false x y e h = refl
cond_same true false x y e h = absurd (false≢true (sym e))
cond_same false true x y e h = absurd (false≢true e)

pub sum_where-same : (n : ℕ) (t u : ℕ → Bool) (f g : ℕ → ℕ) → ((k : ℕ) → k < n → t k ≡ u k) → ((k : ℕ) → k < n → t k ≡ true → f k ≡ g k)
    → sum_where n t f ≡ sum_where n u g
sum_where-same n t u f g same values =
    sum_below-same n (λ k. cond (t k) (f k) 0) (λ k. cond (u k) (g k) 0) (λ k b. cond_same (t k) (u k) (f k) (g k) (same k b) (values k b))

cond_times : (b d : Bool) (x y times : ℕ) → (b ≡ true → d ≡ true) → (b ≡ true → x ≤ times * y) → cond b x 0 ≤ times * cond d y 0
cond_times true true x y times i h = h refl
cond_times true false x y times i h = absurd (false≢true (i refl))
cond_times false d x y times i h = omega arith

sum_below-times : (n : ℕ) (f g : ℕ → ℕ) (times : ℕ) → ((k : ℕ) → k < n → f k ≤ times * g k) → sum_below n f ≤ times * sum_below n g
sum_below-times zero f g times h = omega arith
sum_below-times (suc n) f g times h =
    let r = sum_below-times n f g times (λ k b. h k (omega arith)) in
    let here = h n (omega arith) in
    let e : times * (sum_below n g + g n) ≡ times * sum_below n g + times * g n = omega arith in
    omega (arith, r, here, e)

-- a sum of values, each at most this many times another, over fewer numbers
pub sum_where-times : (n : ℕ) (t u : ℕ → Bool) (f g : ℕ → ℕ) (times : ℕ) → ((k : ℕ) → k < n → t k ≡ true → u k ≡ true)
    → ((k : ℕ) → k < n → t k ≡ true → f k ≤ times * g k) → sum_where n t f ≤ times * sum_where n u g
sum_where-times n t u f g times less h =
    sum_below-times n (λ k. cond (t k) (f k) 0) (λ k. cond (u k) (g k) 0) times (λ k b. cond_times (t k) (u k) (f k) (g k) times (less k b) (h k b))

sum_below-none : (n : ℕ) (f : ℕ → ℕ) → ((k : ℕ) → k < n → f k ≡ 0) → sum_below n f ≡ 0
sum_below-none zero f h = refl
sum_below-none (suc n) f h = let r = sum_below-none n f (λ k b. h k (omega arith)) in let here = h n (omega arith) in omega (arith, r, here)

pub sum_where-none : (n : ℕ) (t : ℕ → Bool) (f : ℕ → ℕ) → ((k : ℕ) → k < n → t k ≡ false) → sum_where n t f ≡ 0
sum_where-none n t f h = sum_below-none n (λ k. cond (t k) (f k) 0) (λ k b. ap (λ (x : Bool). cond x (f k) 0) (h k b))

-- one more number, in the two cases of its test
pub sum_where-take : (n : ℕ) (t : ℕ → Bool) (f : ℕ → ℕ) → t n ≡ true → sum_where (n + 1) t f ≡ sum_where n t f + f n
sum_where-take n t f e = sum_below-more n (λ k. cond (t k) (f k) 0) ∙ ap (λ (x : Bool). sum_where n t f + cond x (f n) 0) e

pub sum_where-skip : (n : ℕ) (t : ℕ → Bool) (f : ℕ → ℕ) → t n ≡ false → sum_where (n + 1) t f ≡ sum_where n t f
sum_where-skip n t f e = sum_below-more n (λ k. cond (t k) (f k) 0) ∙ ap (λ (x : Bool). sum_where n t f + cond x (f n) 0) e ∙ plus_zero (sum_where n t f)
  where
    plus_zero : (x : ℕ) → x + 0 ≡ x
    plus_zero x = omega arith

pub sum_below-each : (n : ℕ) (f : ℕ → ℕ) (most : ℕ) → ((k : ℕ) → k < n → f k ≤ most) → sum_below n f ≤ n * most
sum_below-each zero f most h = omega arith
sum_below-each (suc n) f most h =
    let r = sum_below-each n f most (λ k b. h k (omega arith)) in
    let here = h n (omega arith) in
    let e : suc n * most ≡ n * most + most = omega arith in
    omega (arith, r, here, e)

-- a number below the bound has its part of a sum
pub sum_below-one : (n j p : ℕ) → j < n → p ≤ sum_below n (λ k. cond (j == k) p 0)
sum_below-one zero j p below = absurd (omega arith)
sum_below-one (suc n) j p below =
    let le : j ≤ n = omega arith in
    elim (eq-or-lt_of_le le) [
      | inl e ↦ (let here = ap (λ (b : Bool). cond b p 0) (eq-eqb j n e) in omega (arith, here))
      | inr lt ↦ (let r = sum_below-one n j p lt in omega (arith, r))
    ]

-- a sum over the places of a list is one over its elements
sum_below-take : {X : Type 0} (f : X → ℕ) (xs : List X) (d : X) (n : ℕ) → n ≤ length xs → sum_below n (λ k. f (get_or xs k d)) ≡ sum_by f (take n xs)
sum_below-take f xs d zero within = refl
sum_below-take f xs d (suc n) within =
    let r = sum_below-take f xs d n (omega arith) in
    let more = sum_by_more f xs n d (omega arith) in
    let e : n + 1 ≡ suc n = omega arith in
    let same = ap (λ m. sum_by f (take m xs)) e in
    omega (arith, r, more, same)

pub sum_below-list : {X : Type 0} (f : X → ℕ) (xs : List X) (d : X) → sum_below (length xs) (λ k. f (get_or xs k d)) ≡ sum_by f xs
sum_below-list f xs d = sum_below-take f xs d (length xs) (omega arith) ∙ ap (sum_by f) (take-length xs)

pub sum_where-more : (n : ℕ) (test : ℕ → Bool) (f : ℕ → ℕ) → sum_where (n + 1) test f ≡ sum_where n test f + cond (test n) (f n) 0
sum_where-more n test f = rw add-one

pub sum_where-one : (n : ℕ) (f : ℕ → ℕ) (i : ℕ) → i < n → sum_where n (eqb i) f ≡ f i
sum_where-one zero f i below = absurd (omega arith)
sum_where-one (suc n) f i below =
    let le : i ≤ n = omega arith in
    elim (eq-or-lt_of_le le) [
      | inl e ↦ (let none = sum_where-none n (eqb i) f (λ k b. ne_eqb i k (λ same. omega arith)) in
          let one = ap {B = ℕ} (λ (x : Bool). cond x (f n) 0) (eq-eqb i n e) in let same = ap f e in omega (arith, none, one, same))
      | inr lt ↦ (let one = sum_where-one n f i lt in let none = ap {B = ℕ} (λ (x : Bool). cond x (f n) 0) (ne_eqb i n (λ same. omega arith)) in
          omega (arith, none, one))
    ]
