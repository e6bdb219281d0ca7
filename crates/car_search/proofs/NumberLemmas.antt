-- Numbers that fit, and the first numbers one by one.
use Rattle.std.proofs.Common.{◌≡◌, ℕ, zero, suc, ◌+◌, ◌*◌, ◌^◌, ◌<◌, ◌≤◌, ◌==◌, false, true≢false, ℤ, pos, negsuc, neg_ℤ, ◌+ℤ◌, ◌-ℤ◌, ◌≤ℤ◌, ap, ◌∙◌, inl, inr}
use Rattle.std.proofs.Common.{arith}
use mir.Syntax.{w128}
use mir.Val.{to_z, of_z, SFits}
use Rattle.std.proofs.Math.Nat.{eq-or-lt_of_le}
use Rattle.std.proofs.lemmas.Int.{ints, to_z-of_z}

pub last_or_before : (k n : ℕ) → k < n + 1 → {P : Type 0} → (k ≡ n → P) → (k < n → P) → P
last_or_before k n lt here before =
    let le : k ≤ n = omega (arith, lt) in
    elim (eq-or-lt_of_le le) [ inl e ↦ here e | inr less ↦ before less ]

pub one_more : (n m : ℕ) → (n + 1) * m ≡ n * m + m
one_more n m = omega (arith)

pub positive : (left : ℕ) → (left == 0) ≡ false → 0 < left
positive zero h = absurd (true≢false h)
positive (suc n) h = omega arith

-- functions that have one value everywhere are one
pub same_function : {A B : Type 0} (f g : A → B) → ((x : A) → f x ≡ g x) → f ≡ g
same_function f g h = λ i. λ x. h x i

-- ---- signed numbers of 128 bits

pub wrapped : (x y : ℤ) → x ≡ y → SFits w128 y → to_z w128 (of_z w128 x) ≡ y
wrapped x y e fits = ap (λ (z : ℤ). to_z w128 (of_z w128 z)) e ∙ to_z-of_z w128 y fits

pub small_fits : (z : ℤ) → neg_ℤ (pos (10 ^ 30)) ≤ℤ z → z ≤ℤ pos (10 ^ 30) → SFits w128 z
small_fits (pos n) low high = record { sfits = omega (arith, ints, low, high) }
small_fits (negsuc n) low high = record { sfits = omega (arith, ints, low, high) }

-- far from the greatest
pub record IsModest (z : ℤ) : Type 0 where
  pub low : neg_ℤ (pos (10 ^ 29)) ≤ℤ z
  pub high : z ≤ℤ pos (10 ^ 29)

pub near_is : (z : ℤ) → IsModest z → to_z w128 (of_z w128 z) ≡ z
near_is z near = (let low = near.low in let high = near.high in to_z-of_z w128 z (small_fits z (omega (arith, ints, low)) (omega (arith, ints, high))))

pub sum_is : (a b : ℤ) → IsModest a → IsModest b → to_z w128 (of_z w128 (to_z w128 (of_z w128 a) +ℤ to_z w128 (of_z w128 b))) ≡ a +ℤ b
sum_is a b first second =
    let low = first.low in
    let high = first.high in
    let least = second.low in
    let most = second.high in
    wrapped (to_z w128 (of_z w128 a) +ℤ to_z w128 (of_z w128 b)) (a +ℤ b)
    (ap (λ (z : ℤ). z +ℤ to_z w128 (of_z w128 b)) (near_is a first) ∙ ap (λ (z : ℤ). a +ℤ z) (near_is b second))
    (small_fits (a +ℤ b) (omega (arith, ints, low, least)) (omega (arith, ints, high, most)))

pub difference_is : (a b : ℤ) → IsModest a → IsModest b → to_z w128 (of_z w128 (to_z w128 (of_z w128 a) -ℤ to_z w128 (of_z w128 b))) ≡ a -ℤ b
difference_is a b first second =
    let low = first.low in
    let high = first.high in
    let least = second.low in
    let most = second.high in
    wrapped (to_z w128 (of_z w128 a) -ℤ to_z w128 (of_z w128 b)) (a -ℤ b)
    (ap (λ (z : ℤ). z -ℤ to_z w128 (of_z w128 b)) (near_is a first) ∙ ap (λ (z : ℤ). a -ℤ z) (near_is b second))
    (small_fits (a -ℤ b) (omega (arith, ints, low, most)) (omega (arith, ints, high, least)))
