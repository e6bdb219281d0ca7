-- Sets of calls that are taken once each.
use Rattle.std.proofs.Common.{◌≡◌, ℕ, ◌+◌, ◌≤◌, ◌||◌, ◌∙◌, Bool, true, false, true≢false, refl, ap, arith}
use Rattle.car_search.specs.Counts.{one_if, HasRoom}

pub room-apart : (a b : ℕ → Bool) → ((k : ℕ) → a k ≡ true → b k ≡ false) → HasRoom 1 (λ j. one_if (a j)) (λ j. one_if (b j))
room-apart a b apart j = fits (a j) (b j) (apart j)
  where
    fits : (x y : Bool) → (x ≡ true → y ≡ false) → one_if x + one_if y ≤ 1
    fits true true h = absurd (true≢false (h refl))
    fits true false h = omega arith
    fits false true h = omega arith
    fits false false h = omega arith

pub apart-room : (a b : ℕ → Bool) → HasRoom 1 (λ j. one_if (a j)) (λ j. one_if (b j)) → (k : ℕ) → a k ≡ true → b k ≡ false
apart-room a b room k h = none (a k) (b k) h (room k)
  where
    none : (x y : Bool) → x ≡ true → one_if x + one_if y ≤ 1 → y ≡ false
    none x false e few = refl
    none true true e few = absurd (omega (arith, few))
    none false true e few = cc

-- one set more
pub one-more : (a b both : ℕ → Bool) → HasRoom 1 (λ j. one_if (a j)) (λ j. one_if (b j)) → ((k : ℕ) → both k ≡ (a k || b k)) → (j : ℕ)
    → one_if (both j) ≡ one_if (a j) + one_if (b j)
one-more a b both room union j = ap one_if (union j) ∙ sum (a j) (b j) (room j)
  where
    sum : (x y : Bool) → one_if x + one_if y ≤ 1 → one_if (x || y) ≡ one_if x + one_if y
    sum true true few = absurd (omega (arith, few))
    sum true false few = refl
    sum false true few = refl
    sum false false few = refl

pub one-true : (x : Bool) → one_if x ≡ 1 → x ≡ true
one-true true e = refl
one-true false e = absurd (omega (arith, e))

pub true-one : (x : Bool) → x ≡ true → one_if x ≡ 1
true-one x e = ap one_if e

pub false-none : (x : Bool) → x ≡ false → one_if x ≡ 0
false-none x e = ap one_if e
