-- Sums of signed whole numbers, and least elements.
use Rattle.std.specs.Prelude.{ℕ, zero, suc, ◌+◌, ◌/◌, ℤ, pos, negsuc, neg_ℤ, ◌+ℤ◌, List, [], ◌∷◌, Bool, min, if◌then◌else◌, Option, Some, None}

-- the sum of f over the numbers below n
abbrev pub int_sum_below : ℕ → (ℕ → ℤ) → ℤ
int_sum_below zero f = pos 0
int_sum_below (suc n) f = int_sum_below n f +ℤ f n

-- the sum of f over the numbers below n that pass the test
abbrev pub int_sum_where : ℕ → (ℕ → Bool) → (ℕ → ℤ) → ℤ
int_sum_where n test f = int_sum_below n (λ k. if test k then f k else pos 0)

-- the sum of f over the items of a list
abbrev pub int_sum_by : {X : Type 0} → (X → ℤ) → List X → ℤ
int_sum_by f [] = pos 0
int_sum_by f (x ∷ xs) = f x +ℤ int_sum_by f xs

abbrev pub lesser_of : Option ℕ → ℕ → ℕ
lesser_of None y = y
lesser_of (Some x) y = min x y

-- the least f of the numbers below n that pass the test
abbrev pub least_where : ℕ → (ℕ → Bool) → (ℕ → ℕ) → Option ℕ
least_where zero test f = None
least_where (suc n) test f = if test n then Some (lesser_of (least_where n test f) (f n)) else least_where n test f

-- a sum of thousandths in whole units, rounded up
abbrev pub rounded_up : ℤ → ℤ
rounded_up (pos n) = pos ((n + 999) / 1000)
rounded_up (negsuc n) = neg_ℤ (pos ((n + 1) / 1000))
