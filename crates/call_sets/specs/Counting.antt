-- Tests and sums over the numbers below a bound, and over the bits of a set.
use Rattle.std.specs.Prelude.{ℕ, zero, suc, ◌+◌, Bool, false, ◌||◌, ◌==◌, List, filter, if◌then◌else◌}
use Rattle.std.specs.Int.{bit_at}
use Rattle.std.specs.List.{list_any, range_with_len}

-- some number below n passes the test
abbrev pub any_below : ℕ → (ℕ → Bool) → Bool
any_below zero test = false
any_below (suc n) test = any_below n test || test n

-- the sum of f over the numbers below n
abbrev pub sum_below : ℕ → (ℕ → ℕ) → ℕ
sum_below zero f = 0
sum_below (suc n) f = sum_below n f + f n

-- the sum of f over the numbers below n that pass the test
abbrev pub sum_where : ℕ → (ℕ → Bool) → (ℕ → ℕ) → ℕ
sum_where n test f = sum_below n (λ k. if test k then f k else 0)

-- the number is in the list
abbrev pub is_among : ℕ → List ℕ → Bool
is_among j xs = list_any (λ x. x == j) xs

-- a set of numbers is seen as a number whose bit i says whether i is in the set
abbrev pub has : ℕ → ℕ → Bool
has set i = bit_at set i == 1

-- the members below a bound, rising
unfoldable pub members : (bound set : ℕ) → List ℕ
members bound set = filter (has set) (range_with_len 0 bound)
