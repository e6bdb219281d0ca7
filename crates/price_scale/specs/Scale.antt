-- Scaled sums: whole numbers of thousandths of a cost unit.
use Rattle.std.specs.Prelude.{ℤ, pos, neg_ℤ, ◌+ℤ◌, ◌*ℤ◌, ◌≤ℤ◌, ◌*◌, ◌^◌, List, [], ◌∷◌}
use Rattle.std.specs.Int.{int_min, int_max}

-- the value lies from -10^24 to 10^24
abbrev pub IsPrice : ℤ → Type 0
IsPrice value = (neg_ℤ (pos (10 ^ 24)) ≤ℤ value) × (value ≤ℤ pos (10 ^ 24))

-- the price that is nearest to a value
abbrev pub cut : ℤ → ℤ
cut z = int_max (neg_ℤ (pos (10 ^ 24))) (int_min (pos (10 ^ 24)) z)

-- The value lies from -1.28 * 10^26 to 1.28 * 10^26, as the sum of 128 prices of at most 10^24 each does.
abbrev pub IsPriceSum : ℤ → Type 0
IsPriceSum value = (neg_ℤ (pos (128 * 10 ^ 24)) ≤ℤ value) × (value ≤ℤ pos (128 * 10 ^ 24))

-- the prices, added up
abbrev pub price_sum : List ℤ → ℤ
price_sum [] = pos 0
price_sum (x ∷ xs) = x +ℤ price_sum xs

-- `units` is the least whole number of units of `size` that is no less than `sum`
pub record RoundsUp (size sum units : ℤ) : Type 0 where
  pub enough : sum ≤ℤ (size *ℤ units)
  pub least : (k : ℤ) → sum ≤ℤ (size *ℤ k) → units ≤ℤ k
