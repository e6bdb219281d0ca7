-- Laws of sums of prices.
use Rattle.std.proofs.Common.{◌≡◌, ℕ, ◌+◌, ◌<◌, List, [], ◌∷◌, ◌++◌, length, get_or, take, ℤ, ◌+ℤ◌, ap, ◌∙◌, arith}
use Rattle.std.proofs.lemmas.Int.{ints}
use Rattle.std.proofs.lemmas.List.{take_more}
use Rattle.price_scale.specs.Scale.{price_sum}

pub price_sum-append : (xs ys : List ℤ) → price_sum (xs ++ ys) ≡ price_sum xs +ℤ price_sum ys
price_sum-append [] ys = omega (arith, ints)
price_sum-append (x ∷ xs) ys = omega (arith, ints, price_sum-append xs ys)

-- one more price, for a loop's step
pub price_sum_more : (xs : List ℤ) (i : ℕ) (d : ℤ) → i < length xs → price_sum (take (i + 1) xs) ≡ price_sum (take i xs) +ℤ get_or xs i d
price_sum_more xs i d h =
    ap price_sum (take_more xs i d h) ∙ omega (arith, ints, price_sum-append (take i xs) (get_or xs i d ∷ []))
