-- Prices from one turn to the next.
use Rattle.std.proofs.Common.{◌≡◌, ℕ, ◌+◌, ◌<◌, ◌^◌, List, [], ◌∷◌, ◌++◌, length, get_or, take, sym, ap, ◌∙◌, arith}
use Rattle.std.specs.Prelude.{ℤ, pos, negsuc, neg_ℤ, ◌≤ℤ◌, max}
use Rattle.std.specs.Int.{int_max, w128}
use Rattle.std.proofs.Common.{to_z, of_z, SFits}
use Rattle.std.proofs.lemmas.Int.{ints, int_max_is, to_z-of_z}
use Rattle.std.proofs.lemmas.List.{take_more}
use Rattle.price_scale.specs.Scale.{IsPrice}
use Rattle.search_model.specs.Solving.{or_zero, greatest_price}

greatest-append : (xs ys : List ℤ) → greatest_price (xs ++ ys) ≡ max (greatest_price xs) (greatest_price ys)
greatest-append [] ys = omega arith
greatest-append (x ∷ xs) ys = let rest = greatest-append xs ys in omega (arith, rest)

greatest_more : (xs : List ℤ) (k : ℕ) → k < length xs → greatest_price (take (k + 1) xs) ≡ max (greatest_price (take k xs)) (or_zero (get_or xs k (pos 0)))
greatest_more xs k lt =
    ap greatest_price (take_more xs k (pos 0) lt) ∙ (let both = greatest-append (take k xs) (get_or xs k (pos 0) ∷ []) in omega (arith, both))

max_or_zero : (x : ℤ) (m : ℕ) → int_max x (pos m) ≡ pos (max m (or_zero x))
max_or_zero (pos n) m = omega (arith, ints, int_max_is (pos n) (pos m))
max_or_zero (negsuc n) m = omega (arith, ints, int_max_is (negsuc n) (pos m))

pub greatest-step : (prices : List ℤ) (k : ℕ) (g x : ℤ) → k < length prices → g ≡ pos (greatest_price (take k prices)) → x ≡ get_or prices k (pos 0)
    → int_max x g ≡ pos (greatest_price (take (k + 1) prices))
greatest-step prices k g x lt is at =
    ap (λ (z : ℤ). int_max z g) at ∙ ap (int_max (get_or prices k (pos 0))) is ∙ max_or_zero (get_or prices k (pos 0)) (greatest_price (take k prices))
    ∙ ap pos (sym (greatest_more prices k lt))

fits_128 : (z : ℤ) → neg_ℤ (pos (10 ^ 30)) ≤ℤ z → z ≤ℤ pos (10 ^ 30) → SFits w128 z
fits_128 (pos n) low high = record { sfits = omega (arith, ints, high) }
fits_128 (negsuc n) low high = record { sfits = omega (arith, ints, low) }

-- a number that is stored in 128 bits and read again
pub stored : (z : ℤ) → neg_ℤ (pos (10 ^ 30)) ≤ℤ z → z ≤ℤ pos (10 ^ 30) → to_z w128 (of_z w128 z) ≡ z
stored z low high = to_z-of_z w128 z (fits_128 z low high)

pub stored_price : (z : ℤ) → IsPrice z → to_z w128 (of_z w128 z) ≡ z
stored_price z h = let low = h.0 in let high = h.1 in stored z (omega (arith, ints, low)) (omega (arith, ints, high))

-- the greater of a price and what was the greatest
pub greater_range : (x g : ℤ) → IsPrice x → neg_ℤ (pos (10 ^ 24)) ≤ℤ g → g ≤ℤ pos (10 ^ 24) → IsPrice (int_max x g)
greater_range x g h low' high' = let low = h.0 in let high = h.1 in
    (omega (arith, ints, low, low', int_max_is x g), omega (arith, ints, high, high', int_max_is x g))
