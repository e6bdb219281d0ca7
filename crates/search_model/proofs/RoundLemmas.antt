-- Sums rounded up, and sums of prices, as `price_scale` has them.
use Rattle.std.proofs.Common.{◌≡◌, List, [], ◌∷◌, refl, ap, arith}
use Rattle.std.specs.Prelude.{ℤ, pos, negsuc, ◌+ℤ◌}
use Rattle.std.proofs.lemmas.Int.{ints}
use Rattle.price_scale.specs.Scale.{RoundsUp, price_sum}
use Rattle.search_model.specs.Sums.{rounded_up, int_sum_by}

-- the least whole number of cost units that is no less
pub rounded_up-least : (z : ℤ) → RoundsUp (pos 1000) z (rounded_up z)
rounded_up-least (pos n) = record { enough = omega (arith, ints); least = λ k h. omega (arith, ints, h) }
rounded_up-least (negsuc n) = record { enough = omega (arith, ints); least = λ k h. omega (arith, ints, h) }

pub rounded_up-same : (z units : ℤ) → RoundsUp (pos 1000) z units → units ≡ rounded_up z
rounded_up-same z units r =
    let own = rounded_up-least z in
    let low = r.least (rounded_up z) own.enough in
    let high = own.least units r.enough in
    omega (arith, ints, low, high)

pub price_sum-by : (xs : List ℤ) → price_sum xs ≡ int_sum_by (λ (x : ℤ). x) xs
price_sum-by [] = refl
price_sum-by (x ∷ xs) = ap (λ (z : ℤ). x +ℤ z) (price_sum-by xs)
