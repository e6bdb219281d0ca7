-- Sums of numbers, and how far they lie above others.
use Rattle.std.proofs.Common.{◌≡◌, ℕ, suc, ◌+◌, ℤ, ◌+ℤ◌, ◌-ℤ◌, ap, ◌∙◌, arith}
use mir.Syntax.{w128}
use mir.Val.{to_z, of_z}
use Rattle.std.proofs.lemmas.Int.{ints}
use Rattle.search_model.specs.Sums.{int_sum_below}
use Rattle.car_search.proofs.NumberLemmas.{IsModest, wrapped, small_fits, difference_is}

-- how much two numbers lie above a third
pub excess_is : (a b l : ℤ) → IsModest a → IsModest b → IsModest l
    → to_z w128 (of_z w128 (to_z w128 (of_z w128 (to_z w128 (of_z w128 a) -ℤ to_z w128 (of_z w128 l))) +ℤ to_z w128
    (of_z w128 (to_z w128 (of_z w128 b) -ℤ to_z w128 (of_z w128 l))))) ≡ (a -ℤ l) +ℤ (b -ℤ l)
excess_is a b l first second least =
    let left = to_z w128 (of_z w128 (to_z w128 (of_z w128 a) -ℤ to_z w128 (of_z w128 l))) in
    let right = to_z w128 (of_z w128 (to_z w128 (of_z w128 b) -ℤ to_z w128 (of_z w128 l))) in
    let low_a = first.low in
    let high_a = first.high in
    let low_b = second.low in
    let high_b = second.high in
    let low_l = least.low in
    let high_l = least.high in
    wrapped (left +ℤ right) ((a -ℤ l) +ℤ (b -ℤ l))
    (ap (λ (z : ℤ). z +ℤ right) (difference_is a l first least) ∙ ap (λ (z : ℤ). (a -ℤ l) +ℤ z) (difference_is b l second least))
    (small_fits ((a -ℤ l) +ℤ (b -ℤ l)) (omega (arith, ints, low_a, low_b, high_l)) (omega (arith, ints, high_a, high_b, low_l)))

-- one number more in a sum
pub int_sum-more : (n : ℕ) (f : ℕ → ℤ) → int_sum_below (n + 1) f ≡ int_sum_below n f +ℤ f n
int_sum-more n f = (let e : n + 1 ≡ suc n = omega arith in ap (λ (k : ℕ). int_sum_below k f) e)
