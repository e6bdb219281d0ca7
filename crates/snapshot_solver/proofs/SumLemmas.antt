-- Sums over calls, over groups aboard and over cars.
use Rattle.std.proofs.Common.{◌≡◌, ℕ, zero, suc, ◌+◌, ◌<◌, ◌==◌, List, [], ◌∷◌, ◌++◌, map, cond, refl, sym, ap, ◌∙◌, add-one, zero-add, arith}
use Rattle.std.specs.Prelude.{ℤ}
use Rattle.std.specs.List.{range_with_len}
use Rattle.std.proofs.lemmas.Int.{ints}
use Rattle.std.proofs.lemmas.List.FromFn.{map-range_with_len_more}
use Rattle.call_sets.specs.Counting.{sum_below, sum_where}
use Rattle.call_sets.proofs.Sums.{sum_below-add, sum_below-zero, sum_where-one}
use Rattle.search_model.specs.Sums.{int_sum_below, int_sum_by}
use Rattle.search_tree.proofs.SumLemmas.{int_sum_by-append}

-- of the numbers below m each has one number below n: a sum by the latter is a sum over all
pub sum-by_owner : (n m : ℕ) (owner f : ℕ → ℕ) → ((k : ℕ) → k < m → owner k < n) → sum_below n (λ c. sum_where m (λ k. owner k == c) f) ≡ sum_below m f
sum-by_owner n zero owner f within = sum_below-zero n
sum-by_owner n (suc m) owner f within =
    let rest = sum-by_owner n m owner f (λ k lt. within k (omega arith)) in
    let both = sum_below-add n (λ c. sum_where m (λ k. owner k == c) f) (λ c. cond (owner m == c) (f m) 0) in
    let last = sum_where-one n (λ _. f m) (owner m) (within m (omega arith)) in
    omega (arith, rest, both, last)

-- a list of what f gives of the numbers below n, added up
pub int_sum_by-below : {X : Type 0} (g : X → ℤ) (f : ℕ → X) (n : ℕ) → int_sum_by g (map f (range_with_len 0 n)) ≡ int_sum_below n (λ k. g (f k))
int_sum_by-below g f zero = refl
int_sum_by-below g f (suc n) =
    let more = ap (λ (m : ℕ). int_sum_by g (map f (range_with_len 0 m))) (sym (add-one n)) ∙ ap (int_sum_by g) (map-range_with_len_more f 0 n n (zero-add n))
    ∙ int_sum_by-append g (map f (range_with_len 0 n)) (f n ∷ []) in
    let before = int_sum_by-below g f n in
    omega (arith, ints, more, before)

-- a list of what f gives of the numbers below n, and one more
pub made-more : {X : Type 0} (f : ℕ → X) (n : ℕ) (made : List X) (x : X) → made ≡ map f (range_with_len 0 n) → x ≡ f n
    → made ++ x ∷ [] ≡ map f (range_with_len 0 (n + 1))
made-more f n made x before here =
    ap (λ xs. xs ++ x ∷ []) before ∙ ap (λ y. map f (range_with_len 0 n) ++ y ∷ []) here ∙ sym (map-range_with_len_more f 0 n n (zero-add n))
