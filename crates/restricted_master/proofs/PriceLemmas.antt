-- Sums of prices.
use Rattle.std.proofs.Common.{◌≡◌, ℕ, ◌+◌, ◌-◌, ◌≤◌, ℤ, pos, ◌+ℤ◌, zero, suc, Bool, true, false, cond, List, [], ◌∷◌, ◌++◌, length, filter, refl, ap, ◌∙◌}
use Rattle.std.proofs.Common.{arith}
use Rattle.std.specs.List.{range_with_len}
use Rattle.std.proofs.lemmas.Int.{ints}
use Rattle.std.proofs.lemmas.List.{get_or_past}
use Rattle.call_sets.specs.Counting.{has, members}
use Rattle.search_model.specs.Sums.{int_sum_below, int_sum_where, int_sum_by}
use Rattle.search_model.specs.Prices.{price_at}

-- ---- sums over the members of a set

range_more : (a n j : ℕ) → a + n ≡ j → range_with_len a (suc n) ≡ range_with_len a n ++ j ∷ []
range_more a zero j e = ap (λ (k : ℕ). k ∷ []) (omega (arith, e))
range_more a (suc n) j e = ap (λ (xs : List ℕ). a ∷ xs) (range_more (a + 1) n j (omega (arith, e)))

by_test : (f : ℕ → ℤ) (k : ℕ) (b : Bool) (xs : List ℕ) → int_sum_by f (cond b (k ∷ xs) xs) ≡ cond b (f k) (pos 0) +ℤ int_sum_by f xs
by_test f k true xs = refl
by_test f k false xs = omega (arith, ints)

sum_more : (p : ℕ → Bool) (f : ℕ → ℤ) (xs : List ℕ) (k : ℕ) → int_sum_by f (filter p (xs ++ k ∷ [])) ≡ int_sum_by f (filter p xs) +ℤ cond (p k) (f k) (pos 0)
sum_more p f [] k =
    let here = by_test f k (p k) [] in
    omega (arith, ints, here)
sum_more p f (x ∷ xs) k =
    let rest = sum_more p f xs k in
    let longer = by_test f x (p x) (filter p (xs ++ k ∷ [])) in
    let shorter = by_test f x (p x) (filter p xs) in
    omega (arith, ints, rest, longer, shorter)

sum_of_filtered : (p : ℕ → Bool) (f : ℕ → ℤ) (n : ℕ) → int_sum_by f (filter p (range_with_len 0 n)) ≡ int_sum_where n p f
sum_of_filtered p f zero = refl
sum_of_filtered p f (suc n) =
    let more = ap (λ (xs : List ℕ). int_sum_by f (filter p xs)) (range_more 0 n n (omega arith)) ∙ sum_more p f (range_with_len 0 n) n in
    let before = sum_of_filtered p f n in
    omega (arith, ints, more, before)

-- what is 0 from some number on adds nothing there
none_past : (n m : ℕ) (f : ℕ → ℤ) → ((k : ℕ) → n ≤ k → f k ≡ pos 0) → int_sum_below (n + m) f ≡ int_sum_below n f
none_past n zero f none = ap (λ (k : ℕ). int_sum_below k f) (none_more n)
  where
    none_more : (n : ℕ) → n + 0 ≡ n
    none_more n = omega arith
none_past n (suc m) f none =
    let more = ap (λ (k : ℕ). int_sum_below k f) (one_more n m) in
    let before = none_past n m f none in
    let here = none (n + m) (omega arith) in
    omega (arith, ints, more, before, here)
  where
    one_more : (n m : ℕ) → n + suc m ≡ suc (n + m)
    one_more n m = omega arith

pub prices_to_come : (prices : List ℤ) (calls : ℕ) → length prices ≤ 128
    → int_sum_by (price_at prices) (members 128 calls) ≡ int_sum_where (length prices) (has calls) (price_at prices)
unfolding members
prices_to_come prices calls few =
    let n = length prices in
    let past = λ (k : ℕ) (le : n ≤ k). by_price (has calls k) k (get_or_past prices k (pos 0) le) in
    sum_of_filtered (has calls) (price_at prices) 128 ∙ ap (λ (k : ℕ). int_sum_where k (has calls) (price_at prices)) (all_of n few)
    ∙ none_past n (128 - n) (λ k. cond (has calls k) (price_at prices k) (pos 0)) past
  where
    all_of : (n : ℕ) → n ≤ 128 → 128 ≡ n + (128 - n)
    all_of n few = omega (arith, few)

    by_price : (b : Bool) (k : ℕ) → price_at prices k ≡ pos 0 → cond b (price_at prices k) (pos 0) ≡ pos 0
    by_price true k e = e
    by_price false k e = refl

filtered_few : (p : ℕ → Bool) (a n : ℕ) → length (filter p (range_with_len a n)) ≤ n
filtered_few p a zero = omega arith
filtered_few p a (suc n) =
    let rest = filtered_few p (a + 1) n in
    let here = by_length (p a) (filter p (range_with_len (a + 1) n)) in
    omega (arith, rest, here)
  where
    by_length : (b : Bool) (xs : List ℕ) → length (cond b (a ∷ xs) xs) ≤ suc (length xs)
    by_length true xs = omega arith
    by_length false xs = omega arith

pub members_few : (calls : ℕ) → length (members 128 calls) ≤ 128
unfolding members
members_few calls = filtered_few (has calls) 0 128
