-- What picks cost against prices: each call is taken twice, so its price is paid twice.
use Rattle.std.proofs.Common.{◌≡◌, ℕ, zero, suc, ◌+◌, ◌*◌, ◌^◌, ◌<◌, ◌≤◌, Bool, true, false, cond, List, [], ◌∷◌, length, ℤ, pos, neg_ℤ, ◌+ℤ◌, ◌-ℤ◌, ◌≤ℤ◌, refl}
use Rattle.std.proofs.Common.{ap, ◌∙◌, subst, arith}
use Rattle.std.specs.List.{All}
use Rattle.std.proofs.lemmas.Int.{ints}
use Rattle.std.proofs.lemmas.List.{get_or_default}
use Rattle.call_sets.specs.Counting.{has}
use Rattle.search_model.specs.Sums.{int_sum_below, int_sum_where}
use Rattle.search_model.specs.Prices.{scaled, price_at}
use Rattle.search_model.proofs.SumLemmas.{int_sum-same, int_sum-add}
use Rattle.price_scale.specs.Scale.{IsPriceSum}
use Rattle.restricted_master.specs.Priced.{prices_in}
use Rattle.car_search.specs.Counts.{one_if, and_also, no_times, HasRoom}
use Rattle.car_search.specs.Choosing.{AreOf, Completes, cost_of, excess_of, least_sum, IsBound, IsSmall, IsInRange}
use Rattle.car_search.proofs.ChoosingLemmas.{parts}
use Rattle.half_plans.specs.Choosing.{PairCandidate, CarPairs, no_candidate, candidate_at, times_of}
use Rattle.half_plans.specs.Priced.{IsPriced, reduced_cost_of_pair}

-- what a call still pays that is taken this often
left_price : ℕ → ℤ → ℤ
left_price zero z = z +ℤ z
left_price (suc zero) z = z
left_price (suc (suc n)) z = pos 0

abbrev unpaid : (n : ℕ) → (ℕ → ℤ) → (ℕ → ℕ) → ℤ
unpaid n price times = int_sum_below n (λ j. left_price (times j) (price j))

past_two : (k : ℕ) (z : ℤ) → 2 ≤ k → left_price k z ≡ pos 0
unfolding left_price
past_two zero z h = absurd (omega (arith, h))
past_two (suc zero) z h = absurd (omega (arith, h))
past_two (suc (suc n)) z h = refl

one_paid : (k : ℕ) (a b : Bool) (z : ℤ) → k + (one_if a + one_if b) ≤ 2
    → left_price k z ≡ left_price (k + (one_if a + one_if b)) z +ℤ (cond a z (pos 0) +ℤ cond b z (pos 0))
unfolding left_price
one_paid zero true true z few = omega (arith, ints)
one_paid zero true false z few = omega (arith, ints)
one_paid zero false true z few = omega (arith, ints)
one_paid zero false false z few = omega (arith, ints)
one_paid (suc zero) true true z few = absurd (omega (arith, few))
one_paid (suc zero) true false z few = omega (arith, ints)
one_paid (suc zero) false true z few = omega (arith, ints)
one_paid (suc zero) false false z few = omega (arith, ints)
one_paid (suc (suc k)) true b z few = absurd (omega (arith, few))
one_paid (suc (suc k)) false true z few = absurd (omega (arith, few))
one_paid (suc (suc k)) false false z few =
    let same = past_two (suc (suc k) + (0 + 0)) z (omega arith) in
    omega (arith, ints, same)

unpaid_step : (n : ℕ) (price : ℕ → ℤ) (times : ℕ → ℕ) (y : PairCandidate) → HasRoom 2 times (times_of y.calls)
    → unpaid n price times ≡ unpaid n price (and_also times (times_of y.calls)) +ℤ
    (int_sum_where n (has y.calls.first) price +ℤ int_sum_where n (has y.calls.second) price)
unpaid_step zero price times y room = refl
unpaid_step (suc n) price times y room =
    let before = unpaid_step n price times y room in
    let here = one_paid (times n) (has y.calls.first n) (has y.calls.second n) (price n) (room n) in
    omega (arith, ints, before, here)

unpaid_none : (n : ℕ) (price : ℕ → ℤ) (times : ℕ → ℕ) → ((j : ℕ) → j < n → times j ≡ 2) → unpaid n price times ≡ pos 0
unpaid_none zero price times all = refl
unpaid_none (suc n) price times all =
    let before = unpaid_none n price times (λ j lt. all j (omega (arith, lt))) in
    let two = all n (omega arith) in
    let here = past_two (times n) (price n) (omega (arith, two)) in
    omega (arith, ints, before, here)

unpaid_all : (n : ℕ) (price : ℕ → ℤ) (times : ℕ → ℕ) → ((j : ℕ) → times j ≡ 0) → unpaid n price times ≡ int_sum_below n price +ℤ int_sum_below n price
unfolding left_price
unpaid_all n price times none =
    int_sum-same n (λ j. left_price (times j) (price j)) (λ j. price j +ℤ price j) (λ j lt. ap (λ (k : ℕ). left_price k (price j)) (none j))
    ∙ int_sum-add n price price

-- the law: what is not paid yet, the least reduced costs and the excess make the cost
picked_is : (prices : List ℤ) (all : ℕ → Bool) → ((j : ℕ) → j < length prices → all j ≡ true)
    → (times : ℕ → ℕ) (choices : List CarPairs) (xs : List PairCandidate) → All (IsPriced prices) choices → AreOf choices xs
    → Completes times_of 2 all times xs → (unpaid (length prices) (price_at prices) times +ℤ (least_sum choices +ℤ excess_of xs)) ≡ scaled (cost_of xs)
picked_is prices all every times [] [] priced of done =
    let none = unpaid_none (length prices) (price_at prices) times (λ j lt. let full = done.full j (every j lt) in omega (arith, full)) in
    omega (arith, ints, none)
picked_is prices all every times [] (y ∷ xs) priced of done = absurd of
picked_is prices all every times (x ∷ choices) [] priced of done = absurd of
picked_is prices all every times (x ∷ choices) (y ∷ xs) priced of done =
    let here : candidate_at x.candidates.items of.0.0 ≡ y = get_or_default x.candidates.items of.0.0 no_candidate y of.0.1 ∙ of.0.2 in
    let excess : y.excess ≡ reduced_cost_of_pair prices y -ℤ x.least =
    subst (λ (k : PairCandidate). k.excess ≡ reduced_cost_of_pair prices k -ℤ x.least) here ((priced 0 x (omega arith)).excess of.0.0 of.0.1) in
    let step = unpaid_step (length prices) (price_at prices) times y (λ j. let room = done.room j in omega (arith, room)) in
    let rest = picked_is prices all every (and_also times (times_of y.calls)) choices xs (λ k d lt. priced (suc k) d (omega (arith, lt))) of.1
    (parts times_of 2 all times y xs done) in
    omega (arith, ints, excess, step, rest)

pub choices-small : (prices : List ℤ) (choices : List CarPairs) → All (IsPriced prices) choices → All (λ (x : CarPairs). All IsSmall x.candidates.items) choices
choices-small prices choices priced k d lt = (priced k d lt).small

pub least-low : (prices : List ℤ) (choices : List CarPairs) → All (IsPriced prices) choices
    → All (λ (x : CarPairs). neg_ℤ (pos (4 * 10 ^ 26)) ≤ℤ x.least) choices
least-low prices choices priced k d lt = (priced k d lt).low

pub least-high : (prices : List ℤ) (choices : List CarPairs) → All (IsPriced prices) choices → All (λ (x : CarPairs). x.least ≤ℤ pos (4 * 10 ^ 26)) choices
least-high prices choices priced k d lt = (priced k d lt).high

module _ (prices : List ℤ) (all : ℕ) (every : (j : ℕ) → j < length prices → has all j ≡ true) (choices : List CarPairs)
    (priced : All (IsPriced prices) choices) where
  total : prices_in prices all ≡ int_sum_below (length prices) (price_at prices)
  total = int_sum-same (length prices) (λ j. cond (has all j) (price_at prices j) (pos 0)) (λ j. price_at prices j)
      (λ j lt. ap (λ (b : Bool). cond b (price_at prices j) (pos 0)) (every j lt))

  -- no pair plan costs less than twice the prices and the least reduced costs together
  pub root-bound : (bound : ℤ) → bound ≡ (prices_in prices all +ℤ prices_in prices all) +ℤ least_sum choices
      → IsBound times_of 2 (has all) no_times choices bound
  root-bound bound is = λ xs of done.
      let whole = picked_is prices (has all) every no_times choices xs priced of done in
      let start = unpaid_all (length prices) (price_at prices) no_times (λ j. refl) in
      let same = total in
      omega (arith, ints, whole, start, same, is)

pub root-range : (prices least bound : ℤ) (n : ℕ) → n ≤ 16 → IsPriceSum prices → neg_ℤ (pos (4 * 10 ^ 26 * n)) ≤ℤ least → least ≤ℤ pos (4 * 10 ^ 26 * n)
    → bound ≡ (prices +ℤ prices) +ℤ least → IsInRange 0 bound
root-range prices least bound n few range low high is =
    let low_prices = range.0 in
    let high_prices = range.1 in
    (omega (arith, ints, low_prices, low, few, is), omega (arith, ints, high_prices, high, few, is))
