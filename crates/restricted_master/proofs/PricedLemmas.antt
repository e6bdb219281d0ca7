-- What picks cost against prices: each call is taken once, so its price is paid once.
use Rattle.std.proofs.Common.{◌≡◌, ℕ, zero, suc, ◌+◌, ◌*◌, ◌^◌, ◌<◌, ◌≤◌, ◌||◌, Bool, true, false, not, cond, List, [], ◌∷◌, length, ℤ, pos, neg_ℤ, ◌+ℤ◌, ◌-ℤ◌}
use Rattle.std.proofs.Common.{◌≤ℤ◌, refl, sym, ap, ◌∙◌, subst, arith}
use Rattle.std.specs.List.{All}
use Rattle.std.proofs.lemmas.Int.{ints}
use Rattle.std.proofs.lemmas.List.{get_or_default}
use Rattle.call_sets.specs.Counting.{has}
use Rattle.search_model.specs.Sums.{int_sum_where}
use Rattle.search_model.specs.Prices.{scaled, price_at}
use Rattle.search_model.proofs.SumLemmas.{int_sum-same}
use Rattle.price_scale.specs.Scale.{IsPriceSum}
use Rattle.elevator_model.specs.Tours.{none_taken}
use Rattle.car_search.specs.Counts.{one_if, times_in_set, no_times}
use Rattle.car_search.specs.Choosing.{AreOf, Completes, cost_of, excess_of, least_sum, times_in, IsBound, IsSmall, IsInRange}
use Rattle.car_search.proofs.CountLemmas.{one-true}
use Rattle.car_search.proofs.ChoosingLemmas.{completes_alike, parts}
use Rattle.restricted_master.specs.Choosing.{PlacedColumn, CarColumns, no_candidate, candidate_at}
use Rattle.restricted_master.specs.Priced.{prices_in, reduced_cost_of, IsPriced}
use Rattle.restricted_master.proofs.PlanLemmas.{one_free, one_sum}

-- the prices of the first n calls that are not taken
abbrev unpaid : (n : ℕ) → (ℕ → ℤ) → (ℕ → Bool) → ℤ
unpaid n price taken = int_sum_where n (λ j. not (taken j)) price

one_split : (t h : Bool) (z : ℤ) → (h ≡ true → t ≡ false) → cond (not t) z (pos 0) ≡ cond (not (t || h)) z (pos 0) +ℤ cond h z (pos 0)
one_split true true z apart = absurd (let e = apart refl in cc)
one_split true false z apart = omega (arith, ints)
one_split false true z apart = omega (arith, ints)
one_split false false z apart = omega (arith, ints)

unpaid_step : (n : ℕ) (price : ℕ → ℤ) (taken : ℕ → Bool) (calls : ℕ) → ((j : ℕ) → has calls j ≡ true → taken j ≡ false)
    → unpaid n price taken ≡ unpaid n price (λ j. taken j || has calls j) +ℤ int_sum_where n (has calls) price
unpaid_step zero price taken calls apart = refl
unpaid_step (suc n) price taken calls apart =
    let before = unpaid_step n price taken calls apart in
    let here = one_split (taken n) (has calls n) (price n) (apart n) in
    omega (arith, ints, before, here)

unpaid_none : (n : ℕ) (price : ℕ → ℤ) (taken : ℕ → Bool) → ((j : ℕ) → j < n → taken j ≡ true) → unpaid n price taken ≡ pos 0
unpaid_none zero price taken all = refl
unpaid_none (suc n) price taken all =
    let before = unpaid_none n price taken (λ j lt. all j (omega (arith, lt))) in
    let here = ap (λ (b : Bool). cond (not b) (price n) (pos 0)) (all n (omega arith)) in
    omega (arith, ints, before, here)

-- the law: what is not paid yet, the least reduced costs and the excess make the cost
picked_is : (prices : List ℤ) (all : ℕ → Bool) → ((j : ℕ) → j < length prices → all j ≡ true)
    → (taken : ℕ → Bool) (choices : List CarColumns) (xs : List PlacedColumn) → All (IsPriced prices) choices → AreOf choices xs
    → Completes times_in_set 1 all (λ j. one_if (taken j)) xs
    → (unpaid (length prices) (price_at prices) taken +ℤ (least_sum choices +ℤ excess_of xs)) ≡ scaled (cost_of xs)
picked_is prices all every taken [] [] priced of done =
    let none = unpaid_none (length prices) (price_at prices) taken (λ j lt. one-true (taken j) (let full = done.full j (every j lt) in omega (arith, full))) in
    omega (arith, ints, none)
picked_is prices all every taken [] (y ∷ xs) priced of done = absurd of
picked_is prices all every taken (x ∷ choices) [] priced of done = absurd of
picked_is prices all every taken (x ∷ choices) (y ∷ xs) priced of done =
    let here : candidate_at x.candidates.items of.0.0 ≡ y = get_or_default x.candidates.items of.0.0 no_candidate y of.0.1 ∙ of.0.2 in
    let excess : y.excess ≡ reduced_cost_of prices y.cost y.calls -ℤ x.least =
    subst (λ (k : PlacedColumn). k.excess ≡ reduced_cost_of prices k.cost k.calls -ℤ x.least) here ((priced 0 x (omega arith)).excess of.0.0 of.0.1) in
    let apart : (j : ℕ) → has y.calls j ≡ true → taken j ≡ false = λ j h. one_free (taken j) (has y.calls j) (times_in times_in_set xs j) (done.room j) h in
    let step = unpaid_step (length prices) (price_at prices) taken y.calls apart in
    let later = completes_alike times_in_set 1 all (λ j. one_if (taken j) + one_if (has y.calls j)) (λ j. one_if (taken j || has y.calls j)) xs
    (λ j. sym (one_sum (taken j) (has y.calls j) (has y.calls j) refl (apart j))) (parts times_in_set 1 all (λ j. one_if (taken j)) y xs done) in
    let rest = picked_is prices all every (λ j. taken j || has y.calls j) choices xs (λ k d lt. priced (suc k) d (omega (arith, lt))) of.1 later in
    omega (arith, ints, excess, step, rest)

pub choices-small : (prices : List ℤ) (choices : List CarColumns) → All (IsPriced prices) choices
    → All (λ (x : CarColumns). All IsSmall x.candidates.items) choices
choices-small prices choices priced k d lt = (priced k d lt).small

module _ (prices : List ℤ) (all : ℕ) (every : (j : ℕ) → j < length prices → has all j ≡ true) (choices : List CarColumns)
    (priced : All (IsPriced prices) choices) where
  total : prices_in prices all ≡ unpaid (length prices) (price_at prices) none_taken
  total = int_sum-same (length prices) (λ j. cond (has all j) (price_at prices j) (pos 0)) (λ j. price_at prices j)
      (λ j lt. ap (λ (b : Bool). cond b (price_at prices j) (pos 0)) (every j lt))

  -- no plan costs less than the prices and the least reduced costs together
  pub root-bound : (bound : ℤ) → bound ≡ prices_in prices all +ℤ least_sum choices → IsBound times_in_set 1 (has all) no_times choices bound
  root-bound bound is = λ xs of done.
      let whole = picked_is prices (has all) every none_taken choices xs priced of
      (completes_alike times_in_set 1 (has all) no_times (λ j. one_if (none_taken j)) xs (λ j. refl) done) in
      let same = total in
      omega (arith, ints, whole, same, is)

pub root-range : (prices least bound : ℤ) (n : ℕ) → n ≤ 16 → IsPriceSum prices → neg_ℤ (pos (4 * 10 ^ 26 * n)) ≤ℤ least → least ≤ℤ pos (4 * 10 ^ 26 * n)
    → bound ≡ prices +ℤ least → IsInRange 0 bound
root-range prices least bound n few range low high is =
    let low_prices = range.0 in
    let high_prices = range.1 in
    (omega (arith, ints, low_prices, low, few, is), omega (arith, ints, high_prices, high, few, is))

pub least-low : (prices : List ℤ) (choices : List CarColumns) → All (IsPriced prices) choices
    → All (λ (x : CarColumns). neg_ℤ (pos (4 * 10 ^ 26)) ≤ℤ x.least) choices
least-low prices choices priced k d lt = (let low = (priced k d lt).low in omega (arith, ints, low))

pub least-high : (prices : List ℤ) (choices : List CarColumns) → All (IsPriced prices) choices → All (λ (x : CarColumns). x.least ≤ℤ pos (4 * 10 ^ 26)) choices
least-high prices choices priced k d lt = (let high = (priced k d lt).high in omega (arith, ints, high))
