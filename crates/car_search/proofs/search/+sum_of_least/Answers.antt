use Rattle.std.proofs.Common.{suc, sym, ap, ◌∙◌, subst, arith, rules}
use Rattle.std.specs.Prelude.{ℤ, pos, neg_ℤ, ◌+ℤ◌, ◌≤ℤ◌, ◌*◌, ◌^◌}
use Rattle.std.specs.List.{All}
use Rattle.std.proofs.lemmas.Int.{ints}
use Rattle.car_search.specs.declared.candidates.CarChoice.{CarChoice}
use Rattle.car_search.specs.Choosing.{least_sum}
use Rattle.car_search.proofs.NumberLemmas.{small_fits, near_is, sum_is}
use Rattle.car_search.proofs.search.+sum_of_least.Goals as goal

pub returns-in-Some-clause-low : goal.returns-in-Some-clause-low
returns-in-Some-clause-low g t c =
    let few = c.requires.few in
    let long = c.in-Some.ensures.cases.1 in
    let low_all = subst (All (λ (x : CarChoice g.row.T.Denot g.row.C.Denot). neg_ℤ (pos (4 * 10 ^ 26)) ≤ℤ x.least)) c.in-Some.ensures.cases.0 c.requires.low in
    let high_all = subst (All (λ (x : CarChoice g.row.T.Denot g.row.C.Denot). x.least ≤ℤ pos (4 * 10 ^ 26))) c.in-Some.ensures.cases.0 c.requires.high in
    let low = low_all 0 c.in-Some.first.now (omega arith) in
    let high = high_all 0 c.in-Some.first.now (omega arith) in
    let rest_low = c.sum_of_least.ensures.low in
    let rest_high = c.sum_of_least.ensures.high in
    let is = sum_is c.in-Some.first.now.least c.sum_of_least.result (record { low = omega (arith, ints, low); high = omega (arith, ints, high) })
    (record { low = omega (arith, ints, rest_low, few, long); high = omega (arith, ints, rest_high, few, long) }) in
    omega (arith, ints, is, low, rest_low, long)

pub returns-in-Some-clause-high : goal.returns-in-Some-clause-high
returns-in-Some-clause-high g t c =
    let few = c.requires.few in
    let long = c.in-Some.ensures.cases.1 in
    let low_all = subst (All (λ (x : CarChoice g.row.T.Denot g.row.C.Denot). neg_ℤ (pos (4 * 10 ^ 26)) ≤ℤ x.least)) c.in-Some.ensures.cases.0 c.requires.low in
    let high_all = subst (All (λ (x : CarChoice g.row.T.Denot g.row.C.Denot). x.least ≤ℤ pos (4 * 10 ^ 26))) c.in-Some.ensures.cases.0 c.requires.high in
    let low = low_all 0 c.in-Some.first.now (omega arith) in
    let high = high_all 0 c.in-Some.first.now (omega arith) in
    let rest_low = c.sum_of_least.ensures.low in
    let rest_high = c.sum_of_least.ensures.high in
    let is = sum_is c.in-Some.first.now.least c.sum_of_least.result (record { low = omega (arith, ints, low); high = omega (arith, ints, high) })
    (record { low = omega (arith, ints, rest_low, few, long); high = omega (arith, ints, rest_high, few, long) }) in
    omega (arith, ints, is, high, rest_high, long)

pub returns-in-Some-clause-sum : goal.returns-in-Some-clause-sum
returns-in-Some-clause-sum g t c =
    let few = c.requires.few in
    let long = c.in-Some.ensures.cases.1 in
    let low_all = subst (All (λ (x : CarChoice g.row.T.Denot g.row.C.Denot). neg_ℤ (pos (4 * 10 ^ 26)) ≤ℤ x.least)) c.in-Some.ensures.cases.0 c.requires.low in
    let high_all = subst (All (λ (x : CarChoice g.row.T.Denot g.row.C.Denot). x.least ≤ℤ pos (4 * 10 ^ 26))) c.in-Some.ensures.cases.0 c.requires.high in
    let low = low_all 0 c.in-Some.first.now (omega arith) in
    let high = high_all 0 c.in-Some.first.now (omega arith) in
    let rest_low = c.sum_of_least.ensures.low in
    let rest_high = c.sum_of_least.ensures.high in
    let is = sum_is c.in-Some.first.now.least c.sum_of_least.result (record { low = omega (arith, ints, low); high = omega (arith, ints, high) })
    (record { low = omega (arith, ints, rest_low, few, long); high = omega (arith, ints, rest_high, few, long) }) in
    is ∙ ap (λ (z : ℤ). c.in-Some.first.now.least +ℤ z) c.sum_of_least.ensures.sum ∙ ap least_sum (sym c.in-Some.ensures.cases.0)

pub sum_of_least-requires : goal.sum_of_least-requires
sum_of_least-requires g t c κs within_lifetimes =
    let few = c.requires.few in
    let long = c.in-Some.ensures.cases.1 in
    let low_all = subst (All (λ (x : CarChoice g.row.T.Denot g.row.C.Denot). neg_ℤ (pos (4 * 10 ^ 26)) ≤ℤ x.least)) c.in-Some.ensures.cases.0 c.requires.low in
    let high_all = subst (All (λ (x : CarChoice g.row.T.Denot g.row.C.Denot). x.least ≤ℤ pos (4 * 10 ^ 26))) c.in-Some.ensures.cases.0 c.requires.high in (
      omega (arith, long, c.decreases),
      (
        search rules,
        (
          search rules,
          (omega (arith, long, few), (λ k d lt. low_all (suc k) d (omega (arith, lt)), λ k d lt. high_all (suc k) d (omega (arith, lt)))),
        ),
      ),
    )

pub overflow_add-result : goal.overflow_add-result
overflow_add-result g t c =
    let few = c.requires.few in
    let long = c.in-Some.ensures.cases.1 in
    let low_all = subst (All (λ (x : CarChoice g.row.T.Denot g.row.C.Denot). neg_ℤ (pos (4 * 10 ^ 26)) ≤ℤ x.least)) c.in-Some.ensures.cases.0 c.requires.low in
    let high_all = subst (All (λ (x : CarChoice g.row.T.Denot g.row.C.Denot). x.least ≤ℤ pos (4 * 10 ^ 26))) c.in-Some.ensures.cases.0 c.requires.high in
    let low = low_all 0 c.in-Some.first.now (omega arith) in
    let high = high_all 0 c.in-Some.first.now (omega arith) in
    let rest_low = c.sum_of_least.ensures.low in
    let rest_high = c.sum_of_least.ensures.high in
    let first = near_is c.in-Some.first.now.least (record { low = omega (arith, ints, low); high = omega (arith, ints, high) }) in
    let rest = near_is c.sum_of_least.result (record { low = omega (arith, ints, rest_low, few, long); high = omega (arith, ints, rest_high, few, long) }) in
    small_fits _ (omega (arith, ints, first, rest, low, rest_low, few, long)) (omega (arith, ints, first, rest, high, rest_high, few, long))

pub returns-in-None-clause-low : goal.returns-in-None-clause-low
returns-in-None-clause-low g t c = omega (arith, ints)

pub returns-in-None-clause-high : goal.returns-in-None-clause-high
returns-in-None-clause-high g t c = omega (arith, ints)
