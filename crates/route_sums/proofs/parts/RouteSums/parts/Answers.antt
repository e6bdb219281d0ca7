use Rattle.std.proofs.Common.{◌≡◌, ◌∙◌, ℕ, true, ◌&&◌, get_or, length, ap, sym, arith}
use Rattle.std.specs.Prelude.{ℤ, pos, ◌+ℤ◌, ◌≤ℤ◌, int_lt}
use Rattle.std.proofs.lemmas.Int.{ints}
use Rattle.std.proofs.lemmas.Bool.{and_parts}
use Rattle.call_sets.specs.Counting.{has}
use Rattle.elevator_model.specs.Building.{floor_count}
use Rattle.elevator_model.specs.Snapshot.{call_count, call_of}
use Rattle.search_model.specs.Prices.{price_at}
use Rattle.search_model.specs.Sums.{int_sum_where}
use Rattle.tour_rules.proofs.Stops.{most_calls_few}
use Rattle.route_bound.specs.ForcedRoute.{part_if_boarded}
use Rattle.route_sums.specs.Gathering.{highest, lowest}
use Rattle.route_sums.specs.Idle.{adds}
use Rattle.route_sums.specs.Rows.{no_term, row_at, row_part}
use Rattle.route_sums.specs.Stands.{soonest}
use Rattle.route_sums.proofs.IdleLemmas.{idle_part}
use Rattle.route_sums.proofs.RowLemmas.{row_placed}
use Rattle.route_sums.proofs.RowPartLemmas.{not_waiting, part_idle, part_least, part_low, parts_no_less, parts_no_more, row_term, waits_within}
use Rattle.route_sums.proofs.SizeLemmas.{part_size, parts_high, ride_short, soonest_small, sums_size}
use Rattle.route_sums.proofs.parts.RouteSums.parts.Goals as goal

pub apart-elsewhere-requires : goal.apart-elsewhere-requires
apart-elsewhere-requires c =
    let size = c.args.self.now.laid.apart.size in
    let lt = c.requires.from in
    omega (arith, size, lt)

pub row-row-requires : goal.row-row-requires
row-row-requires c =
    let laid = c.args.self.now.laid in
    row_placed c.args.stand.now.place.floor (length c.args.self.now.rates.now.rates)
    (floor_count c.args.self.now.snapshot.now.building) _ c.requires.from laid.terms.size

pub row_sum-by_row-requires-clause-few : goal.row_sum-by_row-requires-clause-few
row_sum-by_row-requires-clause-few c =
    let few = most_calls_few c.args.self.now.snapshot.now c.calls-calls.ensures.accepted in
    let size = c.args.self.now.laid.rates.size in
    let same = c.row-row.ensures.size in
    omega (arith, few, size, same)

-- a call with a row
with_row : (calls elsewhere apart j : ℕ) → has apart j ≡ (has calls j && has elsewhere j) → has apart j ≡ true → has elsewhere j ≡ true
with_row calls elsewhere apart j on e = (and_parts (has calls j) (has elsewhere j) (sym on ∙ e)).1

pub row_sum-by_row-requires-clause-within : goal.row_sum-by_row-requires-clause-within
row_sum-by_row-requires-clause-within c = λ j e.
    let it = c.args.self.now in
    let size = c.row-row.ensures.size in
    let lt = (row_term it.snapshot.now it.car (price_at it.prices.now)
    (has it.required) it.rates.now c.row-row.result.now c.args.stand.now c.apart-elsewhere.result j it.laid c.requires.from c.apart-elsewhere.ensures
    c.row-row.ensures.terms (with_row c.args.calls c.apart-elsewhere.result c.intersection-apart.result j (c.intersection-apart.ensures j) e)).0 in
    omega (arith, lt, size)

pub row_sum-by_row-requires-clause-sizes : goal.row_sum-by_row-requires-clause-sizes
row_sum-by_row-requires-clause-sizes c = λ j e.
    let it = c.args.self.now in
    (row_term it.snapshot.now it.car (price_at it.prices.now)
    (has it.required) it.rates.now c.row-row.result.now c.args.stand.now c.apart-elsewhere.result j it.laid c.requires.from c.apart-elsewhere.ensures
    c.row-row.ensures.terms (with_row c.args.calls c.apart-elsewhere.result c.intersection-apart.result j (c.intersection-apart.ensures j) e)).1.size

pub each_part-others-requires-clause-within : goal.each_part-others-requires-clause-within
each_part-others-requires-clause-within c = λ j e. c.requires.within j (and_parts (has c.args.calls j) _ (sym (c.minus-rest.ensures j) ∙ e)).0

pub together-requires-clause-low : goal.together-requires-clause-low
together-requires-clause-low c =
    let s = c.args.self.now.snapshot.now in
    let all = (sums_size (call_count s) (has c.minus-rest.result) (most_calls_few s c.calls-calls.ensures.accepted)).0 in
    let low = c.each_part-others.ensures.low in
    omega (arith, ints, all, low)

pub together-requires-clause-high : goal.together-requires-clause-high
together-requires-clause-high c =
    let s = c.args.self.now.snapshot.now in
    let all = (sums_size (call_count s) (has c.minus-rest.result) (most_calls_few s c.calls-calls.ensures.accepted)).1 in
    let high = c.each_part-others.ensures.high in
    omega (arith, ints, all, high)

pub together-requires-clause-row_low : goal.together-requires-clause-row_low
together-requires-clause-row_low c = c.row_sum-by_row.ensures.low

pub together-requires-clause-row_high : goal.together-requires-clause-row_high
together-requires-clause-row_high c = c.row_sum-by_row.ensures.high

pub returns-clause-sum : goal.returns-clause-sum
returns-clause-sum c =
    let it = c.args.self.now in
    let s = it.snapshot.now in
    let stand = c.args.stand.now in
    let row = c.row-row.result.now in
    let f = λ (j : ℕ). part_if_boarded s it.car (price_at it.prices.now) (has it.required) j (soonest s it.car stand (call_of s j).origin) in
    let count = c.row-row.ensures.size ∙ it.laid.rates.size in
    let by_row = c.row_sum-by_row.ensures.added ∙ ap (λ (n : ℕ). int_sum_where n (has c.intersection-apart.result) (row_part row stand.leaves)) count in
    let low = λ (j : ℕ) (e : has c.intersection-apart.result j ≡ true).
    part_low s it.car (price_at it.prices.now) (has it.required) stand j row
    (row_term s it.car (price_at it.prices.now)
    (has it.required) it.rates.now row stand c.apart-elsewhere.result j it.laid c.requires.from c.apart-elsewhere.ensures c.row-row.ensures.terms
    (with_row c.args.calls c.apart-elsewhere.result c.intersection-apart.result j (c.intersection-apart.ensures j) e)).1 in
    same_low _ (c.each_part-others.result.added +ℤ c.row_sum-by_row.result.added) (int_sum_where (call_count s) (has c.args.calls) f) c.together.ensures.added
    (parts_no_more (call_count s) c.args.calls c.apart-elsewhere.result c.intersection-apart.result c.minus-rest.result f
    (row_part row stand.leaves) c.each_part-others.result.added c.row_sum-by_row.result.added c.intersection-apart.ensures c.minus-rest.ensures by_row
    c.each_part-others.ensures.sum low)
  where
    same_low : (u v w : ℤ) → u ≡ v → v ≤ℤ w → u ≤ℤ w
    same_low u v w e h = omega (arith, ints, e, h)

pub returns-clause-low : goal.returns-clause-low
returns-clause-low c =
    let it = c.args.self.now in
    let s = it.snapshot.now in
    let stand = c.args.stand.now in
    let row = c.row-row.result.now in
    let count = c.row-row.ensures.size ∙ it.laid.rates.size in
    let by_row = c.row_sum-by_row.ensures.added ∙ ap (λ (n : ℕ). int_sum_where n (has c.intersection-apart.result) (row_part row stand.leaves)) count in
    let low = λ (j : ℕ) (e : has c.intersection-apart.result j ≡ true).
    part_least row stand.leaves j
    (row_term s it.car (price_at it.prices.now)
    (has it.required) it.rates.now row stand c.apart-elsewhere.result j it.laid c.requires.from c.apart-elsewhere.ensures c.row-row.ensures.terms
    (with_row c.args.calls c.apart-elsewhere.result c.intersection-apart.result j (c.intersection-apart.ensures j) e)).1.size in
    same_high _ (c.each_part-others.result.added +ℤ c.row_sum-by_row.result.added)
    (int_sum_where (call_count s) (has c.args.calls) lowest) c.together.ensures.added
    (parts_no_less (call_count s) c.args.calls c.apart-elsewhere.result c.intersection-apart.result c.minus-rest.result
    (row_part row stand.leaves) c.each_part-others.result.added c.row_sum-by_row.result.added c.intersection-apart.ensures c.minus-rest.ensures by_row
    c.each_part-others.ensures.low low)
  where
    same_high : (u v w : ℤ) → u ≡ v → w ≤ℤ v → w ≤ℤ u
    same_high u v w e h = omega (arith, ints, e, h)

pub returns-clause-high : goal.returns-clause-high
returns-clause-high c =
    let it = c.args.self.now in
    let s = it.snapshot.now in
    let accepted = c.calls-calls.ensures.accepted in
    let f = λ (j : ℕ). part_if_boarded s it.car (price_at it.prices.now) (has it.required) j (soonest s it.car c.args.stand.now (call_of s j).origin) in
    let sum = returns-clause-sum c in
    let high = parts_high (call_count s) (has c.args.calls) f
    (λ j lt. part_size s it.car (price_at it.prices.now) (has it.required) j (soonest s it.car c.args.stand.now (call_of s j).origin) accepted lt
    (soonest_small s it.car c.args.stand.now (call_of s j).origin accepted it.known c.requires.from (accepted.calls j lt).origin)
    (ride_short s it.car j accepted it.known lt) (it.worth j)) in
    through _ (int_sum_where (call_count s) (has c.args.calls) f) (int_sum_where (call_count s) (has c.args.calls) highest) sum high
  where
    through : (u v w : ℤ) → u ≤ℤ v → v ≤ℤ w → u ≤ℤ w
    through u v w h k = omega (arith, ints, h, k)

pub returns-clause-within : goal.returns-clause-within
returns-clause-within c = λ j e.
    let it = c.args.self.now in
    let s = it.snapshot.now in
    let part = λ (k : ℕ). part_if_boarded s it.car (price_at it.prices.now) (has it.required) k (soonest s it.car c.args.stand.now (call_of s k).origin) in
    waits_within c.args.calls c.apart-elsewhere.result c.intersection-apart.result c.minus-rest.result c.together.result.waiting
    c.each_part-others.result.waiting c.row_sum-by_row.result.waiting j (λ k. adds (part k))
    (λ k. int_lt (row_at (get_or c.row-row.result.now k no_term) c.args.stand.now.leaves) (pos 0)) (c.intersection-apart.ensures j)
    (c.minus-rest.ensures j) (c.each_part-others.ensures.waiting j) (c.row_sum-by_row.ensures.waiting j) (c.together.ensures.waiting j) e

pub returns-clause-idle : goal.returns-clause-idle
returns-clause-idle c = λ j there none.
    let it = c.args.self.now in
    let s = it.snapshot.now in
    let stand = c.args.stand.now in
    let row = c.row-row.result.now in
    let part = λ (k : ℕ). part_if_boarded s it.car (price_at it.prices.now) (has it.required) k (soonest s it.car stand (call_of s k).origin) in
    not_waiting c.args.calls c.apart-elsewhere.result c.intersection-apart.result c.minus-rest.result c.together.result.waiting
    c.each_part-others.result.waiting c.row_sum-by_row.result.waiting j (λ k. adds (part k))
    (λ k. int_lt (row_at (get_or row k no_term) stand.leaves) (pos 0)) (part j) (c.intersection-apart.ensures j) (c.minus-rest.ensures j)
    (c.each_part-others.ensures.waiting j) (c.row_sum-by_row.ensures.waiting j) (c.together.ensures.waiting j) there none (idle_part (part j))
    (λ e. part_idle s it.car (price_at it.prices.now) (has it.required) stand j row
    (row_term s it.car (price_at it.prices.now)
    (has it.required) it.rates.now row stand c.apart-elsewhere.result j it.laid c.requires.from c.apart-elsewhere.ensures c.row-row.ensures.terms
    (with_row c.args.calls c.apart-elsewhere.result c.intersection-apart.result j (c.intersection-apart.ensures j) e)).1)
