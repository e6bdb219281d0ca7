use Rattle.std.proofs.Common.{◌≡◌, ◌≤◌, ◌<◌, ◌∙◌, ℕ, List, length, ltb, ap, subst, arith}
use Rattle.std.specs.Prelude.{ℤ, pos, neg_ℤ, ◌+ℤ◌, ◌≤ℤ◌, ◌*◌, ◌^◌, true}
use mir.Syntax.{w128}
use mir.Val.{to_z, of_z}
use Rattle.std.proofs.lemmas.Int.{ints}
use Rattle.std.proofs.lemmas.Bool.{lt-ltb}
use Rattle.price_scale.specs.Scale.{IsPriceSum}
use Rattle.car_search.specs.Counts.{no_times, times_in_set}
use Rattle.car_search.specs.Choosing.{NoneBeats, least_sum, to_beat}
use Rattle.car_search.proofs.NumberLemmas.{sum_is}
use Rattle.restricted_master.specs.Priced.{prices_in}
use Rattle.restricted_master.proofs.PricedLemmas.{root-bound, root-range, choices-small, least-low, least-high}
use Rattle.call_sets.specs.Counting.{has}
use Rattle.elevator_model.specs.declared.Call.{Call}
use Rattle.elevator_model.specs.Snapshot.{Snapshot, call_count}
use Rattle.tour_cost.proofs.Served.{cars-le}
use Rattle.restricted_master.proofs.PlanLemmas.{picked-plan, cheapest-pick, least-below, picked-below, spent-many, ample-unspent}
use Rattle.restricted_master.proofs.pools.Pool.picks_below.Goals as goal

-- the set of all calls has the snapshot's
all_calls : (c : goal.After-cheapest_picks) → (k : ℕ) → has c.first_calls-all.result k ≡ ltb k (call_count c.args.self.now.snapshot)
all_calls c k = c.first_calls-all.ensures k ∙ ap (λ (l : List Call). ltb k (length l)) c.calls.ensures.value
    ∙ ap (λ (s : Snapshot). ltb k (call_count s)) c.snapshot.ensures.value

few_cars : (c : goal.After-cheapest_picks) → length c.args.choices.now ≤ 16
few_cars c =
    let cars = c.requires.choices.cars in
    let few = cars-le c.args.self.now.snapshot c.snapshot.ensures.pool.accepted in
    omega (arith, cars, few)

pub returns-clause-picked : goal.returns-clause-picked
returns-clause-picked c =
    picked-plan c.args.self.now c.args.choices.now c.first_calls-all.result c.requires.choices
    (all_calls c) c.args.beat c.cheapest_picks.result.picked c.cheapest_picks.ensures.selection

pub returns-clause-least : goal.returns-clause-least
returns-clause-least c = λ h.
    least-below c.args.self.now c.args.choices.now c.first_calls-all.result c.requires.choices (all_calls c) c.args.beat c.cheapest_picks.result.picked
    (c.cheapest_picks.ensures.cheapest h)

pub returns-clause-below : goal.returns-clause-below
returns-clause-below c =
    picked-below c.args.choices.now c.first_calls-all.result c.args.beat c.cheapest_picks.result.picked c.cheapest_picks.ensures.selection

pub returns-clause-whole : goal.returns-clause-whole
returns-clause-whole c = λ e h.
    cheapest-pick c.args.self.now c.args.choices.now c.first_calls-all.result c.requires.choices (all_calls c)
    (choices-small c.args.prices.now c.args.choices.now c.requires.priced) (few_cars c) c.cheapest_picks.result.picked
    (subst (λ (beat : ℕ). NoneBeats times_in_set 1 (has c.first_calls-all.result) no_times c.args.choices.now
    (to_beat beat c.cheapest_picks.result.picked)) e (c.cheapest_picks.ensures.cheapest h))

pub returns-clause-spent : goal.returns-clause-spent
returns-clause-spent c =
    λ h. spent-many c.args.self.now c.args.choices.now c.args.limit c.snapshot.ensures.pool c.requires.choices (c.cheapest_picks.ensures.spent h)

pub returns-clause-ample : goal.returns-clause-ample
returns-clause-ample c =
    ample-unspent c.args.self.now c.args.choices.now c.args.limit c.cheapest_picks.result.spent c.snapshot.ensures.pool c.requires.choices
    c.cheapest_picks.ensures.spent

pub returns-clause-few : goal.returns-clause-few
returns-clause-few c = few_cars c

pub sum_of_least-requires-clause-low : goal.sum_of_least-requires-clause-low
sum_of_least-requires-clause-low c = least-low c.args.prices.now c.args.choices.now c.requires.priced

pub sum_of_least-requires-clause-high : goal.sum_of_least-requires-clause-high
sum_of_least-requires-clause-high c = least-high c.args.prices.now c.args.choices.now c.requires.priced

every_call : (c : goal.After-sum_of_least) → (j : ℕ) → j < length c.args.prices.now → has c.first_calls-all.result j ≡ true
every_call c j lt =
    let long = c.requires.prices in
    c.first_calls-all.ensures j ∙ ap (λ (l : List Call). ltb j (length l)) c.calls.ensures.value
    ∙ ap (λ (s : Snapshot). ltb j (call_count s)) c.snapshot.ensures.value ∙ lt-ltb j (call_count c.args.self.now.snapshot) (omega (arith, lt, long))

bound_is : (c : goal.After-sum_of_least)
    → to_z w128 (of_z w128 (to_z w128 (of_z w128 c.prices_of.result) +ℤ to_z w128 (of_z w128 c.sum_of_least.result)))
    ≡ prices_in c.args.prices.now c.first_calls-all.result +ℤ least_sum c.args.choices.now
bound_is c =
    let low = c.prices_of.ensures.range.0 in
    let high = c.prices_of.ensures.range.1 in
    let least = c.sum_of_least.ensures.low in
    let most = c.sum_of_least.ensures.high in
    let few = cars-le c.args.self.now.snapshot c.snapshot.ensures.pool.accepted in
    let cars = c.requires.choices.cars in
    sum_is c.prices_of.result c.sum_of_least.result (record { low = omega (arith, ints, low); high = omega (arith, ints, high) })
    (record { low = omega (arith, ints, least, few, cars); high = omega (arith, ints, most, few, cars) })
    ∙ ap (λ (z : ℤ). z +ℤ c.sum_of_least.result) c.prices_of.ensures.sum
    ∙ ap (λ (z : ℤ). prices_in c.args.prices.now c.first_calls-all.result +ℤ z) c.sum_of_least.ensures.sum

pub cheapest_picks-requires-clause-bound : goal.cheapest_picks-requires-clause-bound
cheapest_picks-requires-clause-bound c =
    root-bound c.args.prices.now c.first_calls-all.result (every_call c) c.args.choices.now c.requires.priced _ (bound_is c)

pub cheapest_picks-requires-clause-range : goal.cheapest_picks-requires-clause-range
cheapest_picks-requires-clause-range c =
    let few = cars-le c.args.self.now.snapshot c.snapshot.ensures.pool.accepted in
    let cars = c.requires.choices.cars in
    root-range (prices_in c.args.prices.now c.first_calls-all.result) (least_sum c.args.choices.now) _ (length c.args.choices.now) (omega (arith, few, cars))
    (subst IsPriceSum c.prices_of.ensures.sum c.prices_of.ensures.range)
    (subst (λ (z : ℤ). neg_ℤ (pos (4 * 10 ^ 26 * length c.args.choices.now)) ≤ℤ z) c.sum_of_least.ensures.sum c.sum_of_least.ensures.low)
    (subst (λ (z : ℤ). z ≤ℤ pos (4 * 10 ^ 26 * length c.args.choices.now)) c.sum_of_least.ensures.sum c.sum_of_least.ensures.high) (bound_is c)

pub cheapest_picks-requires-clause-small : goal.cheapest_picks-requires-clause-small
cheapest_picks-requires-clause-small c = choices-small c.args.prices.now c.args.choices.now c.requires.priced
