use Rattle.std.proofs.Common.{◌≡◌, ◌≤◌, ◌<◌, ◌∙◌, ℕ, List, length, ltb, sym, ap, arith}
use Rattle.std.specs.Prelude.{◌+ℤ◌, true}
use mir.Syntax.{w128}
use mir.Val.{to_z, of_z}
use Rattle.std.proofs.lemmas.Int.{ints}
use Rattle.std.proofs.lemmas.Bool.{lt-ltb, ltb-true}
use Rattle.restricted_master.specs.Priced.{prices_in}
use Rattle.call_sets.specs.Counting.{has}
use Rattle.elevator_model.specs.declared.Call.{Call}
use Rattle.elevator_model.specs.Snapshot.{Snapshot, call_count}
use Rattle.tour_cost.proofs.Served.{cars-le}
use Rattle.car_search.specs.Choosing.{least_sum}
use Rattle.half_plans.specs.PairPlans.{AreTourLists}
use Rattle.half_plans.proofs.PricedLemmas.{root-bound, root-range, choices-small, least-low, least-high}
use Rattle.half_plans.proofs.PlanLemmas.{picked-plan, cheapest-picked, spent-many}
use Rattle.half_plans.proofs.pairing.best_picks.Goals as goal

-- the set of all calls has the snapshot's
all_calls : (c : goal.After-cheapest_picks) → (k : ℕ) → has c.first_calls-all.result k ≡ ltb k (call_count c.args.pool.now.snapshot)
all_calls c k = c.first_calls-all.ensures k ∙ ap (λ (l : List Call). ltb k (length l)) c.calls.ensures.value
    ∙ ap (λ (s : Snapshot). ltb k (call_count s)) c.snapshot.ensures.value

every : (c : goal.After-cheapest_picks) → (j : ℕ) → j < call_count c.args.pool.now.snapshot → has c.first_calls-all.result j ≡ true
every c j lt = all_calls c j ∙ lt-ltb j (call_count c.args.pool.now.snapshot) lt

few_calls : (c : goal.After-cheapest_picks) → (j : ℕ) → has c.first_calls-all.result j ≡ true → j < call_count c.args.pool.now.snapshot
few_calls c j h = ltb-true j (call_count c.args.pool.now.snapshot) (sym (all_calls c j) ∙ h)

tour_lists : (c : goal.After-cheapest_picks) → AreTourLists c.args.pool.now.snapshot c.args.pool.now.tours
tour_lists c = record { cars = c.snapshot.ensures.pool.cars; feasible = c.snapshot.ensures.pool.feasible }

few_cars : (c : goal.After-cheapest_picks) → length c.args.choices.now ≤ 16
few_cars c =
    let cars = c.requires.choices.cars in
    let few = cars-le c.args.pool.now.snapshot c.snapshot.ensures.pool.accepted in
    omega (arith, cars, few)

pub returns-clause-picked : goal.returns-clause-picked
returns-clause-picked c =
    picked-plan c.args.pool.now.snapshot c.args.pool.now.tours c.args.choices.now c.requires.choices (has c.first_calls-all.result)
    (every c) 18446744073709551615 c.cheapest_picks.result.picked c.cheapest_picks.ensures.selection

pub returns-clause-cheapest : goal.returns-clause-cheapest
returns-clause-cheapest c = λ h.
    cheapest-picked c.args.pool.now.snapshot c.args.pool.now.tours c.args.choices.now c.requires.choices (has c.first_calls-all.result) (few_calls c)
    (tour_lists c) (choices-small c.args.prices.now c.args.choices.now c.requires.priced) (few_cars c) c.cheapest_picks.result.picked
    (c.cheapest_picks.ensures.cheapest h)

pub returns-clause-spent : goal.returns-clause-spent
returns-clause-spent c = λ h.
    spent-many c.args.pool.now.snapshot c.args.pool.now.tours c.args.choices.now c.args.limit (tour_lists c) c.requires.choices
    (c.cheapest_picks.ensures.spent h)

pub returns-clause-few : goal.returns-clause-few
returns-clause-few c = few_cars c

pub sum_of_least-requires-clause-low : goal.sum_of_least-requires-clause-low
sum_of_least-requires-clause-low c = least-low c.args.prices.now c.args.choices.now c.requires.priced

pub sum_of_least-requires-clause-high : goal.sum_of_least-requires-clause-high
sum_of_least-requires-clause-high c = least-high c.args.prices.now c.args.choices.now c.requires.priced

every_call : (c : goal.After-root_bound-bound) → (j : ℕ) → j < length c.args.prices.now → has c.first_calls-all.result j ≡ true
every_call c j lt =
    let long = c.requires.prices in
    c.first_calls-all.ensures j ∙ ap (λ (l : List Call). ltb j (length l)) c.calls.ensures.value
    ∙ ap (λ (s : Snapshot). ltb j (call_count s)) c.snapshot.ensures.value ∙ lt-ltb j (call_count c.args.pool.now.snapshot) (omega (arith, lt, long))

bound_is : (c : goal.After-root_bound-bound)
    → to_z w128 (of_z w128 c.root_bound-bound.result)
    ≡ (prices_in c.args.prices.now c.first_calls-all.result +ℤ prices_in c.args.prices.now c.first_calls-all.result) +ℤ least_sum c.args.choices.now
bound_is c =
    let is = c.root_bound-bound.ensures in
    let prices = c.prices_of.ensures.sum in
    let least = c.sum_of_least.ensures.sum in
    let low = c.prices_of.ensures.low in
    let high = c.prices_of.ensures.high in
    let least_low = c.sum_of_least.ensures.low in
    let least_high = c.sum_of_least.ensures.high in
    let few = cars-le c.args.pool.now.snapshot c.snapshot.ensures.pool.accepted in
    let cars = c.requires.choices.cars in
    omega (arith, ints, is, prices, least, low, high, least_low, least_high, few, cars)

pub cheapest_picks-requires-clause-small : goal.cheapest_picks-requires-clause-small
cheapest_picks-requires-clause-small c = choices-small c.args.prices.now c.args.choices.now c.requires.priced

pub cheapest_picks-requires-clause-bound : goal.cheapest_picks-requires-clause-bound
cheapest_picks-requires-clause-bound c =
    root-bound c.args.prices.now c.first_calls-all.result (every_call c) c.args.choices.now c.requires.priced _ (bound_is c)

pub cheapest_picks-requires-clause-range : goal.cheapest_picks-requires-clause-range
cheapest_picks-requires-clause-range c =
    let few = cars-le c.args.pool.now.snapshot c.snapshot.ensures.pool.accepted in
    let cars = c.requires.choices.cars in
    let prices = c.prices_of.ensures.sum in
    let least = c.sum_of_least.ensures.sum in
    let low = c.prices_of.ensures.low in
    let high = c.prices_of.ensures.high in
    let least_low = c.sum_of_least.ensures.low in
    let least_high = c.sum_of_least.ensures.high in
    root-range (prices_in c.args.prices.now c.first_calls-all.result) (least_sum c.args.choices.now) _ (length c.args.choices.now) (omega (arith, few, cars))
    (omega (arith, ints, prices, low), omega (arith, ints, prices, high)) (omega (arith, ints, least, least_low)) (omega (arith, ints, least, least_high))
    (bound_is c)
