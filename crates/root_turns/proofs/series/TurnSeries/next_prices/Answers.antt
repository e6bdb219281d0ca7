use Rattle.std.proofs.Common.{rules, arith, to_z, of_z, pos, ℤ, ℕ, ◌+◌, ◌/◌, ◌<◌, ◌≡◌, List, length, sym, ap, ◌∙◌, subst}
use Rattle.std.specs.Int.{w128}
use Rattle.std.proofs.lemmas.Int.{ints}
use Rattle.root_turns.specs.Turns.{moved_price}
use Rattle.root_turns.proofs.TurnPrices.{stored}
use Rattle.root_turns.proofs.series.TurnSeries.next_prices.Goals as goal

pub prices_after-requires-clause-cars : goal.prices_after-requires-clause-cars
prices_after-requires-clause-cars c = c.requires.few

pub prices_after-requires-clause-tours : goal.prices_after-requires-clause-tours
prices_after-requires-clause-tours c = c.requires.boards

pub prices_after-requires-clause-calls : goal.prices_after-requires-clause-calls
prices_after-requires-clause-calls c =
    let same = ap length c.deref.ensures.value in
    let few = c.requires.calls in
    omega (arith, same, few)

pub returns-clause-count : goal.returns-clause-count
returns-clause-count c = c.in_ok-next.ensures.count ∙ ap length c.deref.ensures.value

pub returns-clause-each : goal.returns-clause-each
returns-clause-each c most at j lt =
    let x = c.args.self.now in
    let cars = c.args.cars.now in
    let prices : c.deref.result.now ≡ x.prices.items = c.deref.ensures.value in
    let count : c.len.result ≡ length x.turns.items = search rules in
    let low = c.requires.low in
    let high = c.requires.high in
    let whole = stored x.step (omega (arith, ints, low)) (omega (arith, ints, high)) in
    let low' = c.step_after-step.ensures.low in
    let high' = c.step_after-step.ensures.high in
    let again = stored c.step_after-step.result (omega (arith, ints, low')) (omega (arith, ints, high')) in
    c.in_ok-next.ensures.each j (subst (λ (ps : List ℤ). j < length ps) (sym prices) lt)
    ∙ ap (λ (ps : List ℤ). moved_price ps (to_z w128 (of_z w128 c.step_after-step.result)) cars j) prices
    ∙ ap (λ (z : ℤ). moved_price x.prices.items z cars j)
    (again ∙ c.step_after-step.ensures.value most (whole ∙ at) ∙ ap (λ (n : ℕ). pos (most / (n + 1))) count)
