use Rattle.std.proofs.Common.{rules, ◌≡◌, ◌∙◌, to_z, of_z, ap, sym, pos, subst, arith, ◌^◌, List}
use Rattle.std.specs.Prelude.{ℤ, ◌≤ℤ◌}
use Rattle.std.specs.Int.{w128}
use Rattle.std.proofs.lemmas.Int.{ints}
use Rattle.search_model.specs.Solving.{greatest_price}
use Rattle.root_turns.proofs.SeriesLaws.{series_none}
use Rattle.root_turns.proofs.TurnPrices.{stored}
use Rattle.root_turns.proofs.series.TurnSeries.new.Goals as goal

pub returns-clause-series : goal.returns-clause-series
returns-clause-series c s most_tours calls =
    let step = c.greatest_of-step.result in
    let value = c.greatest_of-step.ensures.value in
    let high = c.greatest_of-step.ensures.high in
    let prices : c.in_ok-prices.prices.items ≡ c.args.prices.now = search rules in
    let kept : to_z w128 (of_z w128 step) ≡ step = stored step (omega (arith, ints, value)) (omega (arith, ints, high)) in
    let read = c.deref.ensures.value ∙ prices in
    series_none s most_tours c.args.prices.now _ calls c.new.ensures.items prices
    (kept ∙ value ∙ ap (λ (ps : List ℤ). pos (greatest_price ps)) read) (subst (λ (z : ℤ). z ≤ℤ pos (10 ^ 24)) (sym kept) high)
