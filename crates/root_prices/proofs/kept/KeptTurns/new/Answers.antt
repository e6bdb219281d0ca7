use Rattle.std.proofs.Common.{rules, ◌≡◌, ◌∙◌, List, length, ap, refl, subst}
use Rattle.std.specs.Prelude.{ℤ}
use Rattle.root_turns.specs.Series.{IsTurnSeries}
use Rattle.root_prices.proofs.KeptLaws.{new_kept}
use Rattle.root_prices.proofs.kept.KeptTurns.new.Goals as goal

pub returns-clause-kept : goal.returns-clause-kept
returns-clause-kept c most_tours =
    let s = c.args.snapshot.now in
    let prices : c.prices.result.now ≡ c.args.sheet.prices = search rules in
    let series = c.in_ok-series.ensures.series s most_tours (ap length prices ∙ c.requires.sheet.calls) in
    new_kept s most_tours c.args.sheet _ c.requires.start c.requires.sheet c.in_ok-pool.ensures.plan refl c.in_ok-series.ensures.turns
    (subst (λ (ps : List ℤ). IsTurnSeries s most_tours ps c.in_ok-series.series) prices series)
