use Rattle.std.proofs.Common.{rules, ◌≡◌, ◌∙◌, List, length, ap, subst}
use Rattle.std.specs.Prelude.{ℤ}
use Rattle.root_turns.specs.Series.{IsTurnSeries}
use Rattle.node_search.proofs.root.Root.new.Goals as goal

pub returns : goal.returns
returns c =
    let s = c.args.snapshot.now in
    let prices : c.prices.result.now ≡ c.args.sheet.prices = search rules in
    record {
      node = c.in_ok-tree.ensures.node;
      tree = c.in_ok-tree.ensures.tree;
      turns = c.in_ok-series.ensures.turns;
      prices = c.in_ok-series.ensures.prices ∙ prices;
      series = λ most_tours calls. subst (λ (ps : List ℤ). IsTurnSeries s most_tours ps c.in_ok-series.series) prices
          (c.in_ok-series.ensures.series s most_tours (ap length prices ∙ calls));
      best = c.in_ok-best.ensures.best;
      few = c.in_ok-best.ensures.few;
    }
