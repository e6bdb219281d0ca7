use Rattle.std.proofs.Common.{◌∙◌, ap}
use Rattle.search_tree.specs.Kept.{of_lists}
use Rattle.search_tree.specs.Sheets.{PriceSheet, better_of, sheet_of_turn}
use Rattle.search_tree.proofs.SumLemmas.{greater_is_better}
use Rattle.search_tree.proofs.sheets.Sheet.improve.Goals as goal

pub returns-then-self-sum_prices : goal.returns-then-self-sum_prices
returns-then-self-sum_prices c =
    let kept = c.self.invariant in
    let prices = c.sum_prices.ensures in
    let worths = c.sum_turn.ensures in
    let other = sheet_of_turn c.args.prices.now c.args.cars.now in
    let better = greater_is_better
    (of_lists c.self.inside.prices.items c.self.inside.worths.items) other c.self.inside.sum c.sum_prices.result c.sum_turn.result kept.small kept.sum_is
    prices.sum prices.range worths.sum worths.range c.if-self-sum_prices.true in
    c.take.ensures ∙ better ∙ ap (λ (sheet : PriceSheet). better_of sheet other) c.self.view_is
