use Rattle.search_tree.proofs.SumLemmas.{keeps_sum}
use Rattle.search_tree.proofs.sheets.sum_all.Goals as goal

pub returns : goal.returns
returns c =
    let prices = c.sum_prices.ensures in
    let worths = c.sum_worths.ensures in
    keeps_sum c.args.prices.now c.args.worths.now c.sum_prices.result c.sum_worths.result c.requires prices.sum prices.range worths.sum worths.range
