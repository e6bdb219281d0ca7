use Rattle.std.proofs.Common.{◌∙◌, ap}
use Rattle.search_tree.specs.Sheets.{PriceSheet, sum_of_sheet}
use Rattle.search_model.specs.Sums.{rounded_up}
use Rattle.search_tree.specs.Kept.{of_lists}
use Rattle.search_tree.proofs.SumLemmas.{rounds_sum}
use Rattle.search_tree.proofs.sheets.Sheet.bound.Goals as goal

pub returns : goal.returns
returns c =
    let kept = c.self.invariant in
    let of_inside = rounds_sum
    (of_lists c.self.inside.prices.items c.self.inside.worths.items) c.self.inside.sum c.unscale_up.result kept.small kept.sum_is c.unscale_up.ensures
    c.unscale_up.type_inv in
    of_inside ∙ ap (λ (sheet : PriceSheet). rounded_up (sum_of_sheet sheet)) c.self.view_is
