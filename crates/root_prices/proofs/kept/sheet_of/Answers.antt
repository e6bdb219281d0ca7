use Rattle.std.proofs.Common.{◌<◌, List, length, get_or, pos, sym, ap, ◌∙◌, subst, arith}
use Rattle.std.specs.Prelude.{ℤ}
use Rattle.std.proofs.lemmas.List.{length-map}
use Rattle.assign_branch.specs.Pricings.{IsWorthSize}
use Rattle.search_tree.specs.Sheets.{turn_worth}
use Rattle.search_tree.proofs.WorthLemmas.{taken_at}
use Rattle.root_prices.proofs.kept.sheet_of.Goals as goal

pub new-requires-clause-sizes : goal.new-requires-clause-sizes
new-requires-clause-sizes c k lt =
    let cars = c.args.cars.now in
    let long = ap length c.in_ok-worths.ensures ∙ length-map cars turn_worth in
    let below : k < length cars = omega (arith, long, lt) in
    subst IsWorthSize (sym (ap (λ (ws : List ℤ). get_or ws k (pos 0)) c.in_ok-worths.ensures ∙ taken_at cars k below)) (c.requires.sizes k below)
