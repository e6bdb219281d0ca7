use Rattle.std.proofs.Common.{◌∙◌, ap, sym, arith}
use Rattle.std.proofs.lemmas.Int.{ints}
use Rattle.search_model.specs.Prices.{scaled}
use Rattle.search_tree.proofs.SumLemmas.{stored}
use Rattle.snapshot_solver.proofs.StartBound.{bound-start}
use Rattle.snapshot_solver.proofs.starts.start_worth.Goals as goal

-- what is stored is the completion bound
pub returns : goal.returns
returns c =
    let z = c.scaled.result in
    let e = c.scaled.ensures in
    let most = c.aboard_cost_of.ensures.bounded in
    let is = stored z (omega (arith, ints, e)) (omega (arith, ints, e, most)) in
    is ∙ e ∙ ap scaled c.aboard_cost_of.ensures.cost ∙ sym (bound-start c.args.snapshot.now c.args.car c.requires)
