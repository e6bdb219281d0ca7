use Rattle.std.proofs.Common.{◌≡◌, ◌++◌, drop}
use Rattle.std.specs.Prelude.{All}
use Rattle.assign_branch.specs.Pricings.{IsWorthSize}
use Rattle.search_model.specs.declared.WorthOf.{WorthOf}
use Rattle.search_tree.specs.Sheets.{worths_from}
use Rattle.search_tree.proofs.sheets.list_worths.Given as goal

abbrev pub invariant-loop-car : goal.invariant-loop-car
invariant-loop-car l = (l.list ++ worths_from l.claim l.car (drop l.car l.worths) ≡ worths_from l.claim 0 l.worths)
    × All (λ (w : WorthOf). IsWorthSize w.worth) l.list
