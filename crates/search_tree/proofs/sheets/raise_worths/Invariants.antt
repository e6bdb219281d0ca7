use Rattle.search_tree.specs.Sheets.{raised}
use Rattle.search_tree.proofs.WorthLemmas.{WrittenTo}
use Rattle.search_tree.proofs.sheets.raise_worths.Given as goal

abbrev pub invariant-loop-car : goal.invariant-loop-car
invariant-loop-car l = WrittenTo (raised l.initial.worths l.cars) l.initial.worths l.worths l.car
