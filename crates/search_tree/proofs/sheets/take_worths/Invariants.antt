use Rattle.std.proofs.Common.{map}
use Rattle.search_tree.specs.Sheets.{turn_worth}
use Rattle.search_tree.proofs.WorthLemmas.{WrittenTo}
use Rattle.search_tree.proofs.sheets.take_worths.Given as goal

abbrev pub invariant-loop-car : goal.invariant-loop-car
invariant-loop-car l = WrittenTo (map turn_worth l.cars) l.initial.worths l.worths l.car
