use Rattle.std.proofs.Common.{◌≡◌, map, take}
use Rattle.search_tree.specs.Sheets.{turn_worth}
use Rattle.root_prices.proofs.kept.worths_of.Given as goal

abbrev pub invariant-loop-car : goal.invariant-loop-car
invariant-loop-car l = l.worths.items ≡ map turn_worth (take l.car l.cars)
