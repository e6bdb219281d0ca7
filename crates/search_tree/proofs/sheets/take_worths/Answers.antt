use Rattle.std.proofs.Common.{map, arith}
use Rattle.search_tree.specs.Sheets.{turn_worth}
use Rattle.search_tree.proofs.WorthLemmas.{written_all}
use Rattle.search_tree.proofs.sheets.take_worths.Goals as goal

pub returns : goal.returns
returns c = written_all (map turn_worth c.args.cars.now) c.args.worths.now c.loop-car.worths c.loop-car.car (omega arith) c.loop-car.invariant
