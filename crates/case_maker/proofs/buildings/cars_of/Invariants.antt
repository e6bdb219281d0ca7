use Rattle.std.proofs.Common.{◌≡◌, map}
use Rattle.std.specs.List.{range_with_len}
use Rattle.search_model.specs.Cases.{case_car}
use Rattle.case_maker.proofs.buildings.cars_of.Given as goal

abbrev pub invariant-loop-car : goal.invariant-loop-car
invariant-loop-car l = l.specs.items ≡ map (case_car l.floors) (range_with_len 0 l.car)
