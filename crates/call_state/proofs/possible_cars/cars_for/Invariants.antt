use Rattle.call_state.proofs.PossibleLemmas.{ArePossibleBelow}
use Rattle.call_state.proofs.possible_cars.cars_for.Given as goal

abbrev pub invariant-loop-car : goal.invariant-loop-car
invariant-loop-car l = ArePossibleBelow l.building l.call l.car l.possible
