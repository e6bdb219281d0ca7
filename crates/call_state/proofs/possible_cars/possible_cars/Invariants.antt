use Rattle.call_state.proofs.PossibleLemmas.{ArePossibleBefore}
use Rattle.call_state.proofs.possible_cars.possible_cars.Given as goal

abbrev pub invariant-loop-call : goal.invariant-loop-call
invariant-loop-call l = ArePossibleBefore l.building l.calls l.call-index l.sets.items
