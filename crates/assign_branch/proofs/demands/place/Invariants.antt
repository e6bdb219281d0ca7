use Rattle.assign_branch.proofs.DemandLemmas.{ArePlacedBelow}
use Rattle.assign_branch.proofs.demands.place.Given as goal

abbrev pub invariant-loop-car : goal.invariant-loop-car
invariant-loop-car l = ArePlacedBelow l.call l.cars l.initial.sets l.sets l.car
