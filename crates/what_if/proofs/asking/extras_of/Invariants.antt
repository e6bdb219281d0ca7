-- The extras of the cars so far.
use Rattle.what_if.specs.Ends.{AreExtrasBelow}
use Rattle.what_if.proofs.asking.extras_of.Given as goal

abbrev pub invariant-loop-car : goal.invariant-loop-car
invariant-loop-car g l = AreExtrasBelow l.snapshot l.limits.rounds l.limits.most_tours l.before l.car l.extras.items
