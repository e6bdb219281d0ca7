use Rattle.call_sets.specs.Counting.{members}
use Rattle.tour_extension.proofs.LeaveLemmas.{AreSifted, any_from}
use Rattle.tour_extension.proofs.leaves.floors_without.Given as goal

abbrev pub invariant-loop-floor : goal.invariant-loop-floor
invariant-loop-floor l = AreSifted l.fn.floors l.rest (any_from l.layout.snapshot l.calls) (members 64 l.floor-iterator.left)
