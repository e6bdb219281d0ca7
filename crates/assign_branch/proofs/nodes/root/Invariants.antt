use Rattle.assign_branch.proofs.RootLemmas.{AreRootBelow}
use Rattle.assign_branch.proofs.nodes.root.Given as goal

abbrev pub invariant-loop-call : goal.invariant-loop-call
invariant-loop-call l = AreRootBelow l.snapshot l.sets.items l.call
