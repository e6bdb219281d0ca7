use Rattle.search_tree.specs.Branches.{AreSingle}
use Rattle.search_tree.proofs.choices.first_choice.Given as goal

abbrev pub invariant-loop-call : goal.invariant-loop-call
invariant-loop-call l = AreSingle l.call l.node
