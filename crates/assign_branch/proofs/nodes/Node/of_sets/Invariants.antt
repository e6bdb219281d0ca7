use Rattle.search_model.specs.Nodes.{allows, requires_of}
use Rattle.assign_branch.proofs.DemandLemmas.{AreFilled}
use Rattle.assign_branch.proofs.nodes.Node.of_sets.Given as goal

abbrev pub invariant-loop-call : goal.invariant-loop-call
invariant-loop-call l = record {
  allowed_are : AreFilled (allows l.sets.items) l.allowed l.call;
  required_are : AreFilled (requires_of l.sets.items) l.required l.call;
}
