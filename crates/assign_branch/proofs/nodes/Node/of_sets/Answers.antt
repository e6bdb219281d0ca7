use Rattle.std.proofs.Common.{arith}
use Rattle.assign_branch.proofs.DemandLemmas.{demands-all}
use Rattle.assign_branch.proofs.nodes.Node.of_sets.Goals as goal

pub invariant_of-result : goal.invariant_of-result
invariant_of-result c =
    demands-all c.args.sets.items c.loop-call.allowed c.loop-call.required c.loop-call.call
    (omega arith) c.requires.calls c.requires.cars c.loop-call.invariant.allowed_are c.loop-call.invariant.required_are
