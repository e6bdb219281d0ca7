use Rattle.std.proofs.Common.{◌∙◌, ap}
use Rattle.search_model.specs.Nodes.{Node, is_part, set_of}
use Rattle.search_tree.specs.Branches.{depth_below, leaf_at}
use Rattle.search_tree.proofs.PartLemmas.{accepted, refused}
use Rattle.search_tree.proofs.branches.Branch.parts.Goals as goal

pub returns-then-is_err-clause-tested : goal.returns-then-is_err-clause-tested
returns-then-is_err-clause-tested c =
    refused (is_part (set_of c.args.self.now.node c.args.call) c.args.cars) c.split.result c.split.ensures.accepted.0 c.if-is_err.ensures.value

pub returns-clause-parts : goal.returns-clause-parts
returns-clause-parts c =
    let b = c.args.self.now in
    let nodes = accepted _ c.split.result c.split.ensures.split c.if-is_err.ensures.value in
    record {
      first_is = c.in_ok-first-2.ensures ∙ ap (λ (node : Node). leaf_at node b.sheet (depth_below b)) nodes.0;
      second_is = c.in_ok-second-2.ensures ∙ ap (λ (node : Node). leaf_at node b.sheet (depth_below b)) nodes.1;
    }
