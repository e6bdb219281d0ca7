use Rattle.std.proofs.Common.{◌∙◌, ap, ℤ, to_z, of_z}
use Rattle.std.specs.Int.{w128, int_min}
use Rattle.std.proofs.lemmas.Int.{to_z-of_z}
use Rattle.search_tree.proofs.ListLemmas.{lesser_at_leaf}
use Rattle.search_tree.proofs.branches.Branch.least_with.Goals as goal

pub returns-in-None : goal.returns-in-None
returns-in-None c =
    let b = c.args.self.now in
    let least = to_z-of_z w128 c.min.result (record { sfits = c.min.type_inv }) in
    let own = to_z-of_z w128 c.bound.result (record { sfits = c.bound.type_inv }) in
    let other = to_z-of_z w128 c.args.bound c.ranges.bound in
    least ∙ c.min.ensures.value ∙ ap (λ (z : ℤ). int_min z (to_z w128 (of_z w128 c.args.bound))) own ∙ ap (int_min c.bound.result) other
    ∙ lesser_at_leaf b.split b.sheet c.bound.result c.args.bound c.in-None.is c.bound.ensures
