use Rattle.std.proofs.Common.{rules, ◌≡◌, ℕ, get_or, ap, ◌∙◌}
use Rattle.call_sets.specs.Counting.{has}
use Rattle.assign_branch.proofs.DemandLemmas.{allowed_at}
use Rattle.assign_branch.proofs.nodes.Node.allowed.Goals as goal

pub returns : goal.returns
returns c j =
    let is : c.unwrap_or.result ≡ get_or c.self.inside.allowed c.args.car 0 = search rules in
    ap (λ (x : ℕ). has x j) is
    ∙ rw (← c.self.view_is) (allowed_at c.self.inside.sets.items c.self.inside.allowed c.self.inside.required c.args.car j (search rules) c.self.invariant)
