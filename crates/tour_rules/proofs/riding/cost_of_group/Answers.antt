use Rattle.std.proofs.Common.{◌≡◌, ℕ, ◌*◌, ◌≤◌, subst}
use Rattle.tour_rules.specs.Leaving.{group_cost}
use Rattle.tour_rules.proofs.Groups.{group_cost-le}
use Rattle.tour_rules.proofs.riding.cost_of_group.Goals as goal

pub returns-clause-bounded : goal.returns-clause-bounded
returns-clause-bounded c =
    let b = c.args.building.now in
    let same : group_cost b c.args.group.now c.args.delivered ≡ c.args.group.now.persons * (c.travel_weight.result * c.saturating_sub-ride.result) = cc in
    subst (λ (n : ℕ). n ≤ 100000000000000 * c.args.group.now.persons) same
    (group_cost-le b c.args.group.now c.args.delivered c.travel_weight.ensures.building c.requires.delivered)
