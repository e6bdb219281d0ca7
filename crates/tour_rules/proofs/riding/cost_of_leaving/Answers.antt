use Rattle.std.proofs.Common.{arith}
use Rattle.tour_rules.proofs.Settled.{leaving_cost-parts}
use Rattle.tour_rules.proofs.riding.cost_of_leaving.Goals as goal

pub returns-clause-cost : goal.returns-clause-cost
returns-clause-cost c = λ p t kept boarded.
    let s = c.args.snapshot.now in
    let parts = leaving_cost-parts s c.args.car p c.args.floor c.args.opened c.args.carried c.args.visited c.args.moments.now t kept boarded in
    omega (arith, parts, c.cost_of_calls_off.ensures.cost, c.cost_of_groups_off.ensures.cost)
