use Rattle.std.proofs.Common.{ℕ, ◌*◌, List, length, sym, ap, ◌∙◌, subst}
use Rattle.elevator_model.specs.Snapshot.{Snapshot}
use Rattle.elevator_model.specs.Plans.{plan_cost_of}
use Rattle.half_plans.specs.declared.Share.{Share}
use Rattle.half_plans.specs.PairPlans.{ArePairShares}
use Rattle.root_prices.specs.Doubles.{doubled_below}
use Rattle.root_prices.proofs.DoubleLaws.{doubled_shares}
use Rattle.root_prices.proofs.halves.find_halves.Goals as goal

pub returns-in_default-clause-shares : goal.returns-in_default-clause-shares
returns-in_default-clause-shares c =
    let s = c.args.pool.now.snapshot in
    let plan = c.args.start.now in
    let lists = c.args.pool.now.tours in
    let cost = c.plan_cost-most.ensures.cost ∙ ap (λ (x : Snapshot). plan_cost_of x plan) c.snapshot.ensures.value in
    subst (λ (xs : List Share). ArePairShares s lists xs (2 * c.plan_cost-most.result)) (sym c.in_ok-doubled.ensures)
    (subst (λ (n : ℕ). ArePairShares s lists (doubled_below plan (length plan)) (2 * n)) (sym cost)
    (doubled_shares s plan lists c.requires.start c.requires.pooled))
