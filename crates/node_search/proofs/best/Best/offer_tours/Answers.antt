use Rattle.std.proofs.Common.{◌≡◌, ◌≤◌, ℕ, sym, ap, ◌∙◌, subst}
use Rattle.elevator_model.specs.Snapshot.{Snapshot, car_count}
use Rattle.elevator_model.specs.Plans.{IsFeasiblePlan, plan_cost_of}
use Rattle.tour_cost.proofs.Served.{cars-le}
use Rattle.node_search.proofs.PlanLaws.{single-feasible, single-bound}
use Rattle.node_search.proofs.best.Best.offer_tours.Goals as goal

pub plan_cost-cost-requires : goal.plan_cost-cost-requires
plan_cost-cost-requires g c =
    let s = g.P.Pricer.snapshot c.args.pricer.now in
    let same : c.args.self.now.pool.snapshot ≡ s = c.requires.best.snapshot in
    let few = subst (λ (x : Snapshot). car_count x ≤ 16) same (cars-le c.args.self.now.pool.snapshot c.snapshot.ensures.pool.accepted) in
    let feasible = single-feasible s c.args.limits.most_tours c.args.node.now c.args.prices.now c.args.cars.now c.in_ok-plan.plan c.requires.answers
    c.requires.node
    c.requires.single few c.requires.none c.in_ok-plan.ensures in
    subst (λ (x : Snapshot). IsFeasiblePlan x c.in_ok-plan.plan) (sym (c.snapshot.ensures.value ∙ same)) feasible

pub offer-requires-clause-feasible : goal.offer-requires-clause-feasible
offer-requires-clause-feasible g c =
    let s = g.P.Pricer.snapshot c.args.pricer.now in
    let same : c.args.self.now.pool.snapshot ≡ s = c.requires.best.snapshot in
    let few = subst (λ (x : Snapshot). car_count x ≤ 16) same (cars-le c.args.self.now.pool.snapshot c.snapshot.ensures.pool.accepted) in
    let feasible = single-feasible s c.args.limits.most_tours c.args.node.now c.args.prices.now c.args.cars.now c.in_ok-plan.plan c.requires.answers
    c.requires.node
    c.requires.single few c.requires.none c.in_ok-plan.ensures in
    subst (λ (x : Snapshot). IsFeasiblePlan x c.in_ok-plan.plan) (sym same) feasible

pub returns-clause-least : goal.returns-clause-least
returns-clause-least g c sheet up =
    let s = g.P.Pricer.snapshot c.args.pricer.now in
    let same : c.args.self.now.pool.snapshot ≡ s = c.requires.best.snapshot in
    let few = subst (λ (x : Snapshot). car_count x ≤ 16) same (cars-le c.args.self.now.pool.snapshot c.snapshot.ensures.pool.accepted) in
    let least : c.offer.new.self.cost ≤ c.plan_cost-cost.result = c.offer.ensures.least in
    let cost : c.plan_cost-cost.result ≡ plan_cost_of s c.in_ok-plan.plan = c.plan_cost-cost.ensures.cost
    ∙ ap (λ (x : Snapshot). plan_cost_of x c.in_ok-plan.plan) (c.snapshot.ensures.value ∙ same) in
    single-bound s c.args.limits.most_tours c.args.node.now c.args.prices.now c.args.cars.now c.in_ok-plan.plan c.requires.answers c.requires.node
    c.requires.single
    few c.requires.none c.in_ok-plan.ensures c.offer.new.self.cost sheet (subst (λ (n : ℕ). c.offer.new.self.cost ≤ n) cost least) up
