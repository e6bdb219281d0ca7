use Rattle.std.proofs.Common.{◌∙◌, ℕ, Bool, Option, sym, ap, subst}
use Rattle.call_sets.specs.Counting.{has}
use Rattle.elevator_model.specs.Tours.{none_taken}
use Rattle.elevator_model.specs.Plans.{IsOptimal, plan_cost_of}
use Rattle.tour_rules.proofs.Stops.{none_is_empty}
use Rattle.plain_plan.proofs.PlainPlan.{plan_exists}
use Rattle.tour_cost.proofs.Completing.{complete_where_plan}
use Rattle.plain_solver.specs.Rests.{Chosen, IsCheapest, IsLeast}
use Rattle.plain_solver.proofs.RestLemmas.{optimal_where_least, cost_where_least}
use Rattle.plain_solver.proofs.plans.cheapest_plan.Goals as goal

pub unreachable-requires : goal.unreachable-requires
unreachable-requires c =
    let s = c.args.snapshot.now in
    let plan = plan_exists s c.in_ok-choices.ensures.accepted in
    let cheapest = subst (λ (o : Option Chosen). IsCheapest s none_taken 0 o) c.in_default.is
    (subst (λ (held : ℕ → Bool). IsCheapest s held 0 c.in_ok-cheapest.cheapest)
    (ap has c.empty.ensures ∙ none_is_empty) c.in_ok-cheapest.ensures.cheapest) in
    cheapest plan.0 (complete_where_plan s plan.0 plan.1)

least : (c : goal.After-drop-choices-2) → IsLeast c.args.snapshot.now none_taken 0 c.in-Some.cheapest
least c =
    let s = c.args.snapshot.now in
    subst (λ (o : Option Chosen). IsCheapest s none_taken 0 o) c.in-Some.is
    (subst (λ (held : ℕ → Bool). IsCheapest s held 0 c.in_ok-cheapest.cheapest) (ap has c.empty.ensures ∙ none_is_empty) c.in_ok-cheapest.ensures.cheapest)

pub returns-clause-optimal : goal.returns-clause-optimal
returns-clause-optimal c =
    let is = c.from_vec.ensures ∙ c.into_tours.ensures in
    subst (IsOptimal c.args.snapshot.now) (sym is) (optimal_where_least c.args.snapshot.now c.in-Some.cheapest (least c))

pub returns-clause-cost : goal.returns-clause-cost
returns-clause-cost c =
    let is = c.from_vec.ensures ∙ c.into_tours.ensures in
    c.cost.ensures ∙ cost_where_least c.args.snapshot.now c.in-Some.cheapest (least c) ∙ ap (plan_cost_of c.args.snapshot.now) (sym is)
