use Rattle.std.proofs.Common.{◌<◌, ◌+◌, ◌∙◌, ℕ, ap, subst, arith}
use Rattle.elevator_model.specs.Costs.{cost_of_rider}
use Rattle.elevator_model.specs.Snapshot.{Snapshot, call_count}
use Rattle.elevator_model.specs.Tours.{destination_of}
use Rattle.elevator_model.specs.Travel.{time_between}
use Rattle.partial_tours.specs.Courses.{reached}
use Rattle.pricing_bound.specs.Running.{standing_at}
use Rattle.pricing_bound.proofs.carried.cost_at_rate.Goals as goal

pub boarded_at-requires-clause-call : goal.boarded_at-requires-clause-call
boarded_at-requires-clause-call c = subst (λ (s : Snapshot). c.args.call < call_count s) c.requires.same c.requires.call

pub boarded_at-requires-clause-boarded : goal.boarded_at-requires-clause-boarded
boarded_at-requires-clause-boarded c = c.requires.boarded

pub cost_from-requires-clause-call : goal.cost_from-requires-clause-call
cost_from-requires-clause-call c = c.requires.call

pub cost_from-requires-clause-boarded : goal.cost_from-requires-clause-boarded
cost_from-requires-clause-boarded c = let early = c.boarded_at.ensures.early in omega (arith, early)

pub cost_from-requires-clause-floor : goal.cost_from-requires-clause-floor
cost_from-requires-clause-floor c = c.requires.floor

pub cost_from-requires-clause-early : goal.cost_from-requires-clause-early
cost_from-requires-clause-early c = c.requires.early

pub returns-clause-cost : goal.returns-clause-cost
returns-clause-cost c = λ x e.
    let t = c.args.prefix.now in
    let p = standing_at (reached t.snapshot t.car x) c.args.floor c.args.opened in
    let j = c.args.call in
    c.cost_from.ensures.value
    ∙ ap (λ (m : ℕ). cost_of_rider c.args.rates.now.snapshot j m
    (c.args.opened + time_between c.args.rates.now.snapshot.building.travel c.args.floor (destination_of c.args.rates.now.snapshot j)))
    (c.boarded_at.ensures.value x e)
    ∙ ap (λ (s : Snapshot). cost_of_rider s j (p.boarded_at j) (c.args.opened + time_between s.building.travel c.args.floor (destination_of s j)))
    c.requires.same

pub returns-clause-bounded : goal.returns-clause-bounded
returns-clause-bounded c = c.cost_from.ensures.bounded
