use Rattle.plain_plan.proofs.PlainPlan.{plan_exists}
use Rattle.first_plan.proofs.plans.first.Goals as goal

pub returns-clause-exists : goal.returns-clause-exists
returns-clause-exists g c = plan_exists c.args.snapshot.now c.calls.ensures.accepted
