use Rattle.root_turns.proofs.PlanPools.{holds-few}
use Rattle.root_turns.proofs.pools.pool_of.Goals as goal

pub returns-clause-few : goal.returns-clause-few
returns-clause-few c = holds-few c.args.snapshot.now c.args.plan.now c.put_plan.new.pool c.in_ok-put_plan.ensures
