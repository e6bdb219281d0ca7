use Rattle.root_turns.proofs.PlanPools.{IsFilledTo}
use Rattle.root_turns.proofs.pools.put_plan.Given as goal

abbrev pub invariant-loop-car : goal.invariant-loop-car
invariant-loop-car l = IsFilledTo l.snapshot l.plan l.pool l.car
