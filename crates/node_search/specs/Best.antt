-- The cheapest plan that is known, and the pool.
use Rattle.std.specs.Prelude.{◌≡◌}
use Rattle.elevator_model.specs.Snapshot.{Snapshot}
use Rattle.elevator_model.specs.Plans.{IsFeasiblePlan, plan_cost_of}
use Rattle.node_search.specs.declared.best.Best.{Best}

-- a feasible plan of the snapshot with its cost, and a pool of its tours
pub record IsBest (s : Snapshot) (best : Best) : Type 0 where
  pub snapshot : best.pool.snapshot ≡ s
  pub feasible : IsFeasiblePlan s best.plan
  pub costs : plan_cost_of s best.plan ≡ best.cost
