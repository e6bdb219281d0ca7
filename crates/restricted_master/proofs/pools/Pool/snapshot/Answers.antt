use Rattle.std.proofs.Common.{subst}
use Rattle.restricted_master.specs.Pools.{IsPool}
use Rattle.restricted_master.proofs.PoolLemmas.{pool-is}
use Rattle.restricted_master.proofs.pools.Pool.snapshot.Goals as goal

pub returns-clause-pool : goal.returns-clause-pool
returns-clause-pool c = subst IsPool c.self.view_is (pool-is c.self.inside.snapshot.now c.self.inside.cars.items c.calls.ensures.accepted c.self.invariant)
