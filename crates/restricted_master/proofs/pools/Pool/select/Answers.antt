use Rattle.std.proofs.Common.{length, ap, arith}
use Rattle.tour_cost.proofs.Short.{calls-le}
use Rattle.restricted_master.proofs.pools.Pool.select.Goals as goal

pub choices-requires : goal.choices-requires
choices-requires c =
    let few = calls-le c.args.self.now.snapshot c.snapshot.ensures.pool.accepted in
    let long = c.requires.prices in
    let same = c.in_ok-raised.ensures in
    let slice = ap length c.as_slice-prices.ensures.value in
    omega (arith, few, long, same, slice)
