use Rattle.std.proofs.Common.{sym, subst, arith}
use Rattle.call_sets.specs.Counting.{has}
use Rattle.search_model.specs.Prices.{price_at}
use Rattle.route_sums.specs.CallRates.{IsCallRate}
use Rattle.route_sums.proofs.parts.RouteSums.rate.Goals as goal

pub rate-requires : goal.rate-requires
rate-requires c = let size = c.args.self.now.laid.rates.size in let lt = c.requires in omega (arith, size, lt)

pub returns : goal.returns
returns c =
    let it = c.args.self.now in
    let j = c.args.call in
    subst (IsCallRate it.snapshot.now it.car j (price_at it.prices.now j) (has it.required j)) (sym c.rate.ensures)
    (it.laid.rates.each j c.rate.result.now c.requires)
