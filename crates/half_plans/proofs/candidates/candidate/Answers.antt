use Rattle.std.proofs.Common.{◌+◌, ℤ, ap, arith}
use Rattle.std.proofs.lemmas.Int.{ints}
use Rattle.half_plans.specs.declared.Pair.{Pair}
use Rattle.half_plans.specs.Choosing.{PairCandidate}
use Rattle.half_plans.specs.declared.candidates.PricedTour.{PricedTour}
use Rattle.half_plans.proofs.NumberLemmas.{excess_is}
use Rattle.half_plans.proofs.candidates.candidate.Goals as goal

abbrev made : Pair → PricedTour → PricedTour → ℤ → PairCandidate
made pair x y excess = record { item = pair; cost = x.cost + y.cost; calls = record { first = x.calls; second = y.calls }; excess = excess }

pub returns : goal.returns
returns c =
    let first_low = c.requires.first.low in
    let first_high = c.requires.first.high in
    let second_low = c.requires.second.low in
    let second_high = c.requires.second.high in
    let low = c.requires.low in
    let under = c.requires.least_first in
    record {
      value = ap (made c.args.pair c.args.first c.args.second)
          (excess_is c.args.first.reduced c.args.second.reduced c.args.least
          (record { low = omega (arith, ints, first_low); high = omega (arith, ints, first_high) })
          (record { low = omega (arith, ints, second_low); high = omega (arith, ints, second_high) })
          (record { low = omega (arith, ints, low); high = omega (arith, ints, under, first_high) }));
    }
