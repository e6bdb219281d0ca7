-- Those of the calls below this one are set.
use Rattle.call_sets.specs.Counting.{has}
use Rattle.search_model.specs.Prices.{price_at}
use Rattle.route_sums.proofs.CallRateLemmas.{AreSetBefore}
use Rattle.route_sums.proofs.rates.set_rates.Given as goal

abbrev pub invariant-loop-j : goal.invariant-loop-j
invariant-loop-j l = AreSetBefore l.snapshot l.car (price_at l.prices) (has l.required) l.j l.rates
