-- So far the rates of the calls below this one.
use Rattle.pricing_bound.proofs.RateLemmas.{AreFirstRates}
use Rattle.pricing_bound.proofs.rates.rates_of.Given as goal

abbrev pub invariant-loop-j : goal.invariant-loop-j
invariant-loop-j l = AreFirstRates l.snapshot l.j l.rates.items
