-- So far the nearest floor below this one.
use Rattle.pricing_bound.proofs.NearLemmas.{IsNearestBelow}
use Rattle.pricing_bound.proofs.rates.nearest_of.Given as goal

abbrev pub invariant-loop-to : goal.invariant-loop-to
invariant-loop-to l = IsNearestBelow l.travel l.fn.from l.to l.nearest
