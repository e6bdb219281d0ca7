-- So far the times of the floors below this one.
use Rattle.pricing_bound.proofs.NearLemmas.{AreNearestBelow}
use Rattle.pricing_bound.proofs.rates.nearest_of_all.Given as goal

abbrev pub invariant-loop-floor : goal.invariant-loop-floor
invariant-loop-floor l = AreNearestBelow l.travel l.floor l.nearest.items
