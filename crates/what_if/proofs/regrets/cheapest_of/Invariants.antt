-- The cheapest of the cars so far.
use Rattle.what_if.specs.Ends.{IsFirstLeast, has_extra_at, low_at}
use Rattle.what_if.proofs.regrets.cheapest_of.Given as goal

abbrev pub invariant-loop-car : goal.invariant-loop-car
invariant-loop-car l = IsFirstLeast (has_extra_at l.extras) (low_at l.extras) l.car l.cheapest
