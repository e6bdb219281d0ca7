-- The shares of the cars so far.
use Rattle.std.proofs.Common.{◌≡◌}
use Rattle.half_plans.specs.PairPlans.{shares_below}
use Rattle.car_search.specs.Choosing.{picks}
use Rattle.half_plans.specs.Choices.{pairs_of}
use Rattle.half_plans.proofs.pairing.shares_of.Given as goal

abbrev pub invariant-loop-car : goal.invariant-loop-car
invariant-loop-car l = l.shares ≡ shares_below l.pool.tours (pairs_of l.choices (picks l.picked)) l.car
