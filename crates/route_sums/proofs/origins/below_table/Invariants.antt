use Rattle.route_sums.specs.Origins.{AreBelowFloors}
use Rattle.route_sums.proofs.origins.below_table.Given as goal

abbrev pub invariant-loop-floor : goal.invariant-loop-floor
invariant-loop-floor l = AreBelowFloors l.snapshot l.floor l.sets.items
