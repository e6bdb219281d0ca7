-- There are as many as were pushed.
use Rattle.std.proofs.Common.{◌≡◌, length}
use Rattle.route_sums.proofs.rows.no_sets.Given as goal

abbrev pub invariant-loop-floor : goal.invariant-loop-floor
invariant-loop-floor l = length l.sets.items ≡ l.floor
