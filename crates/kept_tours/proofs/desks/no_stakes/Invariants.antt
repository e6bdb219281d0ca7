use Rattle.std.proofs.Common.{◌≡◌, length}
use Rattle.kept_tours.proofs.desks.no_stakes.Given as goal

abbrev pub invariant-loop-car : goal.invariant-loop-car
invariant-loop-car l = length l.stakes.items ≡ l._car
