use Rattle.std.proofs.Common.{◌≡◌, ℕ}
use Rattle.call_sets.specs.Counting.{has, any_below}
use Rattle.car_layout.specs.Layouts.{is_group_to}
use Rattle.car_layout.proofs.groups.destinations.Given as goal

abbrev pub invariant-loop-k : goal.invariant-loop-k
invariant-loop-k l = (g : ℕ) → has l.set g ≡ any_below l.k (is_group_to l.snapshot.aboard l.car g)
