use Rattle.std.proofs.Common.{◌≡◌, ◌≤◌}
use Rattle.call_sets.specs.Counting.{has, sum_where}
use Rattle.call_sets.proofs.floor_set.FloorSet.count_below.Given as goal

abbrev pub invariant-loop-floor : goal.invariant-loop-floor
invariant-loop-floor l = (l.count ≡ sum_where l.floor (has l.self) (λ _. 1)) × (l.count ≤ l.floor)
