-- So far the least cost with the possible cars below this one.
use Rattle.std.proofs.Common.{◌≡◌, ◌≤◌}
use Rattle.std.specs.Prelude.{unwrap_or}
use Rattle.elevator_model.specs.Snapshot.{call_of, is_possible, moment_of, state_of}
use Rattle.search_model.specs.Bounds.{cost_if_alone}
use Rattle.search_model.specs.Sums.{least_where}
use Rattle.snapshot_solver.proofs.costs.least_lone_cost_of.Given as goal

abbrev pub invariant-loop-car : goal.invariant-loop-car
invariant-loop-car l = record {
  least_is : l.least ≡ least_where l.car (λ c. is_possible l.snapshot c (call_of l.snapshot l.call))
      (λ c. cost_if_alone l.snapshot l.call (moment_of (state_of l.snapshot c)));
  bounded : unwrap_or l.least 0 ≤ 2400000000000000;
}
