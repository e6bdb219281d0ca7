-- So far the cost of the car's groups below this one.
use Rattle.std.proofs.Common.{◌≡◌, ◌≤◌, ◌*◌, ◌==◌}
use Rattle.call_sets.specs.Counting.{sum_where}
use Rattle.elevator_model.specs.Snapshot.{group_of}
use Rattle.search_model.specs.Solving.{straight_cost}
use Rattle.snapshot_solver.proofs.costs.aboard_cost_of.Given as goal

abbrev pub invariant-loop-group : goal.invariant-loop-group
invariant-loop-group l = record {
  cost_is : l.cost ≡ sum_where l.group (λ k. (group_of l.snapshot k).car == l.car) (straight_cost l.snapshot);
  bounded : l.cost ≤ 800000000000000 * l.group;
}
