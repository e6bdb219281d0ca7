-- So far the cost of the tours of the cars below this one.
use Rattle.std.proofs.Common.{◌≡◌, ◌+◌, ◌*◌, ◌≤◌}
use Rattle.call_sets.specs.Counting.{sum_below}
use Rattle.elevator_model.specs.Plans.{tour_of}
use Rattle.elevator_model.specs.Costs.{cost_of}
use Rattle.tour_cost.specs.Served.{calls_served}
use Rattle.tour_cost.proofs.plans.plan_cost.Given as goal

abbrev pub invariant-loop-car : goal.invariant-loop-car
invariant-loop-car l = record {
  so_far : l.total ≡ sum_below l.car
      (λ c. cost_of l.snapshot c (tour_of l.plan c));
  bounded : l.total ≤ 1000000000000000000 * l.car;
  each : l.total ≤ 2400000000000000 * sum_below l.car
      (λ c. calls_served l.snapshot (tour_of l.plan c)) + 6400000000000000 * l.car;
}
