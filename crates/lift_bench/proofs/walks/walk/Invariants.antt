use Rattle.std.proofs.Common.{◌≤◌, ◌<◌, ◌-◌}
use Rattle.elevator_model.specs.Snapshot.{car_count}
use Rattle.lift_bench.proofs.walks.walk.Given as goal

abbrev pub invariant-loop-seen : goal.invariant-loop-seen
invariant-loop-seen l = record {
  ended : l.seen.ended ≤ l.seen.tours;
  car : 0 < car_count l.prefix.snapshot;
}

abbrev pub decreases-loop-seen : goal.decreases-loop-seen
decreases-loop-seen l = l.tours - l.seen.tours
