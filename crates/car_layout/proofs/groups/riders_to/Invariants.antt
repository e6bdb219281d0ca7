use Rattle.std.proofs.Common.{◌≡◌, ◌*◌}
use Rattle.call_sets.specs.Counting.{sum_where}
use Rattle.elevator_model.specs.Snapshot.{group_of}
use Rattle.car_layout.specs.Layouts.{is_group_to}
use Rattle.car_layout.proofs.groups.riders_to.Given as goal

abbrev pub invariant-loop-k : goal.invariant-loop-k
invariant-loop-k l = record {
  persons : l.persons ≡ sum_where l.k (is_group_to l.snapshot.aboard l.car l.floor) (λ k. (group_of l.snapshot k).persons);
  moments : l.moments ≡ sum_where l.k (is_group_to l.snapshot.aboard l.car l.floor) (λ k. (group_of l.snapshot k).persons * (group_of l.snapshot k).boarded);
}
