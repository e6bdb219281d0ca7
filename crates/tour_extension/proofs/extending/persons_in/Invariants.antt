use Rattle.std.proofs.Common.{◌≡◌, ◌+◌}
use Rattle.std.specs.List.{sum_by}
use Rattle.call_sets.specs.Counting.{members, sum_where, has}
use Rattle.elevator_model.specs.Snapshot.{call_count, call_of}
use Rattle.partial_tours.proofs.Departing.{AreBelow}
use Rattle.tour_extension.proofs.extending.persons_in.Given as goal

abbrev pub invariant-loop-call : goal.invariant-loop-call
invariant-loop-call l = record {
  below : AreBelow (call_count l.layout.snapshot) (members 128 l.call-iterator.left);
  persons : l.persons + sum_by (λ j. (call_of l.layout.snapshot j).persons) (members 128 l.call-iterator.left)
      ≡ sum_where (call_count l.layout.snapshot) (has l.fn.calls) (λ j. (call_of l.layout.snapshot j).persons);
}
