use Rattle.std.proofs.Common.{◌≡◌, ◌+◌, get_or}
use Rattle.std.specs.List.{sum_by}
use Rattle.call_sets.specs.Counting.{members, sum_where, has}
use Rattle.elevator_model.specs.Snapshot.{call_count, call_of}
use Rattle.tour_rules.specs.Leaving.{cost_of_call}
use Rattle.partial_tours.proofs.Departing.{AreBelow}
use Rattle.partial_tours.proofs.leaving.calls_leaving.Given as goal

abbrev pub invariant-loop-j : goal.invariant-loop-j
invariant-loop-j l = record {
  below : AreBelow (call_count l.snapshot) (members 128 l.j-iterator.left);
  persons : l.leaving.persons + sum_by (λ j. (call_of l.snapshot j).persons) (members 128 l.j-iterator.left)
      ≡ sum_where (call_count l.snapshot) (has l.fn.calls) (λ j. (call_of l.snapshot j).persons);
  cost : l.leaving.cost + sum_by (λ j. cost_of_call l.snapshot j (get_or l.moments j 0) l.opened) (members 128 l.j-iterator.left)
      ≡ sum_where (call_count l.snapshot) (has l.fn.calls) (λ j. cost_of_call l.snapshot j (get_or l.moments j 0) l.opened);
}
