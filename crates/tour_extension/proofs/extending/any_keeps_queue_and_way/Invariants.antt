use Rattle.std.proofs.Common.{◌≡◌, ◌&&◌}
use Rattle.std.specs.List.{list_any}
use Rattle.call_sets.specs.Counting.{members, any_below, has}
use Rattle.elevator_model.specs.Snapshot.{call_count}
use Rattle.partial_tours.proofs.Departing.{AreBelow}
use Rattle.tour_extension.specs.Points.{keeps_queue_and_way}
use Rattle.tour_extension.proofs.extending.any_keeps_queue_and_way.Given as goal

abbrev pub invariant-loop-call : goal.invariant-loop-call
invariant-loop-call l = record {
  below : AreBelow (call_count l.layout.snapshot) (members 128 l.call-iterator.left);
  any : any_below (call_count l.layout.snapshot) (λ j. has l.fn.calls j && keeps_queue_and_way l.layout.snapshot l.missing l.sides l.floor j)
      ≡ list_any (keeps_queue_and_way l.layout.snapshot l.missing l.sides l.floor) (members 128 l.call-iterator.left);
}
