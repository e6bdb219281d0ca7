-- What the calls that are left cost is still to come.
use Rattle.std.proofs.Common.{◌≡◌, ◌+◌, ◌-◌, ◌*◌, ◌≤◌, length, Some}
use Rattle.std.specs.List.{sum_by}
use Rattle.call_sets.specs.Counting.{has, members}
use Rattle.elevator_model.specs.Partial.{Course}
use Rattle.elevator_model.specs.Snapshot.{call_count}
use Rattle.partial_tours.specs.Courses.{reached}
use Rattle.partial_tours.specs.PartialTour.{course}
use Rattle.partial_tours.proofs.Departing.{AreBelow}
use Rattle.search_model.specs.Bounds.{cost_if_straight}
use Rattle.pricing_bound.specs.Running.{cost_of_call_rides, standing_at}
use Rattle.pricing_bound.proofs.WaitingLemmas.{AllPass}
use Rattle.pricing_bound.proofs.carried.cost_of_calls.Given as goal

abbrev pub invariant-loop-call : goal.invariant-loop-call
invariant-loop-call l = record {
  below : AreBelow (call_count l.rates.snapshot) (members 128 l.call-iterator.left);
  within : AllPass (has l.fn.calls) (members 128 l.call-iterator.left);
  cost : (x : Course) → course l.prefix ≡ Some x
      → l.cost + sum_by (cost_if_straight l.prefix.snapshot (standing_at (reached l.prefix.snapshot l.prefix.car x) l.floor l.opened))
      (members 128 l.call-iterator.left)
      ≡ cost_of_call_rides l.prefix.snapshot (standing_at (reached l.prefix.snapshot l.prefix.car x) l.floor l.opened) l.fn.calls;
  few : length (members 128 l.call-iterator.left) ≤ 128;
  small : l.cost ≤ 2400000000000000 * (128 - length (members 128 l.call-iterator.left));
}
