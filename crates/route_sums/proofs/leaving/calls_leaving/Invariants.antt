-- What the calls that are left cost is still to come.
use Rattle.std.proofs.Common.{◌≡◌, ◌+◌, ◌-◌, ◌*◌, ◌≤◌, length, Some}
use Rattle.std.specs.List.{sum_by}
use Rattle.call_sets.specs.Counting.{has, members, sum_where}
use Rattle.elevator_model.specs.Partial.{Course}
use Rattle.elevator_model.specs.Snapshot.{call_count, call_of}
use Rattle.partial_tours.specs.Courses.{reached}
use Rattle.partial_tours.specs.PartialTour.{course}
use Rattle.partial_tours.proofs.Departing.{AreBelow}
use Rattle.tour_rules.specs.Leaving.{cost_of_call}
use Rattle.pricing_bound.proofs.WaitingLemmas.{AllPass}
use Rattle.route_sums.specs.Stands.{boarding_moment}
use Rattle.route_sums.proofs.leaving.calls_leaving.Given as goal

abbrev pub invariant-loop-j : goal.invariant-loop-j
invariant-loop-j l = record {
  below : AreBelow (call_count l.snapshot) (members 128 l.j-iterator.left);
  within : AllPass (has l.fn.calls) (members 128 l.j-iterator.left);
  persons : l.leaving.persons + sum_by (λ j. (call_of l.snapshot j).persons) (members 128 l.j-iterator.left)
      ≡ sum_where (call_count l.snapshot) (has l.fn.calls) (λ j. (call_of l.snapshot j).persons);
  cost : (x : Course) → course l.prefix ≡ Some x
      → l.leaving.cost + sum_by (λ j. cost_of_call l.snapshot j (boarding_moment l.newest (reached l.prefix.snapshot l.prefix.car x) j) l.opened)
      (members 128 l.j-iterator.left)
      ≡ sum_where (call_count l.snapshot) (has l.fn.calls)
      (λ j. cost_of_call l.snapshot j (boarding_moment l.newest (reached l.prefix.snapshot l.prefix.car x) j) l.opened);
  few : length (members 128 l.j-iterator.left) ≤ 128;
  small : l.leaving.cost ≤ 2400000000000000 * (128 - length (members 128 l.j-iterator.left));
}
