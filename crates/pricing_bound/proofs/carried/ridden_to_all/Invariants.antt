-- What is ridden to the floors that are left is still to come.
use Rattle.std.proofs.Common.{◌≡◌, ◌+◌, ◌-◌, ◌*◌, ◌≤◌, length, Some}
use Rattle.std.specs.List.{sum_by}
use Rattle.call_sets.specs.Counting.{has, members, sum_where}
use Rattle.elevator_model.specs.Building.{floor_count}
use Rattle.elevator_model.specs.Partial.{Course}
use Rattle.partial_tours.specs.Courses.{reached}
use Rattle.partial_tours.specs.PartialTour.{course}
use Rattle.partial_tours.proofs.Departing.{AreBelow}
use Rattle.pricing_bound.specs.Running.{ridden_to, standing_at}
use Rattle.pricing_bound.proofs.carried.ridden_to_all.Given as goal

abbrev pub invariant-loop-to : goal.invariant-loop-to
invariant-loop-to l = record {
  below : AreBelow (floor_count l.snapshot.building) (members 64 l.to-iterator.left);
  ridden : (x : Course) → course l.prefix ≡ Some x
      → l.ridden + sum_by (ridden_to l.prefix.snapshot l.prefix.car (standing_at (reached l.prefix.snapshot l.prefix.car x) l.floor l.opened))
      (members 64 l.to-iterator.left)
      ≡ sum_where (floor_count l.prefix.snapshot.building) (has l.fn.floors)
      (ridden_to l.prefix.snapshot l.prefix.car (standing_at (reached l.prefix.snapshot l.prefix.car x) l.floor l.opened));
  few : length (members 64 l.to-iterator.left) ≤ 64;
  small : l.ridden ≤ 6400000000000 * (64 - length (members 64 l.to-iterator.left));
}
