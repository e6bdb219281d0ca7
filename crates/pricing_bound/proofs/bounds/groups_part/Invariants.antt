-- So far what the groups below this one add.
use Rattle.std.proofs.Common.{◌≡◌, ◌*◌, ◌^◌, Some}
use Rattle.std.specs.Prelude.{pos, ◌≤ℤ◌}
use Rattle.elevator_model.specs.Partial.{Course}
use Rattle.partial_tours.specs.Courses.{reached}
use Rattle.partial_tours.specs.PartialTour.{course}
use Rattle.search_model.specs.Sums.{int_sum_below}
use Rattle.pricing_bound.specs.Parts.{group_part}
use Rattle.pricing_bound.proofs.bounds.groups_part.Given as goal

abbrev pub invariant-loop-group : goal.invariant-loop-group
invariant-loop-group l = record {
  sum : (x : Course) → course l.prefix ≡ Some x → l.sum ≡ int_sum_below l.group (group_part l.prefix.snapshot (reached l.prefix.snapshot l.prefix.car x));
  low : pos 0 ≤ℤ l.sum;
  high : l.sum ≤ℤ pos (10 ^ 19 * l.group);
}
