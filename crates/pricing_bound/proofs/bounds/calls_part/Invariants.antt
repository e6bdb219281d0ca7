-- So far what the calls below this one add.
use Rattle.std.proofs.Common.{◌≡◌, ◌*◌, ◌^◌, Some}
use Rattle.std.specs.Prelude.{pos, neg_ℤ, ◌≤ℤ◌}
use Rattle.call_sets.specs.Counting.{has}
use Rattle.elevator_model.specs.Partial.{Course}
use Rattle.partial_tours.specs.Courses.{reached}
use Rattle.partial_tours.specs.PartialTour.{course}
use Rattle.search_model.specs.Prices.{price_at}
use Rattle.search_model.specs.Sums.{int_sum_below}
use Rattle.pricing_bound.specs.Parts.{call_part}
use Rattle.pricing_bound.proofs.bounds.calls_part.Given as goal

abbrev pub invariant-loop-call : goal.invariant-loop-call
invariant-loop-call l = record {
  sum : (x : Course) → course l.prefix ≡ Some x
      → l.sum ≡ int_sum_below l.call
      (call_part l.prefix.snapshot (price_at l.prices) (has l.allowed) (has l.required) (reached l.prefix.snapshot l.prefix.car x));
  low : neg_ℤ (pos (2 * 10 ^ 24 * l.call)) ≤ℤ l.sum;
  high : l.sum ≤ℤ pos (2 * 10 ^ 24 * l.call);
}
