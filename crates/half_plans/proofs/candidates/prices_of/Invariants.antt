-- The prices of the calls so far.
use Rattle.std.proofs.Common.{◌≡◌, ◌*◌, ◌^◌, pos, neg_ℤ, ◌≤ℤ◌}
use Rattle.call_sets.specs.Counting.{has}
use Rattle.search_model.specs.Sums.{int_sum_where}
use Rattle.search_model.specs.Prices.{price_at}
use Rattle.half_plans.proofs.candidates.prices_of.Given as goal

abbrev pub invariant-loop-call : goal.invariant-loop-call
invariant-loop-call l = record {
  sum : l.sum ≡ int_sum_where l.call (has l.calls) (price_at l.prices);
  low : neg_ℤ (pos (10 ^ 24 * l.call)) ≤ℤ l.sum;
  high : l.sum ≤ℤ pos (10 ^ 24 * l.call);
}
