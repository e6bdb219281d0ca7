-- The prices of the calls that are left are still to come.
use Rattle.std.proofs.Common.{◌≡◌, ◌-◌, ◌*◌, ◌^◌, ◌≤◌, pos, neg_ℤ, ◌+ℤ◌, ◌≤ℤ◌, length}
use Rattle.call_sets.specs.Counting.{members}
use Rattle.search_model.specs.Sums.{int_sum_by}
use Rattle.search_model.specs.Prices.{price_at}
use Rattle.restricted_master.specs.Priced.{prices_in}
use Rattle.restricted_master.proofs.prices.prices_of.Given as goal

abbrev pub invariant-loop-call : goal.invariant-loop-call
invariant-loop-call l = record {
  few : length (members 128 l.call-iterator.left) ≤ 128;
  sum : l.sum +ℤ int_sum_by (price_at l.prices) (members 128 l.call-iterator.left) ≡ prices_in l.prices l.fn.calls;
  low : neg_ℤ (pos (10 ^ 24 * (128 - length (members 128 l.call-iterator.left)))) ≤ℤ l.sum;
  high : l.sum ≤ℤ pos (10 ^ 24 * (128 - length (members 128 l.call-iterator.left)));
}
