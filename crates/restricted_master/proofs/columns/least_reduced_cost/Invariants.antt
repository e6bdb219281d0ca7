-- The least of the columns so far.
use Rattle.std.proofs.Common.{◌<◌, ◌*◌, ◌^◌, ℕ, pos, neg_ℤ, ◌≤ℤ◌, get_or}
use Rattle.restricted_master.specs.declared.columns.Column.{Column}
use Rattle.restricted_master.specs.Priced.{reduced_cost_of}
use Rattle.restricted_master.proofs.columns.least_reduced_cost.Given as goal

abbrev pub invariant-loop-column : goal.invariant-loop-column
invariant-loop-column l = record {
  least : (k : ℕ) (d : Column) → k < l.column-index → l.least ≤ℤ reduced_cost_of l.prices (get_or l.columns k d).cost (get_or l.columns k d).calls;
  low : neg_ℤ (pos (2 * 10 ^ 26)) ≤ℤ l.least;
  high : l.least ≤ℤ pos (2 * 10 ^ 26);
}
