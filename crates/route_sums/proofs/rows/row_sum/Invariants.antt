-- The parts of the calls that are left are still to come.
use Rattle.std.proofs.Common.{length}
use Rattle.std.specs.Prelude.{int_lt, pos, slice_index_or}
use Rattle.call_sets.specs.Counting.{members}
use Rattle.route_sums.specs.Rows.{no_term, row_at, row_part}
use Rattle.route_sums.proofs.FilterLemmas.{IsFiltered}
use Rattle.route_sums.proofs.RowLemmas.{IsRowSum}
use Rattle.route_sums.proofs.rows.row_sum.Given as goal

abbrev pub invariant-loop-call : goal.invariant-loop-call
invariant-loop-call l = record {
  added : IsRowSum l.fn.calls (length l.row) (row_part l.row l.leaves) (members 128 l.call-iterator.left) l.sum.added;
  waiting : IsFiltered (length l.row) l.fn.calls (λ j. int_lt (row_at (slice_index_or l.row j no_term) l.leaves) (pos 0))
      (members 128 l.call-iterator.left) l.sum.waiting;
}
