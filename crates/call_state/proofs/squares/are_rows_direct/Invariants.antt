use Rattle.std.proofs.Common.{ℕ, ◌<◌}
use Rattle.call_state.specs.Squares.{square_of, IsRowDirect}
use Rattle.call_state.proofs.squares.are_rows_direct.Given as goal

abbrev pub invariant-loop-from : goal.invariant-loop-from
invariant-loop-from l = (from : ℕ) → from < l.from → IsRowDirect (square_of l.floors l.times) from
