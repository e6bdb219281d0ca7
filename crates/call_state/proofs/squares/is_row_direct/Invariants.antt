use Rattle.std.proofs.Common.{ℕ, ◌<◌}
use Rattle.call_state.specs.Squares.{square_of, IsLegDirect}
use Rattle.call_state.proofs.squares.is_row_direct.Given as goal

abbrev pub invariant-loop-over : goal.invariant-loop-over
invariant-loop-over l = (over : ℕ) → over < l.over → IsLegDirect (square_of l.floors l.times) l.from over
