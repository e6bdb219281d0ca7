use Rattle.std.proofs.Common.{ℕ, ◌<◌}
use Rattle.call_state.specs.Squares.{square_of, IsRowDirect}
use Rattle.motion_table.proofs.triples.judge_table.Given as goal

abbrev pub invariant-loop-f : goal.invariant-loop-f
invariant-loop-f l = (f : ℕ) → f < l.f → IsRowDirect (square_of l.floors l.times) f
