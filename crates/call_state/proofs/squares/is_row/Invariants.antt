use Rattle.std.proofs.Common.{ℕ, ◌<◌}
use Rattle.call_state.specs.Squares.{square_of, IsEntry}
use Rattle.call_state.proofs.squares.is_row.Given as goal

abbrev pub invariant-loop-to : goal.invariant-loop-to
invariant-loop-to l = (to : ℕ) → to < l.to → IsEntry (square_of l.floors l.times) l.from to
