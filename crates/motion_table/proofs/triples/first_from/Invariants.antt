use Rattle.std.proofs.Common.{ℕ, ◌<◌}
use Rattle.call_state.specs.Squares.{square_of, IsLegDirect}
use Rattle.motion_table.proofs.triples.first_from.Given as goal

abbrev pub invariant-loop-g : goal.invariant-loop-g
invariant-loop-g l = (g : ℕ) → g < l.g → IsLegDirect (square_of l.floors l.times) l.f g
