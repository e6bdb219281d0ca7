use Rattle.std.proofs.Common.{ℕ, ◌<◌}
use Rattle.call_state.specs.Squares.{square_of, IsDirect}
use Rattle.motion_table.proofs.triples.first_third.Given as goal

abbrev pub invariant-loop-h : goal.invariant-loop-h
invariant-loop-h l = (h : ℕ) → h < l.h → IsDirect (square_of l.floors l.times) l.f l.g h
