-- The sum so far is not below 0.
use Rattle.std.proofs.Common.{pos, ◌≤ℤ◌}
use Rattle.price_ascent.proofs.moves.square_of.Given as goal

abbrev pub invariant-loop-part : goal.invariant-loop-part
invariant-loop-part l = pos 0 ≤ℤ l.square
