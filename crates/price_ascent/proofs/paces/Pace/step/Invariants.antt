-- The prices so far follow their parts.
use Rattle.std.proofs.Common.{ℕ, ◌<◌, pos, ◌≤ℤ◌, get_or}
use Rattle.search_model.specs.Prices.{price_at}
use Rattle.price_ascent.specs.Steps.{FollowsPart}
use Rattle.price_ascent.proofs.paces.Pace.step.Given as goal

abbrev pub invariant-loop-call : goal.invariant-loop-call
invariant-loop-call l = pos 0 ≤ℤ l.rate → (j : ℕ) → j < l.call → FollowsPart (get_or l.direction j (pos 0)) (price_at l.from j) (price_at l.next j)
