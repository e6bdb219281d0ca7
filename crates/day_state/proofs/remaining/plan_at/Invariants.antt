-- The rest of the tours of the cars so far.
use Rattle.std.proofs.Common.{◌≡◌, ℕ, map}
use Rattle.std.specs.List.{range_with_len}
use Rattle.search_model.specs.Advancing.{left_at, stop_then}
use Rattle.day_state.specs.Reaching.{AreReached}
use Rattle.day_state.proofs.remaining.plan_at.Given as goal

abbrev pub invariant-loop-car : goal.invariant-loop-car
invariant-loop-car l = (t : ℕ) → AreReached l.world t l.reached → l.plan ≡ map (λ c. map (stop_then l.world t) (left_at l.world t c)) (range_with_len 0 l.car)
