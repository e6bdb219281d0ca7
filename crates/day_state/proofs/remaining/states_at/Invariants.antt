-- The states of the cars so far.
use Rattle.std.proofs.Common.{◌≡◌, map}
use Rattle.std.specs.List.{range_with_len}
use Rattle.search_model.specs.Advancing.{left_at, progress_at, state_then}
use Rattle.day_state.proofs.remaining.states_at.Given as goal

abbrev pub invariant-loop-car : goal.invariant-loop-car
invariant-loop-car l = l.states.items
    ≡ map (λ c. state_then l.world.snapshot c l.t (progress_at l.world l.t c) (left_at l.world l.t c)) (range_with_len 0 l.car)
