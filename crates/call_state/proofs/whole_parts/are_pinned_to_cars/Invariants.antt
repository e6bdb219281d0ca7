-- The pins so far are cars.
use Rattle.std.proofs.Common.{◌<◌, ℕ, IfSome, slice_index_or}
use Rattle.elevator_model.specs.Snapshot.{no_call}
use Rattle.call_state.proofs.whole_parts.are_pinned_to_cars.Given as goal

abbrev pub invariant-loop-call : goal.invariant-loop-call
invariant-loop-call l = (j : ℕ) → j < l.call-index → IfSome (slice_index_or l.calls j no_call).pin (λ c. c < l.cars)
