-- No car so far is moving.
use Rattle.std.proofs.Common.{◌<◌, ℕ, slice_index_or}
use Rattle.elevator_model.specs.Snapshot.{IsUnmoving, no_state}
use Rattle.call_state.proofs.whole_parts.are_unmoving.Given as goal

abbrev pub invariant-loop-state : goal.invariant-loop-state
invariant-loop-state l = (c : ℕ) → c < l.state-index → IsUnmoving (slice_index_or l.states c no_state)
