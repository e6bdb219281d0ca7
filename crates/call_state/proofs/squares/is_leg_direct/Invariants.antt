use Rattle.std.proofs.Common.{◌≡◌, ◌↔◌, ℕ, ◌+◌, ◌≤◌, ◌<◌, false, slice_index}
use Rattle.call_state.proofs.squares.is_leg_direct.Given as goal

abbrev pub invariant-loop-to : goal.invariant-loop-to
invariant-loop-to l = (l.is_shorter ≡ false) ↔ ((h : ℕ) → h < l.to → slice_index l.direct h ≤ l.leg + slice_index l.rest h)
