-- The stops so far, with the new indexes.
use Rattle.std.proofs.Common.{◌≡◌, map, take, slice_index}
use Rattle.day_state.specs.Reaching.{renamed_stop}
use Rattle.day_state.proofs.remaining.tour_then.Given as goal

abbrev pub invariant-loop-stop : goal.invariant-loop-stop
invariant-loop-stop l = l.stops.items ≡ map (renamed_stop (slice_index l.indexes)) (take l.stop-index l.left)
