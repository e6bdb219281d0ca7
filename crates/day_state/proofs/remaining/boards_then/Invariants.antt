-- The calls so far, by their new indexes.
use Rattle.std.proofs.Common.{◌≡◌, map, take, slice_index}
use Rattle.day_state.proofs.remaining.boards_then.Given as goal

abbrev pub invariant-loop-call : goal.invariant-loop-call
invariant-loop-call l = l.renamed.items ≡ map (slice_index l.indexes) (take l.call-index l.boards)
