-- The indexes of the calls so far, and how many of them wait.
use Rattle.std.proofs.Common.{◌≡◌, ℕ, ◌<◌, not, get_or, length}
use Rattle.call_sets.specs.Counting.{has}
use Rattle.day_state.proofs.Numbering.{rank}
use Rattle.day_state.proofs.remaining.indexes_waiting.Given as goal

abbrev pub invariant-loop-call : goal.invariant-loop-call
invariant-loop-call l = record {
  count : length l.indexes.items ≡ l.call;
  waiting : l.waiting ≡ rank (λ k. not (has l.boarded k)) l.call;
  each : (j : ℕ) → j < l.call → get_or l.indexes.items j 0 ≡ rank (λ k. not (has l.boarded k)) j;
}
