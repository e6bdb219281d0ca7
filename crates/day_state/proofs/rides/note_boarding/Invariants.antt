-- So far the moments of the calls below this one are noted.
use Rattle.std.proofs.Common.{◌≡◌, ℕ, ◌<◌, ◌≤◌, get_or, cond, length}
use Rattle.call_sets.specs.Counting.{has}
use Rattle.day_state.proofs.rides.note_boarding.Given as goal

abbrev pub invariant-loop-call : goal.invariant-loop-call
invariant-loop-call l = record {
  count : length l.boarded_at ≡ length l.fn.boarded_at;
  below : (k : ℕ) → k < l.call → get_or l.boarded_at k 0 ≡ cond (has l.boards k) l.moment (get_or l.fn.boarded_at k 0);
  above : (k : ℕ) → l.call ≤ k → get_or l.boarded_at k 0 ≡ get_or l.fn.boarded_at k 0;
}
