-- So far the moments of the calls below this one are noted.
use Rattle.std.proofs.Common.{◌≡◌, ℕ, ◌<◌, ◌≤◌, get_or, cond}
use Rattle.call_sets.specs.Counting.{has}
use Rattle.tour_cost.proofs.costs.note_boarding.Given as goal

abbrev pub invariant-loop-j : goal.invariant-loop-j
invariant-loop-j l = record {
  below : (k : ℕ) → k < l.j → get_or l.boarded k 0 ≡ cond (has l.boards k) l.opened (get_or l.fn.boarded k 0);
  above : (k : ℕ) → l.j ≤ k
      → get_or l.boarded k 0 ≡ get_or l.fn.boarded k 0;
}
