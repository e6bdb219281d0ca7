-- The moment is past that of no call below this one that is not early.
use Rattle.std.proofs.Common.{◌≡◌, ◌<◌, ◌≤◌, ℕ, false, slice_index_or}
use Rattle.call_sets.specs.Counting.{has}
use Rattle.pricing_bound.specs.declared.rates.Rate.{Rate}
use Rattle.pricing_bound.proofs.rates.next_end.Given as goal

abbrev pub invariant-loop-call : goal.invariant-loop-call
invariant-loop-call l = (j : ℕ) (d : Rate) → j < l.call → has l.early j ≡ false → l.until ≤ (slice_index_or l.rates j d).below
