-- The indexes so far are in the set.
use Rattle.std.proofs.Common.{◌≡◌, ◌<◌, ℕ, true}
use Rattle.call_sets.specs.Counting.{has}
use Rattle.call_sets.proofs.call_set.CallSet.has_first.Given as goal

abbrev pub invariant-loop-index : goal.invariant-loop-index
invariant-loop-index l = (k : ℕ) → k < l.index → has l.self k ≡ true
