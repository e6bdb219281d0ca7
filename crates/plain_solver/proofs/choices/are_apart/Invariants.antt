-- No call so far is in both.
use Rattle.std.proofs.Common.{◌≡◌, ◌<◌, ℕ, true, false}
use Rattle.call_sets.specs.Counting.{has}
use Rattle.plain_solver.proofs.choices.are_apart.Given as goal

abbrev pub invariant-loop-call : goal.invariant-loop-call
invariant-loop-call l = (k : ℕ) → k < l.call → has l.left k ≡ true → has l.right k ≡ false
