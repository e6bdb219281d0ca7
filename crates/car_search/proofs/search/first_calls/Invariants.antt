-- The calls so far.
use Rattle.std.proofs.Common.{◌≡◌, ℕ, ltb}
use Rattle.call_sets.specs.Counting.{has}
use Rattle.car_search.proofs.search.first_calls.Given as goal

abbrev pub invariant-loop-call : goal.invariant-loop-call
invariant-loop-call l = (k : ℕ) → has l.calls k ≡ ltb k l.call
