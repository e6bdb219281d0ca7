use Rattle.std.proofs.Common.{◌≡◌, ℕ, ◌&&◌, ltb, take}
use Rattle.call_sets.specs.Counting.{has, is_among}
use Rattle.call_sets.proofs.call_set.CallSet.of_list.Given as goal

abbrev pub invariant-loop-call : goal.invariant-loop-call
invariant-loop-call l = (k : ℕ) → has l.set k ≡ (ltb k 128 && is_among k (take l.call-index l.calls))
