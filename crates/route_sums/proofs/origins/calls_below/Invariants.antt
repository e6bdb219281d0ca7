use Rattle.std.proofs.Common.{◌≡◌, ℕ, ◌&&◌, nat_lt, slice_index_or}
use Rattle.call_sets.specs.Counting.{has}
use Rattle.elevator_model.specs.Snapshot.{no_call}
use Rattle.route_sums.proofs.origins.calls_below.Given as goal

abbrev pub invariant-loop-j : goal.invariant-loop-j
invariant-loop-j l = (k : ℕ) → has l.set k ≡ (nat_lt k l.j && (nat_lt (slice_index_or l.calls k no_call).origin l.floor))
