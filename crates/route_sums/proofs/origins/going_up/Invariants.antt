use Rattle.std.proofs.Common.{◌≡◌, ℕ, ◌&&◌, nat_lt, slice_index_or}
use Rattle.call_sets.specs.Counting.{has}
use Rattle.elevator_model.specs.Snapshot.{no_call}
use Rattle.elevator_model.specs.Tours.{is_upward}
use Rattle.route_sums.proofs.origins.going_up.Given as goal

abbrev pub invariant-loop-j : goal.invariant-loop-j
invariant-loop-j l = (k : ℕ) → has l.set k ≡ (nat_lt k l.j && (is_upward (slice_index_or l.calls k no_call)))
