use Rattle.std.proofs.Common.{◌≡◌, ℕ, ◌&&◌, nat_lt, nat_le, slice_index_or}
use Rattle.call_sets.specs.Counting.{has}
use Rattle.elevator_model.specs.Snapshot.{no_call}
use Rattle.car_layout.proofs.scans.calls_of_at_most.Given as goal

abbrev pub invariant-loop-j : goal.invariant-loop-j
invariant-loop-j l = (k : ℕ) → has l.set k ≡ (nat_lt k l.j && (nat_le (slice_index_or l.calls k no_call).persons l.persons))
