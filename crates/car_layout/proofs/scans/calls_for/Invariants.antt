use Rattle.std.proofs.Common.{◌≡◌, ℕ, ◌&&◌, nat_lt}
use Rattle.call_sets.specs.Counting.{has}
use Rattle.elevator_model.specs.Tours.{is_call_for}
use Rattle.car_layout.proofs.scans.calls_for.Given as goal

abbrev pub invariant-loop-j : goal.invariant-loop-j
invariant-loop-j l = (k : ℕ) → has l.set k ≡ (nat_lt k l.j && (is_call_for l.snapshot l.car k))
