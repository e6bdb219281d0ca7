-- So far the worths of the cars below this one.
use Rattle.std.proofs.Common.{◌≡◌, map}
use Rattle.std.specs.List.{range_with_len}
use Rattle.snapshot_solver.specs.Starts.{start_worth}
use Rattle.snapshot_solver.proofs.starts.start_worths.Given as goal

abbrev pub invariant-loop-car : goal.invariant-loop-car
invariant-loop-car l = l.worths.items ≡ map (start_worth l.snapshot) (range_with_len 0 l.car)
