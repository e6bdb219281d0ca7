-- Those of the floors below this one are put.
use Rattle.std.proofs.Common.{◌≡◌, ◌<◌, ℕ, true, length}
use Rattle.std.specs.Prelude.{slice_index}
use Rattle.call_sets.specs.Counting.{has}
use Rattle.route_sums.specs.Rows.{BeginsApart}
use Rattle.route_sums.proofs.rows.set_apart.Given as goal

abbrev pub invariant-loop-floor : goal.invariant-loop-floor
invariant-loop-floor l = record {
  size : length l.apart ≡ length l.fn.apart;
  apart : (f j : ℕ) → f < l.floor → has (slice_index l.apart f) j ≡ true → BeginsApart l.rates f j;
}
