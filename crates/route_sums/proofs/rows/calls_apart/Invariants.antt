-- Those in the set pass, and stand below this place.
use Rattle.std.proofs.Common.{◌≡◌, ℕ, true}
use Rattle.call_sets.specs.Counting.{has}
use Rattle.route_sums.specs.Rows.{BeginsApart}
use Rattle.route_sums.proofs.rows.calls_apart.Given as goal

abbrev pub invariant-loop-j : goal.invariant-loop-j
invariant-loop-j l = (k : ℕ) → has l.set k ≡ true → BeginsApart l.rates l.floor k
