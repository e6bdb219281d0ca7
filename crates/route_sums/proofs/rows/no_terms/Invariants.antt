-- There are as many as were pushed.
use Rattle.std.proofs.Common.{◌≡◌, length}
use Rattle.route_sums.proofs.rows.no_terms.Given as goal

abbrev pub invariant-loop-place : goal.invariant-loop-place
invariant-loop-place l = length l.terms.items ≡ l.place
