-- Those of the places below this one are put.
use Rattle.route_sums.proofs.RowLemmas.{ArePutBefore}
use Rattle.route_sums.proofs.rows.set_terms.Given as goal

abbrev pub invariant-loop-place : goal.invariant-loop-place
invariant-loop-place l = ArePutBefore l.snapshot l.car l.rates l.place l.terms
