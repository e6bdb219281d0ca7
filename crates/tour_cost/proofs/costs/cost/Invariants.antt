-- The walker follows the stops so far, and the cost is that of those who got off so far.
use Rattle.tour_cost.proofs.Walked.{IsWalked, IsSettled, progress}
use Rattle.tour_cost.proofs.costs.cost.Given as goal

abbrev pub invariant-loop-stop : goal.invariant-loop-stop
invariant-loop-stop l = record {
  walked : IsWalked l.snapshot l.car l.tour l.stop-index l.walker;
  settled : IsSettled l.snapshot l.car (progress l.snapshot l.car l.tour l.stop-index) l.boarded l.cost;
}
