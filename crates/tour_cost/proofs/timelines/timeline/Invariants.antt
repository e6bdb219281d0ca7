-- The walker follows the stops so far, and the times are those of the stops so far.
use Rattle.std.proofs.Common.{◌≡◌, ◌++◌, drop}
use Rattle.elevator_model.specs.Costs.{times_from, timeline_of}
use Rattle.tour_cost.proofs.Walked.{IsWalked, progress}
use Rattle.tour_cost.proofs.timelines.timeline.Given as goal

abbrev pub invariant-loop-stop : goal.invariant-loop-stop
invariant-loop-stop l = record {
  walked : IsWalked l.snapshot l.car l.tour l.stop-index l.walker;
  times : l.times.items ++ times_from l.snapshot l.car (progress l.snapshot l.car l.tour l.stop-index) (drop l.stop-index l.tour)
      ≡ timeline_of l.snapshot l.car l.tour;
}
