-- The stops so far are reached by the moment, and the walker has made them.
use Rattle.std.proofs.Common.{◌≡◌, ◌++◌, take, drop}
use Rattle.elevator_model.specs.Tours.{start_of}
use Rattle.search_model.specs.Advancing.{done_from}
use Rattle.tour_cost.proofs.Walked.{IsWalked, progress}
use Rattle.day_state.proofs.rides.stops_done.Given as goal

abbrev pub invariant-loop-done : goal.invariant-loop-done
invariant-loop-done l = record {
  walked : IsWalked l.snapshot l.car l.tour l.done l.walker;
  done : take l.done l.tour ++ done_from l.snapshot l.car l.t (progress l.snapshot l.car l.tour l.done) (drop l.done l.tour)
      ≡ done_from l.snapshot l.car l.t (start_of l.snapshot l.car) l.tour;
}
