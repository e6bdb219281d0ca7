-- The ride has made the stops so far, and what happened there stands behind the events.
use Rattle.std.proofs.Common.{◌≡◌, ◌++◌}
use Rattle.day_state.proofs.RideSteps.{IsRidden, events_of}
use Rattle.day_state.proofs.rides.ride_along.Given as goal

abbrev pub invariant-loop-place : goal.invariant-loop-place
invariant-loop-place l = record {
  ridden : IsRidden l.snapshot l.car l.tour l.place l.ride;
  events : l.events.items ≡ l.fn.events.items ++ events_of l.snapshot l.car l.tour l.place;
}
