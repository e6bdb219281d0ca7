-- The least number so far.
use Rattle.std.proofs.Common.{◌≡◌}
use Rattle.elevator_model.specs.Snapshot.{is_open}
use Rattle.elevator_model.specs.Travel.{difference}
use Rattle.search_model.specs.Sums.{least_where}
use Rattle.day_state.proofs.openings.floors_to_open.Given as goal

abbrev pub invariant-loop-floor : goal.invariant-loop-floor
invariant-loop-floor l = l.least ≡ least_where l.floor (is_open l.snapshot.building l.car l.snapshot.moment l.state) (difference l.from)
