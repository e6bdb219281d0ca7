-- The stops so far, and then those that open the tour and serve the calls.
use Rattle.std.proofs.Common.{◌≡◌, ◌++◌, drop, None}
use Rattle.plain_plan.specs.PlainTours.{opened}
use Rattle.plain_plan.proofs.plain.plain_tour.Given as goal

abbrev pub invariant-loop-floor : goal.invariant-loop-floor
invariant-loop-floor l =
    l.stops.items ++ opened l.snapshot l.pending (drop l.floor-index l.floor-items) l.calls ≡ opened l.snapshot None l.floor-items l.calls
