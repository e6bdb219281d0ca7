use Rattle.std.proofs.Common.{◌≡◌, ◌++◌, drop}
use Rattle.picture_reader.specs.PlanLegs.{tour_legs}
use Rattle.picture_reader.proofs.plan_tours.push_stops.Given as goal

-- what was drawn, and what is still to come, are all of it
abbrev pub invariant-loop-stop : goal.invariant-loop-stop
invariant-loop-stop l =
    l.out.items ++ tour_legs l.snapshot l.car l.left l.riders.items (drop l.stop-index l.stops) ≡ l.fn.out.items
    ++ tour_legs l.snapshot l.car 0 l.fn.aboard.items l.stops
