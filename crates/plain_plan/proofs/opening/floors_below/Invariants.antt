-- The destinations so far, and then those that are left.
use Rattle.std.proofs.Common.{◌≡◌, ◌++◌}
use Rattle.plain_plan.specs.Openings.{is_destination, falling}
use Rattle.plain_plan.proofs.opening.floors_below.Given as goal

abbrev pub invariant-loop-other : goal.invariant-loop-other
invariant-loop-other l =
    l.floors.items ++ falling (is_destination l.snapshot l.car) l.other ≡ falling (is_destination l.snapshot l.car) l.floor
