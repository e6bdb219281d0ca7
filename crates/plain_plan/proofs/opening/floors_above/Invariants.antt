-- The destinations so far, and then those that are left.
use Rattle.std.proofs.Common.{◌≡◌, ◌-◌, ◌++◌}
use Rattle.elevator_model.specs.Building.{floor_count}
use Rattle.plain_plan.specs.Openings.{is_destination, rising, floors_above}
use Rattle.plain_plan.proofs.opening.floors_above.Given as goal

abbrev pub invariant-loop-other : goal.invariant-loop-other
invariant-loop-other l =
    l.floors.items ++ rising (is_destination l.snapshot l.car) l.other (floor_count l.snapshot.building - l.other) ≡ floors_above l.snapshot l.car l.floor
