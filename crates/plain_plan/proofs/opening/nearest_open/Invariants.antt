-- An open floor among those so far, if there is one.
use Rattle.elevator_model.specs.declared.CarState.TheVariants.{Moving}
use Rattle.elevator_model.specs.Snapshot.{is_open}
use Rattle.plain_plan.specs.Openings.{IsFound}
use Rattle.plain_plan.proofs.opening.nearest_open.Given as goal

abbrev pub invariant-loop-floor : goal.invariant-loop-floor
invariant-loop-floor l = IsFound (is_open l.snapshot.building l.car l.snapshot.moment (Moving l.from l.up l.left)) l.floor l.nearest
