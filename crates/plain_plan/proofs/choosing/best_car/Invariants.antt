-- A possible car among those so far, if there is one.
use Rattle.elevator_model.specs.Snapshot.{call_of, is_possible}
use Rattle.plain_plan.specs.Openings.{IsFound}
use Rattle.plain_plan.proofs.choosing.best_car.Given as goal

abbrev pub invariant-loop-car : goal.invariant-loop-car
invariant-loop-car l = IsFound (λ c. is_possible l.snapshot c (call_of l.snapshot l.call)) l.car l.best
