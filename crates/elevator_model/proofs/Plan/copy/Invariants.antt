use Rattle.std.proofs.Common.{◌≡◌, take}
use Rattle.elevator_model.proofs.Plan.copy.Given as goal

abbrev pub invariant-loop-tour : goal.invariant-loop-tour
invariant-loop-tour l = l.tours.items ≡ take l.tour-index l.tour-items
