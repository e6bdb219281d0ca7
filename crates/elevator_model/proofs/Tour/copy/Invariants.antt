use Rattle.std.proofs.Common.{◌≡◌, take}
use Rattle.elevator_model.proofs.Tour.copy.Given as goal

abbrev pub invariant-loop-stop : goal.invariant-loop-stop
invariant-loop-stop l = l.stops.items ≡ take l.stop-index l.stop-items
