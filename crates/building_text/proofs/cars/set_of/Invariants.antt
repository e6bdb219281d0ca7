use Rattle.std.proofs.Common.{◌≡◌, drop}
use Rattle.building_text.specs.Words.{set_of}
use Rattle.building_text.proofs.cars.set_of.Given as goal

abbrev pub invariant-loop-floor : goal.invariant-loop-floor
invariant-loop-floor l = set_of l.set (drop l.floor-index l.floors) ≡ set_of 0 l.floors
