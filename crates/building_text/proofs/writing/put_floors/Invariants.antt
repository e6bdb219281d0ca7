use Rattle.std.proofs.Common.{◌≡◌, ◌++◌}
use Rattle.std.specs.List.{flat_map}
use Rattle.building_text.specs.Written.{floors_in}
use Rattle.lift_text.specs.Text.{word}
use Rattle.building_text.proofs.writing.put_floors.Given as goal

abbrev pub invariant-loop-floor : goal.invariant-loop-floor
invariant-loop-floor l = l.out.items ≡ l.fn.out.items ++ flat_map word (floors_in l.floor l.set)
