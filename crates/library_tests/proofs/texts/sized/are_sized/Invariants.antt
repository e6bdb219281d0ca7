use Rattle.std.proofs.Common.{take}
use Rattle.std.specs.List.{All}
use Rattle.kept_tours.specs.Leaves.{HasWorthSize}
use Rattle.library_tests.proofs.texts.sized.are_sized.Given as goal

abbrev pub invariant-loop-entry : goal.invariant-loop-entry
invariant-loop-entry l = All HasWorthSize (take l.entry-index l.worths)
