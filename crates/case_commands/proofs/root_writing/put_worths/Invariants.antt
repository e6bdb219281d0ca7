use Rattle.std.proofs.Common.{◌≡◌, ◌++◌}
use Rattle.case_commands.specs.RootTexts.{worth_lines}
use Rattle.case_commands.proofs.root_writing.put_worths.Given as goal

abbrev pub invariant-loop-car : goal.invariant-loop-car
invariant-loop-car l = l.out.items ≡ l.initial.out.items ++ worth_lines l.snapshot l.worths l.car
