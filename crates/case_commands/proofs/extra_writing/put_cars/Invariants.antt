-- The lines of the cars so far.
use Rattle.std.proofs.Common.{◌≡◌, ◌++◌}
use Rattle.case_commands.specs.WhatIfOutcome.{car_lines}
use Rattle.case_commands.proofs.extra_writing.put_cars.Given as goal

abbrev pub invariant-loop-car : goal.invariant-loop-car
invariant-loop-car l = l.out.items ≡ l.initial.out.items ++ car_lines l.snapshot l.extras l.car
