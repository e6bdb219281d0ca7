use Rattle.car_layout.specs.Layouts.{is_earlier}
use Rattle.car_layout.specs.Tables.{IsTable}
use Rattle.car_layout.proofs.scans.earlier_table.Given as goal

abbrev pub invariant-loop-j : goal.invariant-loop-j
invariant-loop-j l = IsTable l.j (is_earlier l.snapshot) l.sets.items
