use Rattle.car_layout.specs.Layouts.{starts_at}
use Rattle.car_layout.specs.Tables.{IsTable}
use Rattle.car_layout.proofs.scans.starting_table.Given as goal

abbrev pub invariant-loop-floor : goal.invariant-loop-floor
invariant-loop-floor l = IsTable l.floor (starts_at l.snapshot) l.sets.items
