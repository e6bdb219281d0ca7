use Rattle.car_layout.specs.Layouts.{fits_in}
use Rattle.car_layout.specs.Tables.{IsTable}
use Rattle.car_layout.proofs.scans.fitting_table.Given as goal

abbrev pub invariant-loop-persons : goal.invariant-loop-persons
invariant-loop-persons l = IsTable l.persons (fits_in l.snapshot) l.sets.items
