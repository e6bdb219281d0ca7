-- The nearest of the cars so far.
use Rattle.what_if.specs.WhatIf.{takes_asked}
use Rattle.what_if.specs.Ends.{IsFirstLeast, distance_key}
use Rattle.what_if.proofs.nearest.first_nearest.Given as goal

abbrev pub invariant-loop-car : goal.invariant-loop-car
invariant-loop-car l = IsFirstLeast (takes_asked l.snapshot) (distance_key l.snapshot) l.car l.nearest
