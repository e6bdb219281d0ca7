-- The states of the cars so far.
use Rattle.std.proofs.Common.{◌≡◌, take}
use Rattle.what_if.proofs.variants.states_of.Given as goal

abbrev pub invariant-loop-car : goal.invariant-loop-car
invariant-loop-car l = l.states.items ≡ take l.car l.snapshot.states
