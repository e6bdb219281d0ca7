use Rattle.std.proofs.Common.{◌≡◌, drop}
use Rattle.search_tree.specs.Branches.{first_spent}
use Rattle.search_tree.proofs.branches.first_spent_of.Given as goal

abbrev pub invariant-loop-car : goal.invariant-loop-car
invariant-loop-car l = first_spent l.car (drop l.car l.cars) ≡ first_spent 0 l.cars
