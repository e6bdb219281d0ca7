use Rattle.std.proofs.Common.{◌≤◌, ◌+◌, ◌*◌, ◌-◌, ◌++◌, ◌∷◌, [], length}
use Rattle.std.specs.Option.{IfSome}
use Rattle.elevator_model.specs.Partial.{IsLawful}
use Rattle.library_tests.proofs.plans.walks.walk_from.Given as goal

abbrev pub invariant-loop-seen : goal.invariant-loop-seen
invariant-loop-seen l = record {
  ended : l.seen.ended ≤ l.seen.tours;
  lawful : IfSome l.next (λ m. IsLawful l.prefix.snapshot l.prefix.car (l.prefix.moves ++ m ∷ []));
}

abbrev pub decreases-loop-seen : goal.decreases-loop-seen
decreases-loop-seen l = 451 * (20000 - l.seen.tours) + length l.prefix.moves
