use Rattle.std.proofs.Common.{◌≡◌, ◌+◌, ◌*◌, ◌-◌, ◌++◌, ◌∷◌, [], length}
use Rattle.std.specs.Option.{IfSome}
use Rattle.elevator_model.specs.Partial.{IsLawful}
use Rattle.lift_bench.proofs.lists.pricings.begun.count_from.Given as goal

abbrev pub invariant-loop-seen : goal.invariant-loop-seen
invariant-loop-seen l = record {
  same : l.prefix.snapshot ≡ l.initial.prefix.snapshot;
  lawful : IfSome l.next (λ m. IsLawful l.prefix.snapshot l.prefix.car (l.prefix.moves ++ m ∷ []));
}

abbrev pub decreases-loop-seen : goal.decreases-loop-seen
decreases-loop-seen l = 451 * (200000 - l.seen) + length l.prefix.moves
