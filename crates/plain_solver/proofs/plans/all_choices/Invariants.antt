-- The choices of the cars so far.
use Rattle.std.proofs.Common.{◌≡◌, ◌<◌, ℕ, length, slice_index_or}
use Rattle.plain_solver.specs.declared.choices.Choices.{Choices}
use Rattle.plain_solver.specs.Rests.{AreChoices}
use Rattle.plain_solver.proofs.plans.all_choices.Given as goal

abbrev pub invariant-loop-car : goal.invariant-loop-car
invariant-loop-car l = record {
  counted : length l.choices.items ≡ l.car;
  each : (c : ℕ) (d : Choices) → c < l.car
      → AreChoices l.snapshot c (slice_index_or l.choices.items c d).tours.items (slice_index_or l.choices.items c d).sums.items;
}
