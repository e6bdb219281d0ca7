use Rattle.std.proofs.Common.{◌≡◌, ◌<◌, ◌≤◌, ℕ, length, slice_index}
use Rattle.root_turns.specs.Turns.{boards_of_cars}
use Rattle.root_turns.proofs.turns.boards_counts.Given as goal

abbrev pub invariant-loop-call : goal.invariant-loop-call
invariant-loop-call l =
    record {
      count : length l.counts.items ≡ l.call;
      each : (j : ℕ) → j < l.call → slice_index l.counts.items j ≡ boards_of_cars l.cars j;
      few : (j : ℕ) → slice_index l.counts.items j ≤ 16;
    }
