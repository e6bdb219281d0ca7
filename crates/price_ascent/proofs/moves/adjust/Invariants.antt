-- The prices so far are moved, and the others as they were.
use Rattle.std.proofs.Common.{◌≡◌, ◌<◌, ◌≤◌, ℕ, pos, ◌+ℤ◌, ◌-ℤ◌, ◌*ℤ◌, slice_index}
use Rattle.search_model.specs.Prices.{price_at}
use Rattle.price_scale.specs.Scale.{cut}
use Rattle.price_ascent.proofs.moves.adjust.Given as goal

abbrev pub invariant-loop-call : goal.invariant-loop-call
invariant-loop-call l = record {
  moved : (j : ℕ) → j < l.call → price_at l.prices j ≡ cut (price_at l.initial.prices j +ℤ (l.step *ℤ (pos 1 -ℤ pos (slice_index l.counts j))));
  others : (j : ℕ) → l.call ≤ j → price_at l.prices j ≡ price_at l.initial.prices j;
}
