-- The price of each entry so far stands in the place of its call.
use Rattle.std.proofs.Common.{◌≡◌, ℕ, length, pos, ℤ}
use Rattle.search_model.specs.declared.PriceOf.{PriceOf}
use Rattle.kept_tours.specs.Leaves.{price_among}
use Rattle.kept_tours.proofs.EntryLemmas.{Written}
use Rattle.kept_tours.proofs.entries.write_prices.Given as goal

abbrev pub invariant-loop-entry : goal.invariant-loop-entry
invariant-loop-entry l = record {
  size : length l.prices ≡ length l.initial.prices;
  written : Written (λ (p : PriceOf). p.call) (λ (j : ℕ) (z : ℤ). z ≡ price_among l.entries j) l.entries l.prices (pos 0) l.entry-index;
}
