use Rattle.std.proofs.Common.{◌^◌}
use Rattle.search_model.specs.declared.PriceOf.{PriceOf}
use Rattle.kept_tours.proofs.EntryLemmas.{SumsTo}
use Rattle.kept_tours.proofs.entries.sum_of_prices.Given as goal

abbrev pub invariant-loop-entry : goal.invariant-loop-entry
invariant-loop-entry l = SumsTo (λ (p : PriceOf). p.price) l.entries (10 ^ 24) l.entry-index l.sum
