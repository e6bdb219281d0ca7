use Rattle.std.proofs.Common.{◌^◌}
use Rattle.search_model.specs.declared.WorthOf.{WorthOf}
use Rattle.kept_tours.proofs.EntryLemmas.{SumsTo}
use Rattle.kept_tours.proofs.entries.sum_of_worths.Given as goal

abbrev pub invariant-loop-entry : goal.invariant-loop-entry
invariant-loop-entry l = SumsTo (λ (w : WorthOf). w.worth) l.entries (10 ^ 27) l.entry-index l.sum
