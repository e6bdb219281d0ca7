-- What each entry so far states stands in the place of its car.
use Rattle.std.proofs.Common.{◌≡◌, ℕ, length}
use Rattle.search_model.specs.declared.WorthOf.{WorthOf}
use Rattle.kept_tours.specs.declared.entries.Stake.{Stake}
use Rattle.kept_tours.specs.Leaves.{no_stake, worth_among, claim_among}
use Rattle.kept_tours.proofs.EntryLemmas.{Written}
use Rattle.kept_tours.proofs.entries.write_stakes.Given as goal

abbrev pub invariant-loop-entry : goal.invariant-loop-entry
invariant-loop-entry l = record {
  size : length l.stakes ≡ length l.initial.stakes;
  written : Written (λ (w : WorthOf). w.car)
      (λ (c : ℕ) (stake : Stake). (stake.worth ≡ worth_among l.entries c) × (stake.claim ≡ claim_among l.entries c)) l.entries l.stakes no_stake l.entry-index;
}
