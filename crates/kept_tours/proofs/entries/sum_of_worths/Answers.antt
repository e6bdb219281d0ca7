use Rattle.std.proofs.Common.{refl, arith, pos, ◌^◌}
use Rattle.std.proofs.lemmas.List.Elements.{All-get_or}
use Rattle.search_model.specs.declared.WorthOf.{WorthOf}
use Rattle.kept_tours.specs.Leaves.{HasWorthSize}
use Rattle.kept_tours.proofs.EntryLemmas.{sums_more, sums_to_all}
use Rattle.kept_tours.proofs.entries.sum_of_worths.Goals as goal

pub loop-entry-preserved : goal.loop-entry-preserved
loop-entry-preserved c =
    let lt = c.loop-entry-test.true in
    let few = c.requires.few in
    let d : WorthOf = record { car = 0; worth = pos 0; claim = 0 } in
    let size = All-get_or HasWorthSize c.args.entries.now c.loop-entry.entry-index d lt c.requires.sizes in
    let low = size.0 in
    let high = size.1 in
    sums_more (λ (w : WorthOf). w.worth) c.args.entries.now (10 ^ 27) c.loop-entry.entry-index _ _ d lt (omega arith) (omega (arith, lt, few))
    (omega (arith, lt, few)) refl low high c.loop-entry.invariant

pub returns-clause-sum : goal.returns-clause-sum
returns-clause-sum c = sums_to_all (λ (w : WorthOf). w.worth) c.args.entries.now
    (10 ^ 27) c.loop-entry.entry-index _ c.loop-entry.invariant c.loop-entry-test.false
