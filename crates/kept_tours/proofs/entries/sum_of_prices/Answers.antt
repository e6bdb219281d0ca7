use Rattle.std.proofs.Common.{ap, ◌∙◌, arith, ◌^◌}
use Rattle.std.proofs.lemmas.Int.{ints}
use Rattle.search_model.specs.declared.PriceOf.{PriceOf}
use Rattle.kept_tours.proofs.EntryLemmas.{sums_more, sums_to_all}
use Rattle.kept_tours.proofs.entries.sum_of_prices.Goals as goal

pub loop-entry-preserved : goal.loop-entry-preserved
loop-entry-preserved c =
    let lt = c.loop-entry-test.true in
    let few = c.requires in
    let range = c.value-sum.ensures.range in
    let value = c.value-sum.ensures.value in
    let low = range.0 in
    let high = range.1 in
    sums_more (λ (p : PriceOf). p.price) c.args.entries.now (10 ^ 24) c.loop-entry.entry-index _ c.value-sum.result c.entry-item.result lt (omega arith)
    (omega (arith, lt, few)) (omega (arith, lt, few)) (value ∙ ap (λ (p : PriceOf). p.price) c.entry-item.is) (omega (arith, ints, low, value))
    (omega (arith, ints, high, value)) c.loop-entry.invariant

pub returns-clause-sum : goal.returns-clause-sum
returns-clause-sum c = sums_to_all (λ (p : PriceOf). p.price) c.args.entries.now
    (10 ^ 24) c.loop-entry.entry-index _ c.loop-entry.invariant c.loop-entry-test.false
