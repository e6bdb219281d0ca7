use Rattle.std.proofs.Common.{◌∙◌, cond, pos, sym, arith}
use Rattle.std.proofs.lemmas.Int.{ints}
use Rattle.std.proofs.lemmas.Bool.{cond-true, cond-false}
use Rattle.std.proofs.lemmas.List.{get_or_read}
use Rattle.call_sets.specs.Counting.{has}
use Rattle.search_model.specs.Prices.{price_at}
use Rattle.half_plans.proofs.NumberLemmas.{int_sum-more}
use Rattle.half_plans.proofs.candidates.prices_of.Goals as goal
use Rattle.half_plans.proofs.candidates.prices_of.Goals.{then-contains, else-contains}

pub loop-call-preserved : goal.loop-call-preserved
loop-call-preserved c =
    let prices = c.args.prices.now in
    let call = c.loop-call.call in
    let sum = c.loop-call.invariant.sum in
    let low = c.loop-call.invariant.low in
    let high = c.loop-call.invariant.high in
    let few = c.requires in
    let lt = c.loop-call-test.true in
    let before = c.loop-call.sum-is in
    let more = int_sum-more call (λ k. cond (has c.args.calls k) (price_at prices k) (pos 0)) in
    let after = c.if-contains.sum-is in
    elim c.if-contains.branch [
      | then-contains w ↦ (
          let at = get_or_read prices call w.index-prices-call.result lt w.index-prices-call.is (pos 0) in
          let paid = cond-true (has c.args.calls call) (price_at prices call) (pos 0) (sym c.contains.ensures ∙ w.if-contains.true) in
          let value = w.value-sum.ensures.value in
          let least = w.value-sum.ensures.range.0 in
          let most = w.value-sum.ensures.range.1 in
          let is = w.sum-is in
          record {
            sum = omega (arith, ints, sum, more, at, paid, value, is, before, after, low, high, least, most, few, lt);
            low = omega (arith, ints, value, is, before, after, low, high, least, most, few, lt);
            high = omega (arith, ints, value, is, before, after, low, high, least, most, few, lt);
          })
      | else-contains w ↦ (
          let free = cond-false (has c.args.calls call) (price_at prices call) (pos 0) (sym c.contains.ensures ∙ w.if-contains.false) in
          let is = w.sum-is in
          record {
            sum = omega (arith, ints, sum, more, free, is, before, after, low, high, few, lt);
            low = omega (arith, ints, is, before, after, low, high, few, lt);
            high = omega (arith, ints, is, before, after, low, high, few, lt);
          })
    ]
