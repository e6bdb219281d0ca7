use Rattle.std.proofs.Common.{◌∙◌, ℕ, length, ap, arith}
use Rattle.std.proofs.lemmas.Int.{ints}
use Rattle.call_sets.specs.Counting.{members}
use Rattle.search_model.specs.Sums.{int_sum_by}
use Rattle.search_model.specs.Prices.{price_at}
use Rattle.restricted_master.proofs.PriceLemmas.{prices_to_come, members_few}
use Rattle.restricted_master.proofs.prices.prices_of.Goals as goal

pub loop-call-init : goal.loop-call-init
loop-call-init c =
    let prices = c.args.prices.now in
    let left = ap (λ it. it.left) c.into_iter-call-iterator.ensures.into_iter_gives ∙ c.iter-call-items.ensures in
    let all = prices_to_come prices c.args.calls c.requires in
    let same = ap (λ (s : ℕ). int_sum_by (price_at prices) (members 128 s)) left in
    let few = members_few c.into_iter-call-iterator.result.left in
    record {
      few = few;
      sum = omega (arith, ints, all, same);
      low = omega (arith, ints);
      high = omega (arith, ints);
    }

pub loop-call-preserved : goal.loop-call-preserved
loop-call-preserved c =
    let price = price_at c.args.prices.now in
    let few = c.loop-call.invariant.few in
    let sum = c.loop-call.invariant.sum in
    let low = c.loop-call.invariant.low in
    let high = c.loop-call.invariant.high in
    let steps = c.in-Some.ensures.steps in
    let less = ap length steps in
    let later = ap (int_sum_by price) steps in
    let is = c.price_of-sum.ensures.value in
    let least = c.price_of-sum.ensures.range.0 in
    let most = c.price_of-sum.ensures.range.1 in
    record {
      few = omega (arith, few, less);
      sum = omega (arith, ints, sum, later, is, low, high, least, most, few, less);
      low = omega (arith, ints, low, high, least, most, few, less);
      high = omega (arith, ints, low, high, least, most, few, less);
    }
