use Rattle.std.proofs.Common.{arith}
use Rattle.std.proofs.lemmas.Int.{ints}
use Rattle.price_scale.proofs.Sums.{price_sum_more}
use Rattle.price_scale.proofs.sum_prices.Goals as goal

pub loop-price-preserved : goal.loop-price-preserved
loop-price-preserved c = record {
  sum = omega (arith, ints, price_sum_more c.args.prices.now c.loop-price.price-index c.price-item.result c.loop-price-test.true);
  low = omega (arith, ints);
  high = omega (arith, ints);
}
