use Rattle.std.proofs.Common.{◌≡◌, ◌*◌, ◌^◌, take, pos, neg_ℤ, ◌≤ℤ◌}
use Rattle.price_scale.specs.Scale.{price_sum}
use Rattle.price_scale.proofs.sum_prices.Given as goal

abbrev pub invariant-loop-price : goal.invariant-loop-price
invariant-loop-price l =
    record {
      sum : l.sum ≡ price_sum (take l.price-index l.prices);
      low : neg_ℤ (pos (10 ^ 24 * l.price-index)) ≤ℤ l.sum;
      high : l.sum ≤ℤ pos (10 ^ 24 * l.price-index);
    }
