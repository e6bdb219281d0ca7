use Rattle.pricing_bound.proofs.RateLemmas.{stored_in_range}
use Rattle.pricing_bound.proofs.rates.Rate.at_price.Goals as goal

pub returns-clause-rate : goal.returns-clause-rate
returns-clause-rate c = λ s j is. record {
  cost = is.cost;
  alone = is.alone;
  wait = is.wait;
  over = is.over;
  travel = is.travel;
  to = is.to;
  ride = is.ride;
  ordered = is.ordered;
  early = is.early;
  price = stored_in_range c.args.price c.requires.price;
  below = c.below_price.ensures;
}
