use Rattle.std.proofs.Common.{subst}
use Rattle.pricing_bound.specs.Rates.{ArePrices}
use Rattle.pricing_bound.proofs.RateLemmas.{prices_are}
use Rattle.pricing_bound.proofs.rates.Rates.snapshot.Goals as goal

pub returns-clause-prices : goal.returns-clause-prices
returns-clause-prices c = subst ArePrices c.self.view_is (λ j. prices_are c.self.inside.snapshot.now c.self.inside.rates.items j c.self.invariant.1)
