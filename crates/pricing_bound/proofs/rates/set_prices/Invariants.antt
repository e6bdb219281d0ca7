-- The calls below this one have their new prices.
use Rattle.std.proofs.Common.{◌≡◌, length, map, take}
use Rattle.elevator_model.specs.Snapshot.{Snapshot}
use Rattle.pricing_bound.specs.declared.rates.Rate.{Rate}
use Rattle.pricing_bound.specs.Rates.{AreRates}
use Rattle.pricing_bound.proofs.rates.set_prices.Given as goal

abbrev pub invariant-loop-j : goal.invariant-loop-j
invariant-loop-j l = record {
  size : length l.prices ≡ length l.rates;
  prices : map (λ (rate : Rate). rate.price) (take l.j l.rates) ≡ take l.j l.prices;
  rates : (s : Snapshot) → AreRates s l.fn.rates → AreRates s l.rates;
}
