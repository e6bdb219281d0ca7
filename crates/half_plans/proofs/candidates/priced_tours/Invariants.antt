-- The tours so far.
use Rattle.std.proofs.Common.{◌≡◌, ◌<◌, ℕ, length, get_or}
use Rattle.half_plans.specs.declared.candidates.PricedTour.{PricedTour}
use Rattle.half_plans.specs.PairPlans.{list_of, tour_at}
use Rattle.half_plans.specs.Priced.{IsPricedTour}
use Rattle.half_plans.proofs.candidates.priced_tours.Given as goal

abbrev pub invariant-loop-place : goal.invariant-loop-place
invariant-loop-place l = record {
  counted : length l.tours.items ≡ l.place;
  each : (k : ℕ) (d : PricedTour) → k < l.place
      → IsPricedTour l.pool.snapshot l.car l.prices (tour_at (list_of l.pool.tours l.car) k) (get_or l.tours.items k d);
}
