-- The choices of the cars so far.
use Rattle.std.proofs.Common.{◌≡◌, ◌<◌, ℕ, length}
use Rattle.std.specs.List.{All}
use Rattle.half_plans.specs.Choosing.{CarPairs}
use Rattle.half_plans.specs.PairPlans.{list_of}
use Rattle.half_plans.specs.Choices.{AreCandidates, candidates_of}
use Rattle.car_search.specs.Choosing.{IsRising}
use Rattle.half_plans.specs.Priced.{IsPriced}
use Rattle.half_plans.proofs.pairing.choices.Given as goal

abbrev pub invariant-loop-car : goal.invariant-loop-car
invariant-loop-car l = record {
  counted : length l.choices.items ≡ l.car;
  priced : All (IsPriced l.prices) l.choices.items;
  rising : All (λ (x : CarPairs). IsRising x.candidates.items) l.choices.items;
  each : (c : ℕ) → c < l.car → AreCandidates l.pool.snapshot c (list_of l.pool.tours c) (candidates_of l.choices.items c);
}
