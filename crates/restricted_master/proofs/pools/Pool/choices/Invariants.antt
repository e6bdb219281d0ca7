-- The choices of the cars so far.
use Rattle.std.proofs.Common.{◌≡◌, ◌<◌, ℕ, length, get_or}
use Rattle.std.specs.List.{All}
use Rattle.restricted_master.specs.Choosing.{CarColumns}
use Rattle.restricted_master.specs.Pools.{tours_of_car}
use Rattle.restricted_master.specs.Choices.{AreCandidates}
use Rattle.car_search.specs.Choosing.{IsRising}
use Rattle.restricted_master.specs.Priced.{IsPriced}
use Rattle.restricted_master.proofs.pools.Pool.choices.Given as goal

abbrev pub invariant-loop-car : goal.invariant-loop-car
invariant-loop-car l = record {
  counted : length l.choices.items ≡ l.car;
  priced : All (IsPriced l.prices) l.choices.items;
  rising : All (λ (x : CarColumns). IsRising x.candidates.items) l.choices.items;
  each : (c : ℕ) (d : CarColumns) → c < l.car → AreCandidates l.self.snapshot c (tours_of_car l.self c) (get_or l.choices.items c d).candidates.items;
}
