-- The tours of the cars so far.
use Rattle.std.proofs.Common.{◌≡◌, ◌<◌, ℕ, length, get_or}
use Rattle.elevator_model.specs.Plans.{tour_of}
use Rattle.restricted_master.specs.Choosing.{CarColumns}
use Rattle.car_search.specs.Choosing.{picks}
use Rattle.restricted_master.specs.Choosing.{candidate_at}
use Rattle.restricted_master.specs.Pools.{tours_of_car}
use Rattle.restricted_master.specs.Choices.{tour_at}
use Rattle.restricted_master.proofs.pools.Pool.plan_of.Given as goal

abbrev pub invariant-loop-car : goal.invariant-loop-car
invariant-loop-car l = record {
  counted : length l.plan ≡ l.car;
  tours : (c : ℕ) (d : CarColumns) → c < l.car
      → tour_of l.plan c ≡ tour_at (tours_of_car l.self c) (candidate_at (get_or l.choices c d).candidates.items (picks l.picked c)).item;
}
