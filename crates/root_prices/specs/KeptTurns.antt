-- Turns at the root, one after another, and what is kept of them.
use Rattle.std.specs.Prelude.{◌≡◌, ℕ, ◌+◌, ◌≤◌, List, length}
use Rattle.elevator_model.specs.Snapshot.{Snapshot, car_count}
use Rattle.elevator_model.specs.Plans.{IsFeasiblePlan}
use Rattle.search_model.specs.declared.TurnOf.{TurnOf}
use Rattle.restricted_master.specs.Pools.{tours_of_car}
use Rattle.search_tree.specs.Sheets.{AreTurnSizes, PriceSheet, better_of, sheet_of_turn}
use Rattle.root_turns.specs.Pools.{AreToursOf, with_turn}
use Rattle.root_turns.specs.Series.{CanPush, HasPushed, IsTurnSeries}
use Rattle.root_prices.specs.declared.kept.KeptTurns.{KeptTurns}
use Rattle.root_prices.specs.ListedTours.{HoldTours}
use Rattle.root_prices.specs.RootAnswers.{IsBestSheet}

-- The turns so far, which began with these prices and worths.
pub record AreKept (s : Snapshot) (most_tours : ℕ) (first : PriceSheet) (x : KeptTurns) : Type 0 where
  pub snapshot : x.pool.snapshot ≡ s
  pub feasible : IsFeasiblePlan s x.start.now
  pub tours : HoldTours s x.start.now x.series.turns.items x.pool.tours
  pub few : (c : ℕ) → length (tours_of_car x.pool c) ≤ 1 + length x.series.turns.items
  pub sheet : IsBestSheet s first x.series.turns.items x.sheet
  pub series : IsTurnSeries s most_tours first.prices x.series

-- the pricings of all cars may be taken in
pub record CanTake (x : KeptTurns) (cars : List TurnOf) : Type 0 where
  pub count : length cars ≡ car_count x.pool.snapshot
  pub tours : AreToursOf x.pool.snapshot cars
  pub sizes : AreTurnSizes cars
  pub push : CanPush x.series cars

-- their tours and their worths were kept
pub record HasKept (old new : KeptTurns) (cars : List TurnOf) : Type 0 where
  pub start : new.start.now ≡ old.start.now
  pub series : new.series ≡ old.series
  pub pool : new.pool ≡ with_turn old.pool 0 cars
  pub pools : length old.pool.tours ≡ car_count old.pool.snapshot
  pub sheet : new.sheet ≡ better_of old.sheet (sheet_of_turn old.series.prices.items cars)

-- and their turn was put after the others
pub record HasTaken (old new : KeptTurns) (cars : List TurnOf) : Type 0 where
  pub start : new.start.now ≡ old.start.now
  pub pushed : HasPushed old.series new.series cars
  pub pool : new.pool ≡ with_turn old.pool 0 cars
  pub pools : length old.pool.tours ≡ car_count old.pool.snapshot
  pub sheet : new.sheet ≡ better_of old.sheet (sheet_of_turn old.series.prices.items cars)
