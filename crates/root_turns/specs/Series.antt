-- Turns at the root, one after another, and the prices of the next one.
use Rattle.std.specs.Prelude.{◌≡◌, ℕ, ◌+◌, ◌/◌, ◌<◌, ◌≤◌, ◌^◌, ℤ, pos, ◌≤ℤ◌, List, [], ◌∷◌, ◌++◌, length}
use Rattle.elevator_model.specs.Snapshot.{Snapshot, call_count}
use Rattle.search_model.specs.declared.TurnOf.{TurnOf}
use Rattle.search_model.specs.Prices.{price_at}
use Rattle.search_model.specs.Solving.{AreRootTurns, greatest_price}
use Rattle.root_turns.specs.declared.series.TurnSeries.{TurnSeries}
use Rattle.root_turns.specs.Dues.{due_prices, turn_with}
use Rattle.root_turns.specs.Turns.{BoardBelow, moved_price}

-- Turns at the root that began with these prices, and the prices that are due after them.
pub record IsTurnSeries (s : Snapshot) (most_tours : ℕ) (start : List ℤ) (x : TurnSeries) : Type 0 where
  pub root_turns : AreRootTurns s most_tours start x.turns.items
  pub due : x.prices.items ≡ due_prices s start x.turns.items
  pub calls : length x.prices.items ≡ call_count s
  pub step : x.step ≡ pos (greatest_price start)
  pub small : x.step ≤ℤ pos (10 ^ 24)

-- the turn of these pricings may be put after the others
pub record CanPush (x : TurnSeries) (cars : List TurnOf) : Type 0 where
  pub few : length cars ≤ 16
  pub boards : BoardBelow cars
  pub calls : length x.prices.items ≤ 128
  pub low : pos 0 ≤ℤ x.step
  pub high : x.step ≤ℤ pos (10 ^ 24)

-- it was, and the prices went on
pub record HasPushed (old new : TurnSeries) (cars : List TurnOf) : Type 0 where
  pub turns : new.turns.items ≡ old.turns.items ++ turn_with old.prices.items cars ∷ []
  pub step : new.step ≡ old.step
  pub count : length new.prices.items ≡ length old.prices.items
  pub each : (most : ℕ) → old.step ≡ pos most → (j : ℕ) → j < length old.prices.items
      → price_at new.prices.items j ≡ moved_price old.prices.items (pos (most / (length old.turns.items + 1))) cars j
