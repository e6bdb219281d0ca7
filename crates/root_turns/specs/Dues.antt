-- The prices that are due after some turns.
use Rattle.std.specs.Prelude.{ℕ, ◌+◌, ℤ, ◌≤ℤ◌, List, [], ◌∷◌}
use Rattle.elevator_model.specs.Snapshot.{Snapshot}
use Rattle.search_model.specs.declared.Turn.{Turn}
use Rattle.search_model.specs.declared.TurnOf.{TurnOf}
use Rattle.search_model.specs.Solving.{prices_after, sum_of_turn}

-- the prices after the last turn, which is turn i
abbrev pub due_from : Snapshot → (start : List ℤ) → ℕ → Turn → List Turn → List ℤ
due_from s start i turn [] = prices_after s start i turn
due_from s start i turn (next ∷ turns) = due_from s start (i + 1) next turns

-- the prices of the turn that comes after these
abbrev pub due_prices : Snapshot → (start : List ℤ) → List Turn → List ℤ
due_prices s start [] = start
due_prices s start (turn ∷ turns) = due_from s start 1 turn turns

-- the prices of the first turn
abbrev pub start_of_turns : List Turn → (prices : List ℤ) → List ℤ
start_of_turns [] prices = prices
start_of_turns (turn ∷ turns) prices = turn.prices

-- the turn's sum is no greater
abbrev pub IsTurnBelow : ℤ → Turn → Type 0
IsTurnBelow z turn = sum_of_turn turn ≤ℤ z

-- a turn at these prices
abbrev pub turn_with : List ℤ → List TurnOf → Turn
turn_with prices cars = record { prices = prices; cars = cars }
