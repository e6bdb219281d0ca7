-- How prices move from one turn to the next.
use Rattle.std.specs.Prelude.{◌≡◌, ◌<◌, ℕ, ℤ, pos, true, length, slice_index_or, IfSome, ◌+ℤ◌, ◌-ℤ◌, ◌*ℤ◌, List, count_by}
use Rattle.elevator_model.specs.declared.Stop.{Stop}
use Rattle.elevator_model.specs.Plans.{is_boarded_in}
use Rattle.search_model.specs.declared.TurnOf.{TurnOf}
use Rattle.search_model.specs.Prices.{price_at}
use Rattle.price_scale.specs.Scale.{cut}
use Rattle.search_model.specs.Solving.{boards_in, no_turn}

-- calls below 128 board alone
abbrev pub BoardsBelow : List Stop → Type 0
BoardsBelow tour = (j : ℕ) → is_boarded_in tour j ≡ true → j < 128

abbrev pub BoardBelow : List TurnOf → Type 0
BoardBelow cars = (c : ℕ) → c < length cars → IfSome (slice_index_or cars c no_turn).tour BoardsBelow

-- in how many of the tours the call boards
abbrev pub boards_of_cars : List TurnOf → ℕ → ℕ
boards_of_cars cars j = count_by (λ (t : TurnOf). boards_in t.tour j) cars

-- the price of the call in the next turn
abbrev pub moved_price : (prices : List ℤ) → (step : ℤ) → List TurnOf → ℕ → ℤ
moved_price prices step cars j = cut (price_at prices j +ℤ (step *ℤ (pos 1 -ℤ pos (boards_of_cars cars j))))
