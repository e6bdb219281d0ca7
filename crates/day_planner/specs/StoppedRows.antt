-- Which of the rows of a day was stopped by a limit.
use Rattle.std.specs.Prelude.{◌≡◌, ℕ, ◌<◌, List, [], ◌∷◌, ◌++◌, Option}
use Rattle.elevator_model.specs.Snapshot.{Snapshot}
use Rattle.search_model.specs.declared.Event.{Event}
use Rattle.search_model.specs.declared.Stated.{Stated}
use Rattle.search_model.specs.Days.{Day, Row}
use Rattle.search_model.specs.Days.RowLog.{Accepted}
use Rattle.day_simulator.specs.Rows.{DoesRow, next_step}
use Rattle.day_simulator.specs.RowRuns.{Right, AreRowsDone}

-- Rows were done that led from one day to another and wrote this text, and one of them was accepted with a bound below its
-- cost, in a snapshot for which the limits are not enough.
pub record IsStoppedIn (right : Right) (AreEnough : Snapshot → Type 0) (first : Day) (rows : List (Option Row)) (last : Day) (text : List ℕ) : Type 0 where
  -- the row, and those before and after it
  pub earlier : List (Option Row)
  pub row : Option Row
  pub later : List (Option Row)
  pub rows_are : rows ≡ earlier ++ row ∷ later
  -- the lines of each
  pub lines_before : List ℕ
  pub lines : List ℕ
  pub lines_after : List ℕ
  pub text_is : text ≡ lines_before ++ (lines ++ lines_after)
  -- the day before the row and the day after it
  pub before : Day
  pub after : Day
  -- what was printed for it
  pub number : ℕ
  pub events : List Event
  pub printed : Stated
  pub proof : List ℕ
  pub earlier_done : AreRowsDone right first earlier before lines_before
  pub row_done : DoesRow right before row after [] lines printed proof
  pub accepted : (next_step before row printed).log ≡ Accepted number events printed
  pub later_done : AreRowsDone right after later last lines_after
  pub unsolved : printed.bound < printed.cost
  pub not_enough : AreEnough after.world.snapshot → ⊥
