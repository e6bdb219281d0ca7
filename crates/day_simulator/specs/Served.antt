-- That each accepted call of rows that were done boards once and is delivered once, by the events in their lines.
use Rattle.std.specs.Prelude.{ℕ, List, [], ◌∷◌, ◌++◌, Option, All}
use Rattle.search_model.specs.declared.Event.{Event}
use Rattle.search_model.specs.Advancing.{last_events}
use Rattle.search_model.specs.Days.{Day, Row, calls_at_end}
use Rattle.day_laws.specs.Once.{IsServedOnce, events_of_log}
use Rattle.day_simulator.specs.Rows.{next_step}
use Rattle.day_simulator.specs.RowRuns.{Right, AreRowsDone}

-- the events in the lines of rows that were done, in their order
abbrev pub events_of_rows : (right : Right) (old : Day) (rows : List (Option Row)) (new : Day) (text : List ℕ) → AreRowsDone right old rows new text
    → List Event
events_of_rows right old [] new text done = []
events_of_rows right old (said ∷ rows) new text done =
    events_of_log (next_step old said done.3.0).log ++ events_of_rows right done.0 rows new done.2 done.4

-- By these events, and those of the last plan to its end, each accepted call boards once and is delivered once: not before
-- its release, and not before it boards. These two moments are what is told of it.
abbrev pub AreServedOnce : (right : Right) (old : Day) (rows : List (Option Row)) (new : Day) (text : List ℕ) → AreRowsDone right old rows new text → Type 0
AreServedOnce right old rows new text done =
    All (IsServedOnce (events_of_rows right old rows new text done ++ last_events new.world)) (calls_at_end new)
