-- What is told of the rows of a day one by one: that no call is lost after any of them.
use Rattle.std.specs.Prelude.{◌≡◌, ℕ, List, [], ◌∷◌, ◌++◌, Option, IsTrue}
use Rattle.search_model.specs.Days.{Day, Row, loses_none}
use Rattle.day_simulator.specs.Rows.{IsRowDone}
use Rattle.day_simulator.specs.RowRuns.{Right}

-- The rows were done one after another, and after each of them every call that was accepted is open, aboard a car or
-- delivered, and only one of these.
abbrev pub AreRowsKept : Right → Day → List (Option Row) → Day → (text : List ℕ) → Type 0
AreRowsKept right old [] new text = (new ≡ old) × (text ≡ [])
AreRowsKept right old (said ∷ rows) new text =
    (between : Day) × (first : List ℕ) × (rest : List ℕ) × IsRowDone right old said between [] first × IsTrue (loses_none between)
    × AreRowsKept right between rows new rest × (text ≡ first ++ rest)
