-- The rows of a day in front of its log.
use Rattle.std.specs.Prelude.{◌≡◌, ℕ, ◌+◌, ◌<◌, ◌≤◌, List, [], ◌∷◌, ◌++◌, length, map, codes, All, Option, None, Some, IfSome, IsSomeAnd, IsTrue, option_map}
use Rattle.std.specs.Prelude.{Result, Ok, Err}
use Rattle.elevator_model.specs.Building.{Building}
use Rattle.search_model.specs.Days.{Row, is_row}
use Rattle.lift_text.specs.Lines.{pieces_of, line_of}
use Rattle.lift_text.specs.Reading.{TextState}
use Rattle.lift_text.specs.declared.codes.TextCode.TheVariants.{CutShort}
use Rattle.lift_text.specs.declared.faults.TextFault.{TextFault}
use Rattle.lift_text.specs.declared.faults.TextFault.TheVariants.{Bad, NoMemory, Read, TooLong}
use Rattle.day_text.specs.declared.rows.GoodRow.{GoodRow}
use Rattle.day_text.specs.Records.{row_as_said, row_within}
use Rattle.day_laws.specs.RowLines.{rows_of, rows_of_line, rows_of_short}
use Rattle.log_rows.specs.declared.rows.Before.{Before}
use Rattle.log_rows.specs.declared.rows.Before.TheVariants.{Log, Row as RowLine}

-- ---- a row that was read

-- what it says
abbrev pub said_of : Option GoodRow → Option Row
said_of row = option_map row_as_said row

-- its numbers lie in their ranges, where it has some
abbrev pub IsGood : Building → Option GoodRow → Type 0
IsGood b row = IfSome row (λ r. IsTrue (is_row b (row_as_said r)))

-- a row whose numbers do not lie in their ranges says none
abbrev pub rows_within : Building → List (Option Row) → List (Option Row)
rows_within b rows = map (row_within b) rows

-- ---- where a log begins

-- a line that begins a log, whatever its end
abbrev pub BeginsLog : List ℕ → Type 0
BeginsLog piece = line_of piece ≡ codes "day 1"

-- From one state of a text to a later one these lines were read, and nothing else.
pub record ReadsLines (from : TextState) (front : List (List ℕ)) (to : TextState) : Type 0 where
  pub pieces : pieces_of from.bytes ≡ front ++ pieces_of to.bytes
  pub line_is : to.line ≡ from.line + length front
  pub limit_is : to.limit + length from.bytes ≡ from.limit + length to.bytes

-- Lines of which none begins a log stand in front, and these are their rows.
pub record RowsInFront (b : Building) (from : TextState) (rows : List (Option Row)) (to : TextState) : Type 0 where
  pub front : List (List ℕ)
  pub reads : ReadsLines from front to
  pub none_begins : All (λ piece. BeginsLog piece → ⊥) front
  pub rows_are : rows ≡ rows_within b (rows_of front)

-- The first line that begins a log stands behind these rows, and the log goes on behind it.
pub record RowsBeforeLog (b : Building) (from : TextState) (rows : List (Option Row)) (log : TextState) : Type 0 where
  pub here : TextState
  pub first : List ℕ
  pub front : RowsInFront b from rows here
  pub reads : ReadsLines here (first ∷ []) log
  pub begins : BeginsLog first

-- No line begins a log, and this is the number of the line behind the last.
pub record IsWithoutLog (from : TextState) (line : ℕ) : Type 0 where
  pub end : TextState
  pub front : List (List ℕ)
  pub reads : ReadsLines from front end
  pub none_begins : All (λ piece. BeginsLog piece → ⊥) front
  pub ended : end.bytes ≡ []
  pub line_is : line ≡ end.line + 1

-- the next line goes past the most bytes that may be read
pub record IsNextPast (from : TextState) : Type 0 where
  pub piece : List ℕ
  pub pieces : List (List ℕ)
  pub next : pieces_of from.bytes ≡ piece ∷ pieces
  pub past : from.limit < length piece

-- No line that may be read begins a log, and the one behind these goes past the most bytes that may be read.
pub record AreRowsPast (from : TextState) : Type 0 where
  pub here : TextState
  pub front : List (List ℕ)
  pub reads : ReadsLines from front here
  pub none_begins : All (λ piece. BeginsLog piece → ⊥) front
  pub past : IsNextPast here

-- ---- what the readers answer

-- these rows were added to those before them
abbrev pub AreAdded : Building → List (Option Row) → List (Option GoodRow) → List (Option GoodRow) → Type 0
AreAdded b said old new = map said_of new ≡ map said_of old ++ rows_within b said

-- one row more at most, whose numbers lie in their ranges
pub record Grows (b : Building) (old new : List (Option GoodRow)) : Type 0 where
  pub good : All (IsGood b) old → All (IsGood b) new
  pub few : length new ≤ length old + 1

-- what follows, where a row was to be added
abbrev pub after_added : {E : Type 0} → Result Unit E → Result Before TextFault
after_added (Ok done) = Ok RowLine
after_added (Err error) = Err NoMemory

-- one line was judged, as it stands
abbrev pub IsLineJudged : Building → List ℕ → List (Option GoodRow) → List (Option GoodRow) → Result Before TextFault → Type 0
IsLineJudged b line old new (Ok Log) = (line ≡ codes "day 1") × (new ≡ old)
IsLineJudged b line old new (Ok RowLine) = (line ≡ codes "day 1" → ⊥) × AreAdded b (rows_of_short line) old new
IsLineJudged b line old new (Err fault) = fault ≡ NoMemory

-- what is told of a text whose next line was read
abbrev pub TellsNext : TextState → TextFault → Type 0
TellsNext from (Bad line code) = (from.bytes ≡ []) × (line ≡ from.line + 1) × (code ≡ CutShort)
TellsNext from TooLong = IsNextPast from
TellsNext from Read = Unit {0}
TellsNext from NoMemory = Unit {0}

-- the next line is this one, which begins no log, and its rows were added
pub record IsRowAppended (b : Building) (from to : TextState) (old new : List (Option GoodRow)) : Type 0 where
  pub piece : List ℕ
  pub reads : ReadsLines from (piece ∷ []) to
  pub other : BeginsLog piece → ⊥
  pub added : AreAdded b (rows_of_line (line_of piece)) old new

-- the next line begins the log
pub record IsLogBegun (from to : TextState) (old new : List (Option GoodRow)) : Type 0 where
  pub piece : List ℕ
  pub reads : ReadsLines from (piece ∷ []) to
  pub begins : BeginsLog piece
  pub same : new ≡ old

abbrev pub IsNextTaken : Building → List (Option GoodRow) → List (Option GoodRow) → Option TextState → Result Before TextFault → Option TextState → Type 0
IsNextTaken b old new None answer now = Unit {0}
IsNextTaken b old new (Some from) (Ok RowLine) now = IsSomeAnd now (λ to. IsRowAppended b from to old new)
IsNextTaken b old new (Some from) (Ok Log) now = IsSomeAnd now (λ to. IsLogBegun from to old new)
IsNextTaken b old new (Some from) (Err fault) now = TellsNext from fault

-- what is told of a text whose rows were read
abbrev pub TellsRows : TextState → TextFault → Type 0
TellsRows from (Bad line code) = IsWithoutLog from line × (code ≡ CutShort)
TellsRows from TooLong = AreRowsPast from
TellsRows from Read = Unit {0}
TellsRows from NoMemory = Unit {0}

abbrev pub TellsNoLog : Option TextState → TextFault → Type 0
TellsNoLog before fault = IfSome before (λ from. TellsRows from fault)

-- these rows were read, and the log is left
abbrev pub AreRowsGiven : Building → List (Option GoodRow) → Option TextState → Option TextState → Type 0
AreRowsGiven b rows before now = IfSome before (λ from. IsSomeAnd now (λ log. RowsBeforeLog b from (map said_of rows) log))
