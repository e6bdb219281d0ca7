-- Rows as they come: which rows lines bring, what they do to a day, and what the log says of them.
use Rattle.std.specs.Prelude.{◌≡◌, ℕ, ◌+◌, ◌≤◌, ◌<◌, nat_lt, List, [], ◌∷◌, ◌++◌, length, take, Option, None, IfSome, IsSomeAnd, Result, Ok, Err, if◌then◌else◌}
use Rattle.std.specs.Prelude.{All}
use Rattle.std.specs.List.{concat}
use Rattle.std.specs.Io.KnownBytes.{append_known, IsAtEnd}
use Rattle.elevator_model.specs.Snapshot.{Snapshot}
use Rattle.elevator_model.specs.declared.Stop.{Stop}
use Rattle.search_model.specs.declared.Stated.{Stated}
use Rattle.search_model.specs.Days.{Day, Row}
use Rattle.lift_text.specs.Lines.{pieces_of, line_of, HasWholeLine}
use Rattle.lift_text.specs.Reading.{TextState, line_limit}
use Rattle.day_text.specs.Records.{row_of_line}
use Rattle.day_laws.specs.RowLines.{rows_of, rows_of_line}
use Rattle.day_simulator.specs.Rows.{IsRowDone}
use Rattle.lift_text.specs.declared.faults.TextFault.{TextFault}
use Rattle.lift_text.specs.declared.faults.TextFault.TheVariants.{Bad, TooLong as TextTooLong, Read as TextRead, NoMemory as TextNoMemory}
use Rattle.day_simulator.specs.declared.row_runs.RunFault.{RunFault}
use Rattle.day_simulator.specs.declared.row_runs.RunFault.TheVariants.{TooLong, Read, Write, NoMemory}
use Rattle.day_simulator.specs.declared.row_runs.NextRow.{NextRow}
use Rattle.day_simulator.specs.declared.row_runs.NextRow.TheVariants.{More, End}

-- ---- what rows do

-- what a planner calls right: a plan of the snapshot, given the plan that held before
abbrev pub Right : Type 1
Right = Snapshot → (held : List (List Stop)) → Stated → List ℕ → Type 0

-- The first of these rows did what the definition says, with a plan that is right where it was accepted, and its lines
-- begin the text; and so did the later ones.
abbrev pub AreRowsDone : Right → Day → List (Option Row) → Day → (text : List ℕ) → Type 0
AreRowsDone right old [] new text = (new ≡ old) × (text ≡ [])
AreRowsDone right old (said ∷ rows) new text =
    (between : Day) × (first : List ℕ) × (rest : List ℕ) × IsRowDone right old said between [] first × AreRowsDone right between rows new rest
    × (text ≡ first ++ rest)

-- ---- one line

-- From one state of a text to a later one, this line was read, and nothing else.
pub record IsLineBetween (from : TextState) (piece : List ℕ) (to : TextState) : Type 0 where
  pub pieces : pieces_of from.bytes ≡ piece ∷ pieces_of to.bytes
  pub limit : from.limit ≡ to.limit + length piece

-- The next line was read, and the log says this of its row, if it is one.
pub record IsLineDone (right : Right) (old new : Day) (text : List ℕ) (before after : Option TextState) : Type 0 where
  pub piece : List ℕ
  pub done : AreRowsDone right old (rows_of_line (line_of piece)) new text
  pub next : IfSome before (λ from. IsSomeAnd after (λ to. IsLineBetween from piece to))

-- ---- how a run of rows ends

-- how many bytes these lines have
abbrev pub bytes_of : List (List ℕ) → ℕ
bytes_of pieces = length (concat pieces)

-- The lines in front were read, and nothing else; these stand behind them.
pub record ReadLines (before : TextState) (passed behind : List (List ℕ)) : Type 0 where
  pub pieces : pieces_of before.bytes ≡ passed ++ behind
  pub short : bytes_of passed ≤ before.limit

-- The next line does not end within the most bytes that may be read.
pub record IsTooLong (before : TextState) (passed behind : List (List ℕ)) : Type 0 where
  pub piece : List ℕ
  pub pieces : List (List ℕ)
  pub next : behind ≡ piece ∷ pieces
  pub long : before.limit < bytes_of passed + length piece

-- A read failed: of the bytes that were taken behind the lines none is the end of a line, and each of the lines has its
-- own end. So the lines are those that are whole among all bytes that were taken.
pub record IsCutOff (before : TextState) (passed : List (List ℕ)) (left : Option (List ℕ)) : Type 0 where
  pub taken : List ℕ
  pub held : IfSome left (λ later. before.bytes ≡ concat passed ++ (taken ++ later))
  pub none : HasWholeLine taken → ⊥
  pub whole : All HasWholeLine passed

-- Memory was wanting for what the next line says.
pub record IsNextLeft (behind : List (List ℕ)) : Type 0 where
  pub piece : List ℕ
  pub pieces : List (List ℕ)
  pub next : behind ≡ piece ∷ pieces

-- Which lines were read, by the outcome; `left` is what the source has left.
abbrev pub Reads : Result Unit RunFault → TextState → (passed behind : List (List ℕ)) → (left : Option (List ℕ)) → Type 0
Reads (Ok done) before passed behind left = (behind ≡ []) × IsAtEnd left
Reads (Err TooLong) before passed behind left = IsTooLong before passed behind
Reads (Err Read) before passed behind left = IsCutOff before passed left
Reads (Err Write) before passed behind left = Unit {0}
Reads (Err NoMemory) before passed behind left = IsNextLeft behind

-- Behind these lines just these bytes were taken from the source.
abbrev pub AreAhead : TextState → (passed : List (List ℕ)) → (ahead : List ℕ) → (left : Option (List ℕ)) → Type 0
AreAhead before passed ahead left = IfSome left (λ later. before.bytes ≡ concat passed ++ (ahead ++ later))

-- How far the source was read, where `ahead` is what its reader holds unread: no line more than those that were done, where a
-- write failed that of its row with them; or than the line for which memory was wanting. A sink may fail at any write, and
-- nothing tells before. So whenever a row is written the reader stands right behind its line, and it asks the source for more
-- only where it holds no whole line.
abbrev pub HoldsAhead : Result Unit RunFault → TextState → (passed behind : List (List ℕ)) → (ahead : List ℕ) → (left : Option (List ℕ)) → Type 0
HoldsAhead (Ok done) before passed behind ahead left = AreAhead before passed ahead left
HoldsAhead (Err TooLong) before passed behind ahead left = Unit {0}
HoldsAhead (Err Read) before passed behind ahead left = Unit {0}
HoldsAhead (Err Write) before passed behind ahead left = AreAhead before passed ahead left
HoldsAhead (Err NoMemory) before passed behind ahead left = AreAhead before (passed ++ take 1 behind) ahead left

-- a beginning of this text was written
abbrev pub IsBegun : (text : List ℕ) → (old new : Option (List ℕ)) → Type 0
IsBegun text old new = (count : ℕ) × (count ≤ length text) × (new ≡ append_known old (take count text))

-- the text was written, or where a write failed a beginning of it
abbrev pub Wrote : Result Unit RunFault → (text : List ℕ) → (old new : Option (List ℕ)) → Type 0
Wrote (Ok done) text old new = new ≡ append_known old text
Wrote (Err TooLong) text old new = new ≡ append_known old text
Wrote (Err Read) text old new = new ≡ append_known old text
Wrote (Err NoMemory) text old new = new ≡ append_known old text
Wrote (Err Write) text old new = IsBegun text old new

-- The rows of lines in front were done, and their lines of the log written.
pub record Ran (right : Right) (old new : Day) (result : Result Unit RunFault) (before : Option TextState) (ahead : List ℕ)
    (left sink sink' : Option (List ℕ)) : Type 0 where
  pub passed : List (List ℕ)
  pub behind : List (List ℕ)
  pub text : List ℕ
  pub done : AreRowsDone right old (rows_of passed) new text
  pub read : IfSome before (λ from. ReadLines from passed behind × Reads result from passed behind left)
  pub read_ahead : IfSome before (λ from. HoldsAhead result from passed behind ahead left)
  pub wrote : Wrote result text sink sink'

-- ---- how a line ends

-- what comes of a line that was done, or for which memory was wanting
abbrev pub next_after : {E : Type 0} → Result Unit E → Result NextRow RunFault
next_after (Ok done) = Ok More
next_after (Err error) = Err NoMemory

-- what comes of a line whose text was written, or not
abbrev pub next_written : Result Unit RunFault → Result NextRow RunFault
next_written (Ok done) = Ok More
next_written (Err fault) = Err fault

-- why rows are not run on where the next line could not be read as it stands
abbrev pub fault_of : TextFault → RunFault
fault_of TextTooLong = TooLong
fault_of TextRead = Read
fault_of (Bad line code) = NoMemory
fault_of TextNoMemory = NoMemory

-- The run stops in front of the next line, with this outcome.
abbrev pub StopsAt : Result Unit RunFault → (before : Option TextState) → (ahead : List ℕ) → (left : Option (List ℕ)) → Type 0
StopsAt result before ahead left =
    IfSome before (λ from. Reads result from [] (pieces_of from.bytes) left × HoldsAhead result from [] (pieces_of from.bytes) ahead left)

-- A line was done, or the run stops in front of it.
abbrev pub DidNext : Right → (old new : Day) → Result NextRow RunFault → (text : List ℕ) → (before after : Option TextState) → (ahead : List ℕ)
    → (left : Option (List ℕ)) → Type 0
DidNext right old new (Ok More) text before after ahead left = IsLineDone right old new text before after
DidNext right old new (Ok End) text before after ahead left = (new ≡ old) × StopsAt (Ok tt) before ahead left
DidNext right old new (Err TooLong) text before after ahead left = (new ≡ old) × StopsAt (Err TooLong) before ahead left
DidNext right old new (Err Read) text before after ahead left = (new ≡ old) × StopsAt (Err Read) before ahead left
DidNext right old new (Err Write) text before after ahead left = ⊥
DidNext right old new (Err NoMemory) text before after ahead left = (new ≡ old) × StopsAt (Err NoMemory) before ahead left

-- The run stopped in front of a line, and nothing was done or written for it.
pub record IsStopped (old new : Day) (result : Result Unit RunFault) (before : Option TextState) (ahead : List ℕ)
    (left sink sink' : Option (List ℕ)) : Type 0 where
  pub day : new ≡ old
  pub stops : StopsAt result before ahead left
  pub wrote : sink' ≡ sink

-- A line was done, and written, or where the write failed a beginning of it; or the run stops in front of it.
abbrev pub WroteNext : Right → (old new : Day) → Result NextRow RunFault → (before after : Option TextState) → (ahead : List ℕ)
    → (left sink sink' : Option (List ℕ)) → Type 0
WroteNext right old new (Ok More) before after ahead left sink sink' =
    (text : List ℕ) × IsLineDone right old new text before after × (sink' ≡ append_known sink text)
WroteNext right old new (Ok End) before after ahead left sink sink' = IsStopped old new (Ok tt) before ahead left sink sink'
WroteNext right old new (Err TooLong) before after ahead left sink sink' = IsStopped old new (Err TooLong) before ahead left sink sink'
WroteNext right old new (Err Read) before after ahead left sink sink' = IsStopped old new (Err Read) before ahead left sink sink'
WroteNext right old new (Err Write) before after ahead left sink sink' =
    (text : List ℕ) × (count : ℕ) × IsLineDone right old new text before after × (count ≤ length text) × (sink' ≡ append_known sink (take count text))
WroteNext right old new (Err NoMemory) before after ahead left sink sink' = IsStopped old new (Err NoMemory) before ahead left sink sink'
