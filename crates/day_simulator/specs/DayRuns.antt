-- The log of a whole day.
use Rattle.std.specs.Prelude.{◌≡◌, ℕ, List, [], ◌++◌, length, take, codes, IsTrue, Option, IfSome, Result, Ok, Err, ◌⊎◌}
use Rattle.std.specs.Io.KnownBytes.{append_known, IsAtEnd}
use Rattle.elevator_model.specs.Snapshot.{Snapshot}
use Rattle.search_model.specs.Days.{Day, opening_day, served_of, delivered_count, loses_none}
use Rattle.lift_text.specs.Reading.{TextState}
use Rattle.day_text.specs.LogTexts.{end_text}
use Rattle.day_laws.specs.RowLines.{rows_of}
use Rattle.day_simulator.specs.RowRuns.{Right, AreAhead, AreRowsDone, ReadLines, IsTooLong, IsCutOff, IsBegun}
use Rattle.day_simulator.specs.Served.{AreServedOnce}
use Rattle.day_simulator.specs.declared.day_runs.Ended.{Ended}
use Rattle.day_simulator.specs.declared.row_runs.RunFault.{RunFault}
use Rattle.day_simulator.specs.declared.row_runs.RunFault.TheVariants.{TooLong, Read, Write, NoMemory}

abbrev pub first_line : List ℕ
first_line = codes "day 1\n"

-- the first line of a log, and the lines of the rows
abbrev pub rows_log : (text : List ℕ) → List ℕ
rows_log text = first_line ++ text

-- the log of a day whose rows wrote this text
abbrev pub day_log : (text : List ℕ) → Day → List ℕ
day_log text day = rows_log text ++ end_text day

-- Which lines were read, by the outcome; `left` is what the source has left.
abbrev pub ReadsDay : Result Ended RunFault → TextState → (passed behind : List (List ℕ)) → (left : Option (List ℕ)) → Type 0
ReadsDay (Ok ended) before passed behind left = (behind ≡ []) × IsAtEnd left
ReadsDay (Err TooLong) before passed behind left = IsTooLong before passed behind
ReadsDay (Err Read) before passed behind left = IsCutOff before passed left
ReadsDay (Err Write) before passed behind left = Unit {0}
ReadsDay (Err NoMemory) before passed behind left = Unit {0}

-- How far the source was read, where `ahead` is what its reader holds unread: no line more than those that were done, where a
-- write failed that of its row with them; or where memory ran out, maybe the next one. So it is at every write, since any may fail.
abbrev pub HoldsDayAhead : Result Ended RunFault → TextState → (passed behind : List (List ℕ)) → (ahead : List ℕ) → (left : Option (List ℕ)) → Type 0
HoldsDayAhead (Ok ended) before passed behind ahead left = AreAhead before passed ahead left
HoldsDayAhead (Err TooLong) before passed behind ahead left = Unit {0}
HoldsDayAhead (Err Read) before passed behind ahead left = Unit {0}
HoldsDayAhead (Err Write) before passed behind ahead left = AreAhead before passed ahead left
HoldsDayAhead (Err NoMemory) before passed behind ahead left =
    AreAhead before passed ahead left ⊎ AreAhead before (passed ++ take 1 behind) ahead left

-- The whole log was written, and this is told at its end; or after a fault its lines up to the last row. Where a write
-- failed, a beginning of the log was.
abbrev pub WroteDay : Result Ended RunFault → (text : List ℕ) → Day → (old new : Option (List ℕ)) → Type 0
WroteDay (Ok ended) text day old new =
    (new ≡ append_known old (day_log text day)) × (ended.served.items ≡ served_of day) × (ended.unsolved ≡ day.unsolved)
    × (delivered_count day ≡ length day.calls)
WroteDay (Err TooLong) text day old new = new ≡ append_known old (rows_log text)
WroteDay (Err Read) text day old new = new ≡ append_known old (rows_log text)
WroteDay (Err NoMemory) text day old new = new ≡ append_known old (rows_log text)
WroteDay (Err Write) text day old new = IsBegun (day_log text day) old new

-- Where a write failed, it was that of a row or of the first line, or all lines were read: so the end of the log is begun
-- only where no row is left.
abbrev pub IsCutIn : Result Ended RunFault → (text : List ℕ) → Option TextState → (behind : List (List ℕ)) → (left old new : Option (List ℕ)) → Type 0
IsCutIn (Ok ended) text before behind left old new = Unit {0}
IsCutIn (Err TooLong) text before behind left old new = Unit {0}
IsCutIn (Err Read) text before behind left old new = Unit {0}
IsCutIn (Err NoMemory) text before behind left old new = Unit {0}
IsCutIn (Err Write) text before behind left old new = IsBegun (rows_log text) old new ⊎ IfSome before (λ from. (behind ≡ []) × IsAtEnd left)

-- A day went over the rows of lines in front. None of its accepted calls was lost, by the end of the last plan each boards
-- once and is delivered once, in time, and its log was written.
pub record RanDay (right : Right) (opening : Snapshot) (result : Result Ended RunFault) (before : Option TextState) (ahead : List ℕ)
    (left sink sink' : Option (List ℕ)) : Type 0 where
  pub passed : List (List ℕ)
  pub behind : List (List ℕ)
  pub day : Day
  pub text : List ℕ
  pub done : AreRowsDone right (opening_day opening) (rows_of passed) day text
  pub none_lost : IsTrue (loses_none day)
  pub once : AreServedOnce right (opening_day opening) (rows_of passed) day text done
  pub read : IfSome before (λ from. ReadLines from passed behind × ReadsDay result from passed behind left)
  pub read_ahead : IfSome before (λ from. HoldsDayAhead result from passed behind ahead left)
  pub wrote : WroteDay result text day sink sink'
  pub cut : IsCutIn result text before behind left sink sink'

-- The end of the log was written, and this is told of the day; where the write failed, a beginning of it.
abbrev pub EndedAs : Day → Result Ended RunFault → (old new : Option (List ℕ)) → Type 0
EndedAs day (Ok ended) old new = (new ≡ append_known old (end_text day)) × (ended.served.items ≡ served_of day) × (ended.unsolved ≡ day.unsolved)
    × (delivered_count day ≡ length day.calls)
EndedAs day (Err TooLong) old new = ⊥
EndedAs day (Err Read) old new = ⊥
EndedAs day (Err Write) old new = IsBegun (end_text day) old new
EndedAs day (Err NoMemory) old new = new ≡ old
