-- An input of an audit: an opening, rows, and the log of their day.
use Rattle.std.specs.Prelude.{◌≡◌, ℕ, ◌≤◌, ◌<◌, List, length, Option, None, Some, option_map, Result, Ok, Err}
use Rattle.std.specs.Io.KnownBytes.{IsAtEnd}
use Rattle.elevator_model.specs.Snapshot.{Snapshot, IsAccepted}
use Rattle.search_model.specs.Days.{Day, Row, opening_day}
use Rattle.lift_text.specs.Reading.{TextState, reading, whole_text}
use Rattle.lift_text.specs.Shows.{FaultShows}
use Rattle.lift_text.specs.declared.codes.TextCode.{TextCode}
use Rattle.lift_text.specs.declared.faults.TextFault.{TextFault}
use Rattle.lift_text.specs.declared.faults.TextFault.TheVariants.{Bad, NoMemory, Read, TooLong}
use Rattle.day_text.specs.DayOpenings.{DayOpeningInFront, IsDayOpeningFault}
use Rattle.day_state.specs.Openings.{IsOpeningSnapshot}
use Rattle.log_rows.specs.Rows.{AreRowsPast, IsWithoutLog, RowsBeforeLog}
use Rattle.byte_streams.specs.declared.inputs.InputFault.{InputFault}
use Rattle.byte_streams.specs.declared.inputs.InputFault.TheVariants.{Read as FailedRead, NoMemory as MemoryWanting}
use Rattle.day_audit.specs.declared.findings.Finding.{Finding}
use Rattle.day_audit.specs.declared.findings.Finding.TheVariants.{Differs, Row as BadRow, Text}
use Rattle.day_audit.specs.declared.logs.Audited.{Audited}
use Rattle.day_audit.specs.Audits.{Found, LogFinds, LogHolds, bad_row, bad_text, differs}
use Rattle.day_audit.specs.ProvedDays.{IsDayProved}
use Rattle.day_audit.specs.Taking.{TellsFound}

-- ---- behind the opening

-- Nothing is found in the rows and the log, and this is told of the day.
pub record HoldsBehind (opening : Snapshot) (from : TextState) (audited : Audited) : Type 0 where
  pub rows : List (Option Row)
  pub log : TextState
  pub end : Day
  pub front : RowsBeforeLog opening.building from rows log
  pub holds : LogHolds (opening_day opening) rows (reading log) end
  pub accepted : audited.accepted ≡ length end.calls
  pub unsolved : audited.unsolved ≡ end.unsolved

-- What is found first there: the rows go past the most bytes that may be read, or no log follows, or what its lines lack.
pub data FindsBehind (opening : Snapshot) (from : TextState) (found : Found) : Type 0 where
  rows_past : AreRowsPast from → found ≡ bad_text TooLong → FindsBehind opening from found
  no_log : (line : ℕ) → IsWithoutLog from line → found ≡ differs line → FindsBehind opening from found
  in_log : (rows : List (Option Row)) → (log : TextState) → RowsBeforeLog opening.building from rows log
      → LogFinds (opening_day opening) rows (reading log) found → FindsBehind opening from found

abbrev pub IsDayAudited : Snapshot → Option TextState → Result Audited Finding → Type 0
IsDayAudited opening None answer = Unit {0}
IsDayAudited opening (Some from) (Ok audited) = HoldsBehind opening from audited
IsDayAudited opening (Some from) (Err finding) = TellsFound finding (FindsBehind opening from)

-- ---- a text

-- An opening is in front, with which a day may begin, and nothing is found behind it: the log is that of the day of its rows
-- by the plans that it prints, and these are proved.
pub record HoldsIn (text : TextState) (audited : Audited) : Type 0 where
  pub opening : Snapshot
  pub from : TextState
  pub accepted : IsAccepted opening
  pub empty : IsOpeningSnapshot opening
  pub opens : DayOpeningInFront text opening from
  pub holds : HoldsBehind opening from audited
  pub proved : IsDayProved opening holds.rows (reading holds.log) holds.end

-- what is found first in the text: a fault of the opening, or what is found behind it
pub data FindsIn (text : TextState) (found : Found) : Type 0 where
  bad_opening : (fault : TextFault) → IsDayOpeningFault text fault → found ≡ bad_text fault → FindsIn text found
  behind : (opening : Snapshot) → (from : TextState) → DayOpeningInFront text opening from → FindsBehind opening from found → FindsIn text found

abbrev pub IsTextAudited : Option TextState → Result Audited Finding → Type 0
IsTextAudited None answer = Unit {0}
IsTextAudited (Some text) (Ok audited) = HoldsIn text audited
IsTextAudited (Some text) (Err finding) = TellsFound finding (FindsIn text)

-- ---- an input

-- the input is not too long
abbrev pub IsShort : List ℕ → Type 0
IsShort input = length input ≤ 67108864

-- it is no bad line that is found first in the text
abbrev pub HasNoBadLine : List ℕ → Type 0
HasNoBadLine input = (line : ℕ) (code : TextCode) → FindsIn (whole_text input) (bad_text (Bad line code)) → ⊥

-- What an audit of an input answers. A bad line of the opening, of an answer or of a certificate comes before the input's
-- length, and that before what is found elsewhere.
abbrev pub IsAudit : List ℕ → Result Audited Finding → Type 0
IsAudit input (Ok audited) = IsShort input × HoldsIn (whole_text input) audited
IsAudit input (Err (Differs line)) = IsShort input × FindsIn (whole_text input) (differs line)
IsAudit input (Err (BadRow row reason)) = IsShort input × FindsIn (whole_text input) (bad_row row reason.items)
IsAudit input (Err (Text (Bad line code))) = FindsIn (whole_text input) (bad_text (Bad line code))
IsAudit input (Err (Text TooLong)) = (67108864 < length input) × HasNoBadLine input
IsAudit input (Err (Text Read)) = Unit {0}
IsAudit input (Err (Text NoMemory)) = Unit {0}

-- what is answered of an input that is too long
abbrev pub if_long : Result Audited Finding → Result Audited Finding
if_long (Ok audited) = Err (Text TooLong)
if_long (Err (Differs line)) = Err (Text TooLong)
if_long (Err (BadRow row reason)) = Err (Text TooLong)
if_long (Err (Text fault)) = Err (Text fault)

abbrev pub unread : InputFault → TextFault
unread FailedRead = Read
unread MemoryWanting = NoMemory

-- a source whose input was judged is at its end
abbrev pub EndsIfJudged : Result Audited Finding → Option (List ℕ) → Type 0
EndsIfJudged (Ok audited) left = IsAtEnd left
EndsIfJudged (Err (Differs line)) left = IsAtEnd left
EndsIfJudged (Err (BadRow row reason)) left = IsAtEnd left
EndsIfJudged (Err (Text fault)) left = Unit {0}

-- where a line is told to be bad, its end shows in the bytes that were taken
abbrev pub FindingShows : Option (List ℕ) → Result Audited Finding → Option (List ℕ) → Type 0
FindingShows left (Ok audited) left' = Unit {0}
FindingShows left (Err (Differs line)) left' = Unit {0}
FindingShows left (Err (BadRow row reason)) left' = Unit {0}
FindingShows left (Err (Text fault)) left' = FaultShows (option_map whole_text left) fault left'
