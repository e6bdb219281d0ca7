-- What becomes of a text that is to be an opening and rows.
use Rattle.std.specs.Prelude.{◌≡◌, ◌≤◌, List, ℕ, Option, Result, Ok, Err}
use Rattle.elevator_model.specs.Snapshot.{Snapshot}
use Rattle.lift_text.specs.Lines.{pieces_of}
use Rattle.lift_text.specs.Reading.{TextState}
use Rattle.lift_text.specs.Shows.{FaultShows}
use Rattle.lift_text.specs.declared.faults.TextFault.{TextFault}
use Rattle.lift_text.specs.declared.faults.TextFault.TheVariants.{Read as FailedRead}
use Rattle.case_text.specs.CaseTexts.{Tells}
use Rattle.day_text.specs.DayOpenings.{DayOpeningInFront, HoldsNoOpening, IsDayOpeningRead, IsDayOpeningRefused}
use Rattle.day_simulator.specs.RowRuns.{Right, bytes_of}
use Rattle.day_simulator.specs.DayRuns.{RanDay}
use Rattle.day_simulator.specs.declared.day_runs.Ended.{Ended}
use Rattle.day_simulator.specs.declared.row_runs.RunFault.{RunFault}
use Rattle.day_simulator.specs.declared.row_runs.RunFault.TheVariants.{TooLong, Read, Write, NoMemory}
use Rattle.day_simulator.specs.declared.text_runs.DayFault.{DayFault}
use Rattle.day_simulator.specs.declared.text_runs.DayFault.TheVariants.{Opening, Rows}

-- The text begins with an opening, and its day was run over the rows behind the header, with a plan that is right at each
-- row that was accepted; `left` is what the source has left then, `ahead` what its reader holds unread, and the sink had taken
-- `taken` and has taken `taken'`.
pub record DayRan (right : Right) (before : Option TextState) (ahead : List ℕ) (left taken taken' : Option (List ℕ))
    (result : Result Ended RunFault) : Type 0 where
  pub opening : Snapshot
  pub rows : Option TextState
  pub read : IsDayOpeningRead before opening rows
  pub ran : RanDay right opening result rows ahead left taken taken'

-- What became of the text; where it begins with no opening, nothing was written, and the end of the line that is said to be
-- bad shows in the bytes that were taken. Where a read failed so far, no opening is whole among them.
abbrev pub DayAnswered : Right → (before : Option TextState) → (ahead : List ℕ) → (left taken taken' : Option (List ℕ)) → Result Ended DayFault → Type 0
DayAnswered right before ahead left taken taken' (Ok ended) = DayRan right before ahead left taken taken' (Ok ended)
DayAnswered right before ahead left taken taken' (Err (Rows fault)) = DayRan right before ahead left taken taken' (Err fault)
DayAnswered right before ahead left taken taken' (Err (Opening fault)) =
    (taken' ≡ taken) × IsDayOpeningRefused before fault × FaultShows before fault left × (fault ≡ FailedRead → HoldsNoOpening before left)

-- the text is an opening and rows, and is not too long
pub record IsDayText (text : TextState) : Type 0 where
  pub opening : Snapshot
  pub rows : TextState
  pub begins : DayOpeningInFront text opening rows
  pub short : bytes_of (pieces_of rows.bytes) ≤ rows.limit

-- of such a text only a failed read or write and want of memory keep the day from its end
abbrev pub EndsUnlessFailed : Result Ended DayFault → Type 0
EndsUnlessFailed (Ok ended) = Unit {0}
EndsUnlessFailed (Err (Opening fault)) = Tells fault ⊥
EndsUnlessFailed (Err (Rows TooLong)) = ⊥
EndsUnlessFailed (Err (Rows Read)) = Unit {0}
EndsUnlessFailed (Err (Rows Write)) = Unit {0}
EndsUnlessFailed (Err (Rows NoMemory)) = Unit {0}

-- a read failed
abbrev pub IsUnread : Result Ended DayFault → Type 0
IsUnread (Ok ended) = ⊥
IsUnread (Err (Opening fault)) = fault ≡ FailedRead
IsUnread (Err (Rows fault)) = fault ≡ Read

-- a write failed
abbrev pub IsUnwritten : Result Ended DayFault → Type 0
IsUnwritten (Ok ended) = ⊥
IsUnwritten (Err (Opening fault)) = ⊥
IsUnwritten (Err (Rows fault)) = fault ≡ Write
