-- What the command `audit` leaves: what was read and written, and why it ended.
use Rattle.std.specs.Prelude.{◌≡◌, ℕ, ◌⊎◌, List, take, Option, Some, option_map, Result, Ok, Err}
use Rattle.byte_streams.specs.Streams.{Rose}
use Rattle.lift_text.specs.Reading.{whole_text}
use Rattle.lift_text.specs.Shows.{FaultShows}
use Rattle.lift_text.specs.declared.faults.TextFault.{TextFault}
use Rattle.day_audit.specs.declared.findings.Finding.{Finding}
use Rattle.day_audit.specs.declared.findings.Finding.TheVariants.{Differs, Row, Text}
use Rattle.day_audit.specs.declared.logs.Audited.{Audited}
use Rattle.day_audit.specs.Inputs.{EndsIfJudged, HoldsIn, IsAudit}
use Rattle.command_ends.specs.Ends.{DueTexts, Ends, IsRefusalLine, Streams}
use Rattle.command_ends.specs.declared.status.Status.{Status}
use Rattle.command_ends.specs.declared.status.Status.TheVariants.{Done, Words, Stopped, Refused, Input, Read, Write, Memory}
use Rattle.day_commands.specs.AuditTexts.{differs_text, row_text, yes_text}

-- The text tells what is found of a log that is judged, with its status.
abbrev pub IsFindingTold : Result Audited Finding → Status → List ℕ → Type 0
IsFindingTold (Ok audited) status text = (status ≡ Done) × (text ≡ yes_text audited)
IsFindingTold (Err (Differs line)) status text = (status ≡ Refused) × (text ≡ differs_text line)
IsFindingTold (Err (Row row reason)) status text = (status ≡ Refused) × (text ≡ row_text row reason.items)
IsFindingTold (Err (Text fault)) status text = ⊥

-- what an audit answers of the bytes that the source has left, as far as they are read
abbrev pub AuditsLeft : Option (List ℕ) → Result Audited Finding → Type 0
AuditsLeft left answer = (input : List ℕ) → left ≡ Some input → IsAudit (take 67108865 input) answer

-- The text says yes of an input in which nothing is found: its log is that of the day of its rows by the plans, costs and
-- bounds that it prints, and these are proved (`HoldsIn`, `IsDayProved`).
abbrev pub IsYesOf : List ℕ → List ℕ → Type 0
IsYesOf input text = (audited : Audited) × HoldsIn (whole_text input) audited × (text ≡ yes_text audited)

-- The text is due where it tells what an audit of the whole input finds.
pub record FindingIsDue (left left' : Option (List ℕ)) (status : Status) (text : List ℕ) : Type 0 where
  pub answer : Result Audited Finding
  pub told : IsFindingTold answer status text
  pub audit : AuditsLeft left answer
  pub ended : EndsIfJudged answer left'
  pub proved : status ≡ Done → (input : List ℕ) → left ≡ Some input → IsYesOf input text

-- The refusal line is due where a line of a section is bad or the input is too long, and where the end of the line that it
-- names shows in the bytes that were taken.
pub record AuditRefusalIsDue (left left' : Option (List ℕ)) (text : List ℕ) : Type 0 where
  pub fault : TextFault
  pub is_line : IsRefusalLine fault text
  pub audit : AuditsLeft left (Err (Text fault))
  pub shows : FaultShows (option_map whole_text left) fault left'

-- the texts of `audit`, by what the source had left before it and has left behind it
abbrev pub AuditDue : (left left' : Option (List ℕ)) → DueTexts
AuditDue left left' Done text = FindingIsDue left left' Done text
AuditDue left left' Words text = ⊥
AuditDue left left' Stopped text = ⊥
AuditDue left left' Refused text = FindingIsDue left left' Refused text
AuditDue left left' Input text = AuditRefusalIsDue left left' text
AuditDue left left' Read text = ⊥
AuditDue left left' Write text = ⊥
AuditDue left left' Memory text = ⊥

-- the log is judged or the input refused, unless the source or the sink fails or memory is wanting
abbrev pub EndsAudits : (old new : Streams) → Status → Type 0
EndsAudits old new status =
    (Rose old.read_faults new.read_faults → ⊥) → (Rose old.write_faults new.write_faults → ⊥) → (status ≡ Done) ⊎ (status ≡ Refused) ⊎ (status ≡ Input)
    ⊎ (status ≡ Memory)

-- A log is judged, and any other input is refused.
pub record RunsAudit (old new : Streams) (status : Status) : Type 0 where
  pub ends : Ends (AuditDue old.left new.left) old new status
  pub audits : EndsAudits old new status
