-- An input has one answer, but for a failed read and running out of memory.
use Rattle.std.specs.Prelude.{◌≡◌, ℕ, List, Result, Ok, Err}
use Rattle.lift_text.specs.Reading.{whole_text}
use Rattle.lift_text.specs.declared.codes.TextCode.{TextCode}
use Rattle.lift_text.specs.declared.faults.TextFault.{TextFault}
use Rattle.lift_text.specs.declared.faults.TextFault.TheVariants.{Bad, NoMemory, Read, TooLong}
use Rattle.day_audit.specs.declared.findings.Finding.{Finding}
use Rattle.day_audit.specs.declared.logs.Audited.{Audited}
use Rattle.day_audit.specs.Audits.{Found, bad_row, bad_text, differs}
use Rattle.day_audit.specs.Inputs.{FindsIn, IsAudit}
use Rattle.day_audit.specs.Taking.{found_by}

-- what an answer tells: that the log holds, with its numbers, or what is found first
pub data Told : Type 0 where
  all_right : (accepted unsolved : ℕ) → Told
  first_found : Found → Told

abbrev pub told_by : Result Audited Finding → Told
told_by (Ok audited) = all_right audited.accepted audited.unsolved
told_by (Err finding) = first_found (found_by finding)

-- the fault is one of the text: it is no failed read and no want of memory
abbrev pub IsOfText : TextFault → Type 0
IsOfText (Bad line code) = Unit {0}
IsOfText TooLong = Unit {0}
IsOfText Read = ⊥
IsOfText NoMemory = ⊥

abbrev pub IsFoundInText : Found → Type 0
IsFoundInText (differs line) = Unit {0}
IsFoundInText (bad_row row reason) = Unit {0}
IsFoundInText (bad_text fault) = IsOfText fault

-- the answer is one to the input
abbrev pub IsToldOfInput : Result Audited Finding → Type 0
IsToldOfInput (Ok audited) = Unit {0}
IsToldOfInput (Err finding) = IsFoundInText (found_by finding)

-- Two answers to an input tell the same, however long it is.
abbrev pub OneAnswerLaw : Type 0
OneAnswerLaw = (input : List ℕ) (first second : Result Audited Finding) → IsToldOfInput first → IsToldOfInput second → IsAudit input first
    → IsAudit input second → told_by first ≡ told_by second

-- A bad line that is found first is told, however long the input is.
abbrev pub BadLineLaw : Type 0
BadLineLaw = (input : List ℕ) (line : ℕ) (code : TextCode) (answer : Result Audited Finding) → FindsIn (whole_text input) (bad_text (Bad line code))
    → IsToldOfInput answer → IsAudit input answer → told_by answer ≡ first_found (bad_text (Bad line code))
