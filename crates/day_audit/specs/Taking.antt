-- What the readers of a log answer, where the source tells what it has left.
use Rattle.std.specs.Prelude.{◌≡◌, ℕ, Bool, true, false, List, Option, None, Some, IfSome, IsSomeAnd, Result, Ok, Err, IsTrue}
use Rattle.elevator_model.specs.Snapshot.{Snapshot}
use Rattle.search_model.specs.declared.Event.{Event}
use Rattle.search_model.specs.declared.Reason.{Reason}
use Rattle.search_model.specs.declared.Stated.{Stated}
use Rattle.search_model.specs.declared.Verdict.{Verdict}
use Rattle.search_model.specs.declared.Verdict.TheVariants.{Yes, No}
use Rattle.lift_text.specs.Reading.{TextState, reading}
use Rattle.text_sections.specs.Sections.{Line}
use Rattle.text_sections.specs.Canonical.{BeginsWith}
use Rattle.lift_text.specs.declared.faults.TextFault.TheVariants.{Bad, NoMemory, Read, TooLong}
use Rattle.case_text.specs.CaseTexts.{Tells}
use Rattle.check_text.specs.VerdictTexts.{reason_text}
use Rattle.cert_checker.specs.Laws.{IsProved}
use Rattle.day_audit.specs.declared.findings.Finding.{Finding}
use Rattle.day_audit.specs.declared.findings.Finding.TheVariants.{Differs, Row, Text}
use Rattle.day_audit.specs.Audits.{Found, differs, bad_row, bad_text, AcceptedFinds, AcceptedInFront, EndFinds, EndInFront, Lacks, ProofFinds, ProofInFront}

-- what the code calls it
abbrev pub found_by : Finding → Found
found_by (Differs line) = differs line
found_by (Row row reason) = bad_row row reason.items
found_by (Text fault) = bad_text fault

-- a read of the source failed
abbrev pub is_unread : Finding → Bool
is_unread (Differs line) = false
is_unread (Row row reason) = false
is_unread (Text (Bad line code)) = false
is_unread (Text TooLong) = false
is_unread (Text Read) = true
is_unread (Text NoMemory) = false

abbrev pub IsUnread : {A : Type 0} → Result A Finding → Type 0
IsUnread (Ok answer) = ⊥
IsUnread (Err finding) = IsTrue (is_unread finding)

-- a failed read and want of memory tell nothing of the log
abbrev pub TellsOf : Found → Type 0 → Type 0
TellsOf (differs line) P = P
TellsOf (bad_row row reason) P = P
TellsOf (bad_text fault) P = Tells fault P

-- what was found is told
abbrev pub TellsFound : Finding → (Found → Type 0) → Type 0
TellsFound finding finds = TellsOf (found_by finding) (finds (found_by finding))

-- what is answered of a line that is read whole
abbrev pub said_at : Bool → ℕ → Result Unit Finding
said_at true line = Ok tt
said_at false line = Err (Differs line)

-- these lines were taken, or the first of them that is not there was found
abbrev pub TakesLines : List Line → Option TextState → Result Unit Finding → Option TextState → Type 0
TakesLines due None answer now = Unit {0}
TakesLines due (Some text) (Ok done) now = IsSomeAnd now (λ behind. BeginsWith due (reading text) (reading behind))
TakesLines due (Some text) (Err finding) now = TellsFound finding (Lacks due (reading text))

-- this row is told not to be proved for this reason, but for want of memory
abbrev pub IsNotProved : Snapshot → ℕ → Reason → Finding → Type 0
IsNotProved s number reason (Differs line) = ⊥
IsNotProved s number reason (Row row lines) = (row ≡ number) × (lines.items ≡ reason_text s reason)
IsNotProved s number reason (Text fault) = fault ≡ NoMemory

-- what an answer states, where its certificate proves it; else that it is not proved
abbrev pub IsJudgedBy : Snapshot → ℕ → Stated → Verdict → Result Stated Finding → Type 0
IsJudgedBy s number printed verdict (Ok stated) = (stated ≡ printed) × (verdict ≡ Yes)
IsJudgedBy s number printed verdict (Err finding) = (reason : Reason) × (verdict ≡ No reason) × IsNotProved s number reason finding

-- an answer and a certificate that proves it were taken
abbrev pub TakesProof : Snapshot → ℕ → Option TextState → Result Stated Finding → Option TextState → Type 0
TakesProof s number None answer now = Unit {0}
TakesProof s number (Some text) (Ok printed) now = IsSomeAnd now (λ behind. ProofInFront (reading text) s printed (reading behind))
TakesProof s number (Some text) (Err finding) now = TellsFound finding (ProofFinds s number (reading text))

-- the lines of an accepted row were taken
abbrev pub TakesAccepted : ℕ → List Event → Snapshot → Option TextState → Result Stated Finding → Option TextState → Type 0
TakesAccepted number events s None answer now = Unit {0}
TakesAccepted number events s (Some text) (Ok printed) now = IsSomeAnd now (λ behind. AcceptedInFront (reading text) number events s printed (reading behind))
TakesAccepted number events s (Some text) (Err finding) now = TellsFound finding (AcceptedFinds number events s (reading text))

-- the lines after the last row were taken, and nothing came after them
abbrev pub TakesEnd : List Line → Option TextState → Result Unit Finding → Type 0
TakesEnd due before (Ok done) = IfSome before (λ text. EndInFront due (reading text))
TakesEnd due before (Err finding) = IfSome before (λ text. TellsFound finding (EndFinds due (reading text)))

-- the plan is feasible and has its cost, and no feasible plan costs less than the bound
abbrev pub IsProvedPlan : Snapshot → Stated → Type 0
IsProvedPlan s printed = IsProved s printed.plan printed.cost printed.bound
