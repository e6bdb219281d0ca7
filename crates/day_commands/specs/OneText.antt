-- An audit ends in one way, but for running out of memory and failing reads and writes.
use Rattle.std.specs.Prelude.{◌≡◌, ℕ, List, [], ◌∷◌, ◌++◌, codes, Option, Some}
use Rattle.std.specs.Io.KnownBytes.{append_known}
use Rattle.lift_text.specs.declared.faults.TextFault.TheVariants.{Bad, NoMemory, Read as FailedRead, TooLong}
use Rattle.day_audit.specs.Audits.{bad_row, bad_text, differs}
use Rattle.day_audit.specs.OneAnswer.{Told, first_found, all_right}
use Rattle.command_ends.specs.Ends.{Ends, Streams, refusal_text}
use Rattle.command_ends.specs.Codes.{number_of}
use Rattle.command_ends.specs.declared.status.Status.{Status}
use Rattle.command_ends.specs.declared.status.Status.TheVariants.{Done, Words, Stopped, Refused, Input, Read, Write, Memory}
use Rattle.day_commands.specs.AuditOutcome.{AuditDue}
use Rattle.day_commands.specs.AuditTexts.{differs_text, row_text, yes_text}

-- the line that tells that the input is too long
abbrev pub long_text : List ℕ
long_text = codes "refused long" ++ 10 ∷ []

-- the status and the text of what is told of an input
abbrev pub status_of : Told → Status
status_of (all_right accepted unsolved) = Done
status_of (first_found (differs line)) = Refused
status_of (first_found (bad_row row reason)) = Refused
status_of (first_found (bad_text fault)) = Input

abbrev pub text_of : Told → List ℕ
text_of (all_right accepted unsolved) = yes_text (record { accepted = accepted; unsolved = unsolved })
text_of (first_found (differs line)) = differs_text line
text_of (first_found (bad_row row reason)) = row_text row reason
text_of (first_found (bad_text (Bad line code))) = refusal_text line (number_of code)
text_of (first_found (bad_text TooLong)) = long_text
text_of (first_found (bad_text FailedRead)) = []
text_of (first_found (bad_text NoMemory)) = []

-- One status and one text are due for an input.
abbrev pub OneTextLaw : Type 0
OneTextLaw = (input : List ℕ) (left left' : Option (List ℕ)) (status status' : Status) (text text' : List ℕ) → AuditDue (Some input) left status text
    → AuditDue (Some input) left' status' text' → (status ≡ status') × (text ≡ text')

-- a text was written whole
abbrev pub IsToldBy : Status → Type 0
IsToldBy Done = Unit {0}
IsToldBy Words = Unit {0}
IsToldBy Stopped = Unit {0}
IsToldBy Refused = Unit {0}
IsToldBy Input = Unit {0}
IsToldBy Read = ⊥
IsToldBy Write = ⊥
IsToldBy Memory = ⊥

-- both calls ended with this status, and wrote this text behind what the sink had taken
pub record EndSo (old new old' new' : Streams) (status status' : Status) : Type 0 where
  pub text : List ℕ
  pub same : status ≡ status'
  pub first : new.taken ≡ append_known old.taken text
  pub second : new'.taken ≡ append_known old'.taken text

-- Two audits of an input that come to write a whole text end in the same way.
abbrev pub OneEndLaw : Type 0
OneEndLaw = (input : List ℕ) (old new old' new' : Streams) (status status' : Status) → Ends (AuditDue (Some input) new.left) old new status
    → Ends (AuditDue (Some input) new'.left) old' new' status'
    → IsToldBy status → IsToldBy status' → EndSo old new old' new' status status'
