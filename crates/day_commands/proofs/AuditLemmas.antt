-- How `audit` ends, from what was found and put.
use Rattle.std.proofs.Common.{◌≡◌, ℕ, ◌≤◌, ◌<◌, List, length, Option, Some, Result, Ok, Err, refl, sym, ◌∙◌, subst, inl, inr, arith, length-take-le, take_all}
use Rattle.std.specs.Prelude.{◌⊎◌, IfSome, take}
use Rattle.std.proofs.lemmas.Bool.{cases_lt}
use Rattle.byte_streams.specs.Streams.{Rose}
use Rattle.lift_text.specs.Reading.{whole_text}
use Rattle.lift_text.specs.declared.faults.TextFault.{TextFault}
use Rattle.lift_text.specs.declared.faults.TextFault.TheVariants.{NoMemory, Read as FailedRead}
use Rattle.day_audit.specs.declared.findings.Finding.{Finding}
use Rattle.day_audit.specs.declared.findings.Finding.TheVariants.{Differs, Row, Text}
use Rattle.day_audit.specs.declared.logs.Audited.{Audited}
use Rattle.day_audit.specs.Inputs.{FindingShows, HoldsIn, IsAudit}
use Rattle.day_audit.specs.Taking.{IsUnread}
use Rattle.command_ends.specs.declared.status.Status.{Status}
use Rattle.command_ends.specs.declared.status.Status.TheVariants.{Done, Refused}
use Rattle.command_ends.specs.Ends.{Ends, IsRefusalLine, Puts, Streams}
use Rattle.command_ends.proofs.EndLemmas.{ends_either}
use Rattle.day_commands.specs.AuditOutcome.{AuditDue, AuditRefusalIsDue, AuditsLeft, FindingIsDue, IsFindingTold, IsYesOf}

-- what was told of the input, if it is known
pub audits_left : (left : Option (List ℕ)) (answer : Result Audited Finding) → IfSome left (λ input. IsAudit (take 67108865 input) answer)
    → AuditsLeft left answer
audits_left left answer told input given = subst (λ (x : Option (List ℕ)). IfSome x (λ bytes. IsAudit (take 67108865 bytes) answer)) given told

-- an input of which no more bytes than may be read are read is read whole
read_whole : (input : List ℕ) → length (take 67108865 input) ≤ 67108864 → take 67108865 input ≡ input
read_whole input short = at (cases_lt (length input) 67108865)
  where
    at : (length input < 67108865) ⊎ (67108865 ≤ length input) → take 67108865 input ≡ input
    at (inl less) = take_all 67108865 input (omega (arith, less))
    at (inr more) = let size = length-take-le 67108865 input more in absurd (omega (arith, size, short))

-- with status 0 it is yes
pub says_yes : (left : Option (List ℕ)) (answer : Result Audited Finding) (status : Status) (text : List ℕ) → IsFindingTold answer status text
    → AuditsLeft left answer → status ≡ Done → (input : List ℕ) → left ≡ Some input → IsYesOf input text
says_yes left (Ok audited) status text told audits done input given =
    let audit = audits input given in
    (audited, subst (λ (bytes : List ℕ). HoldsIn (whole_text bytes) audited) (read_whole input audit.0) audit.1, told.1)
says_yes left (Err (Differs line)) status text told audits done input given = let clash : Done ≡ Refused = sym done ∙ told.0 in absurd cc
says_yes left (Err (Row row reason)) status text told audits done input given = let clash : Done ≡ Refused = sym done ∙ told.0 in absurd cc
says_yes left (Err (Text fault)) status text told audits done input given = absurd told

-- a log is judged with one of two statuses
pub either_of : (answer : Result Audited Finding) (status : Status) (text : List ℕ) → IsFindingTold answer status text → (status ≡ Done) ⊎ (status ≡ Refused)
either_of (Ok audited) status text told = inl told.0
either_of (Err (Differs line)) status text told = inr told.0
either_of (Err (Row row reason)) status text told = inr told.0
either_of (Err (Text fault)) status text told = absurd told

pub ends_found : (left left' : Option (List ℕ)) (old new : Streams) (text : List ℕ) (status result : Status) → FindingIsDue left left' status text
    → Puts text status result old.taken new.taken old.write_faults new.write_faults → Ends (AuditDue left left') old new result
ends_found left left' old new text status result due put =
    ends_either (AuditDue left left') old new text Done Refused status result (λ (x : Status). FindingIsDue left left' x text) (λ h. h) (λ wrote. wrote)
    (λ h. h) (λ wrote. wrote) (either_of due.answer status text due.told) due put

-- why nothing is told of the log: it was answered, or memory ran out
abbrev pub IsWhy : Result Audited Finding → TextFault → Type 0
IsWhy answer fault = (answer ≡ Err (Text fault)) ⊎ (fault ≡ NoMemory)

pub refusal_due : (left left' : Option (List ℕ)) (answer : Result Audited Finding) (fault : TextFault) (text : List ℕ) → AuditsLeft left answer
    → FindingShows left answer left' → IsWhy answer fault → IsRefusalLine fault text → AuditRefusalIsDue left left' text
refusal_due left left' answer fault text audits shows (inl is) is_line =
    record {
      fault = fault;
      is_line = is_line;
      audit = subst (AuditsLeft left) is audits;
      shows = subst (λ (a : Result Audited Finding). FindingShows left a left') is shows;
    }
refusal_due left left' answer fault text audits shows (inr none) is_line = absurd (subst (λ (f : TextFault). IsRefusalLine f text) none is_line)

-- a failed read shows at the source
pub rose_where_read : (answer : Result Audited Finding) (fault : TextFault) (before after : ℕ) → IsWhy answer fault → fault ≡ FailedRead
    → (IsUnread answer → Rose before after) → Rose before after
rose_where_read answer fault before after (inl is) read rose = rose (subst IsUnread (sym (subst (λ (f : TextFault). answer ≡ Err (Text f)) read is)) refl)
rose_where_read answer fault before after (inr none) read rose = absurd (cc (sym read ∙ none))
