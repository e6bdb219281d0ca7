-- The texts that are due for one input.
use Rattle.std.proofs.Common.{◌≡◌, ℕ, List, take, Option, Some, Result, Ok, Err, refl, sym, ap, ◌∙◌}
use Rattle.std.specs.Io.KnownBytes.{append_known}
use Rattle.lift_text.specs.declared.faults.TextFault.{TextFault}
use Rattle.lift_text.specs.declared.faults.TextFault.TheVariants.{Bad, NoMemory, Read as FailedRead, TooLong}
use Rattle.day_audit.specs.declared.findings.Finding.{Finding}
use Rattle.day_audit.specs.declared.findings.Finding.TheVariants.{Differs, Row, Text}
use Rattle.day_audit.specs.declared.logs.Audited.{Audited}
use Rattle.day_audit.specs.Inputs.{IsAudit}
use Rattle.day_audit.specs.OneAnswer.{IsToldOfInput, told_by}
use Rattle.day_audit.proofs.InputOnce.{one_answer}
use Rattle.command_ends.specs.Ends.{Ends, IsRefusalLine, Streams, Wrote}
use Rattle.command_ends.specs.declared.status.Status.{Status}
use Rattle.command_ends.specs.declared.status.Status.TheVariants.{Done, Words, Stopped, Refused, Input, Read, Write, Memory}
use Rattle.day_commands.specs.AuditOutcome.{AuditDue, IsFindingTold}
use Rattle.day_commands.specs.OneText.{IsToldBy, OneEndLaw, OneTextLaw, status_of, text_of}

-- what is due tells an answer to the input
record IsDueFor (input : List ℕ) (status : Status) (text : List ℕ) : Type 0 where
  answer : Result Audited Finding
  told : IsToldOfInput answer
  audit : IsAudit (take 67108865 input) answer
  status_is : status ≡ status_of (told_by answer)
  text_is : text ≡ text_of (told_by answer)

finding_due : (input : List ℕ) (status : Status) (text : List ℕ) (answer : Result Audited Finding) → IsFindingTold answer status text
    → IsAudit (take 67108865 input) answer → IsDueFor input status text
finding_due input status text (Ok audited) told audit = record { answer = Ok audited; told = tt; audit = audit; status_is = told.0; text_is = told.1 }
finding_due input status text (Err (Differs line)) told audit =
    record { answer = Err (Differs line); told = tt; audit = audit; status_is = told.0; text_is = told.1 }
finding_due input status text (Err (Row row reason)) told audit =
    record { answer = Err (Row row reason); told = tt; audit = audit; status_is = told.0; text_is = told.1 }
finding_due input status text (Err (Text fault)) told audit = absurd told

refusal_due : (input text : List ℕ) (fault : TextFault) → IsRefusalLine fault text → IsAudit (take 67108865 input) (Err (Text fault))
    → IsDueFor input Input text
refusal_due input text (Bad line code) told audit = record { answer = Err (Text (Bad line code)); told = tt; audit = audit; status_is = refl; text_is = told }
refusal_due input text TooLong told audit = record { answer = Err (Text TooLong); told = tt; audit = audit; status_is = refl; text_is = told }
refusal_due input text FailedRead told audit = absurd told
refusal_due input text NoMemory told audit = absurd told

due_for : (input : List ℕ) (left : Option (List ℕ)) (status : Status) (text : List ℕ) → AuditDue (Some input) left status text → IsDueFor input status text
due_for input left Done text due = finding_due input Done text due.answer due.told (due.audit input refl)
due_for input left Words text due = absurd due
due_for input left Stopped text due = absurd due
due_for input left Refused text due = finding_due input Refused text due.answer due.told (due.audit input refl)
due_for input left Input text due = refusal_due input text due.fault due.is_line (due.audit input refl)
due_for input left Read text due = absurd due
due_for input left Write text due = absurd due
due_for input left Memory text due = absurd due

pub one_text : OneTextLaw
one_text input left left' status status' text text' due due' =
    let one = due_for input left status text due in
    let other = due_for input left' status' text' due' in
    let same = one_answer (take 67108865 input) one.answer other.answer one.told other.told one.audit other.audit in
    (one.status_is ∙ ap status_of same ∙ sym other.status_is, one.text_is ∙ ap text_of same ∙ sym other.text_is)

-- ---- two calls

wrote : (input : List ℕ) (old new : Streams) (status : Status) → Ends (AuditDue (Some input) new.left) old new status → IsToldBy status
    → Wrote (AuditDue (Some input) new.left) old new status
wrote input old new Done ends told = ends
wrote input old new Words ends told = ends
wrote input old new Stopped ends told = ends
wrote input old new Refused ends told = ends
wrote input old new Input ends told = ends
wrote input old new Read ends told = absurd told
wrote input old new Write ends told = absurd told
wrote input old new Memory ends told = absurd told

pub one_end : OneEndLaw
one_end input old new old' new' status status' ends ends' told told' =
    let one = wrote input old new status ends told in
    let other = wrote input old' new' status' ends' told' in
    let same = one_text input new.left new'.left status status' one.text other.text one.is_due other.is_due in
    record {
      text = one.text;
      same = same.0;
      first = one.written;
      second = other.written ∙ ap (append_known old'.taken) (sym same.1);
    }
