-- How a command ends that reads its whole input and then puts its answer, or what is wrong with the input. Behind `put`,
-- `ends_put` or `ends_either` shows the clause `Ends`, and `put_whole` the status, unless the sink failed. Behind
-- `put_fault` it is `ends_fault`, and of the status `fault_memory`, where the input is a right one, or `fault_status`.
-- Behind another line that refuses the input it is `ends_line`, and of the status `line_status`.
use Rattle.std.proofs.Common.{◌≡◌, ◌⊎◌, ℕ, Option, List, refl, sym, subst, inl, inr}
use Rattle.byte_streams.specs.Streams.{Rose}
use Rattle.lift_text.specs.declared.codes.TextCode.{TextCode}
use Rattle.lift_text.specs.declared.faults.TextFault.{TextFault}
use Rattle.lift_text.specs.declared.faults.TextFault.TheVariants.{Read as FailedRead, TooLong, Bad, NoMemory}
use Rattle.command_ends.specs.declared.status.Status.{Status}
use Rattle.command_ends.specs.declared.status.Status.TheVariants.{Done, Words, Stopped, Refused, Input, Read, Write, Memory}
use Rattle.command_ends.specs.Ends.{Streams, DueTexts, Wrote, Ends, Puts, PutsFault, PutsLine, IsRefusalLine}

-- ---- a text that is due

-- a text that is due was put, with a status of those texts
pub ends_put : (due : DueTexts) (old new : Streams) (text : List ℕ) (status result : Status) → due status text
    → (Wrote due old new status → Ends due old new status) → Puts text status result old.taken new.taken old.write_faults new.write_faults
    → Ends due old new result
ends_put due old new text status result is_due as_end (inl put) =
    subst (Ends due old new) (sym put.0) (as_end (record { text = text; is_due = is_due; written = put.1 }))
ends_put due old new text status result is_due as_end (inr put) =
    subst (Ends due old new) (sym put.1)
    (record { status = status; text = text; is_due = is_due; count = put.0; within = put.2; rose = put.3; written = put.4 })

-- so of an answer that has one of two statuses
pub ends_either : (due : DueTexts) (old new : Streams) (text : List ℕ) (first second status result : Status) (IsAnswer : Status → Type 0)
    → (IsAnswer first → due first text) → (Wrote due old new first → Ends due old new first) → (IsAnswer second → due second text)
    → (Wrote due old new second → Ends due old new second)
    → (status ≡ first) ⊎ (status ≡ second) → IsAnswer status → Puts text status result old.taken new.taken old.write_faults new.write_faults
    → Ends due old new result
ends_either due old new text first second status result IsAnswer due_first end_first due_second end_second either answer put =
    elim either [ inl is ↦ with_status first is due_first end_first | inr is ↦ with_status second is due_second end_second ]
  where
    with_status : (x : Status) → status ≡ x → (IsAnswer x → due x text) → (Wrote due old new x → Ends due old new x) → Ends due old new result
    with_status x is as_due as_end =
        ends_put due old new text x result (as_due (subst IsAnswer is answer)) as_end
        (subst (λ (y : Status). Puts text y result old.taken new.taken old.write_faults new.write_faults) is put)

-- unless the sink failed, that status is the answer
pub put_whole : (text : List ℕ) (status result : Status) (old new : Option (List ℕ)) (before after : ℕ) → Puts text status result old new before after
    → (Rose before after → ⊥) → result ≡ status
put_whole text status result old new before after (inl put) sure = put.0
put_whole text status result old new before after (inr put) sure = absurd (sure put.3)

-- ---- an input that was not taken

-- a line that refuses the input is due where it was put
pub ends_line : (due : DueTexts) (IsLine : List ℕ → Type 0) (old new : Streams) (result : Status) → ((text : List ℕ) → IsLine text → due Input text)
    → PutsLine IsLine result old.taken new.taken old.write_faults new.write_faults → Ends due old new result
ends_line due IsLine old new result as_due (inl put) = ends_put due old new put.0 Input result (as_due put.0 put.1) (λ wrote. wrote) put.2
ends_line due IsLine old new result as_due (inr none) = subst (Ends due old new) (sym none.0) none.1

-- the refusal line is due where it was put, and after a failed read nothing was written
pub ends_fault : (due : DueTexts) (fault : TextFault) (old new : Streams) (result : Status) → ((text : List ℕ) → IsRefusalLine fault text → due Input text)
    → (fault ≡ FailedRead → Rose old.read_faults new.read_faults) → PutsFault fault result old.taken new.taken old.write_faults new.write_faults
    → Ends due old new result
ends_fault due (Bad number code) old new result as_due rose put = ends_line due (IsRefusalLine (Bad number code)) old new result as_due put
ends_fault due TooLong old new result as_due rose put = ends_line due (IsRefusalLine TooLong) old new result as_due put
ends_fault due FailedRead old new result as_due rose put = subst (Ends due old new) (sym put.0) (record { rose = rose refl; unwritten = put.1 })
ends_fault due NoMemory old new result as_due rose put = subst (Ends due old new) (sym put.0) put.1

-- unless the sink failed, the input was refused
pub line_status : (IsLine : List ℕ → Type 0) (result : Status) (old new : Option (List ℕ)) (before after : ℕ) → PutsLine IsLine result old new before after
    → (Rose before after → ⊥) → (result ≡ Input) ⊎ (result ≡ Memory)
line_status IsLine result old new before after (inl put) sure = inl (put_whole put.0 Input result old new before after put.2 sure)
line_status IsLine result old new before after (inr none) sure = inr none.0

-- unless the source or the sink failed, the input was refused
pub fault_status : (fault : TextFault) (result : Status) (old new : Option (List ℕ)) (before after : ℕ) → PutsFault fault result old new before after
    → (fault ≡ FailedRead → ⊥) → (Rose before after → ⊥) → (result ≡ Input) ⊎ (result ≡ Memory)
fault_status (Bad number code) result old new before after put read sure = line_status (IsRefusalLine (Bad number code)) result old new before after put sure
fault_status TooLong result old new before after put read sure = line_status (IsRefusalLine TooLong) result old new before after put sure
fault_status FailedRead result old new before after put read sure = absurd (read refl)
fault_status NoMemory result old new before after put read sure = inr put.0

-- ---- what a reader tells of its fault

-- `Told` is what the reader tells. It counts where the line is bad or the input is too long: of a failed read and when out
-- of memory a reader tells nothing.
module _ (Told Is : TextFault → Type 0) (bad : (number : ℕ) (code : TextCode) → Told (Bad number code) → Is (Bad number code))
    (long : Told TooLong → Is TooLong) where
  -- a refusal line comes with what is told of its fault
  pub told_by_line : (fault : TextFault) (text : List ℕ) → IsRefusalLine fault text → Told fault → Is fault
  told_by_line (Bad number code) text is_line told = bad number code told
  told_by_line TooLong text is_line told = long told
  told_by_line FailedRead text is_line told = absurd is_line
  told_by_line NoMemory text is_line told = absurd is_line

-- where no text can be at fault, memory ran out
module _ (Told : TextFault → Type 0) (bad : (number : ℕ) (code : TextCode) → Told (Bad number code) → ⊥) (long : Told TooLong → ⊥) where
  pub fault_memory : (fault : TextFault) (result : Status) (old new : Option (List ℕ)) (before after : ℕ) → PutsFault fault result old new before after
      → Told fault → (fault ≡ FailedRead → ⊥) → result ≡ Memory
  fault_memory (Bad number code) result old new before after put told read = absurd (bad number code told)
  fault_memory TooLong result old new before after put told read = absurd (long told)
  fault_memory FailedRead result old new before after put told read = absurd (read refl)
  fault_memory NoMemory result old new before after put told read = put.0

-- ---- more texts

-- whoever has more texts that may be due ends so too
pub ends_more : (due more : DueTexts) (old new : Streams) (status : Status) → ((status : Status) (text : List ℕ) → due status text → more status text)
    → Ends due old new status → Ends more old new status
ends_more due more old new Done as_more end = record { text = end.text; is_due = as_more Done end.text end.is_due; written = end.written }
ends_more due more old new Words as_more end = record { text = end.text; is_due = as_more Words end.text end.is_due; written = end.written }
ends_more due more old new Stopped as_more end = record { text = end.text; is_due = as_more Stopped end.text end.is_due; written = end.written }
ends_more due more old new Refused as_more end = record { text = end.text; is_due = as_more Refused end.text end.is_due; written = end.written }
ends_more due more old new Input as_more end = record { text = end.text; is_due = as_more Input end.text end.is_due; written = end.written }
ends_more due more old new Read as_more end = end
ends_more due more old new Write as_more end =
    record {
      status = end.status;
      text = end.text;
      is_due = as_more end.status end.text end.is_due;
      count = end.count;
      within = end.within;
      rose =
          end.rose;
      written = end.written;
    }
ends_more due more old new Memory as_more end = end
