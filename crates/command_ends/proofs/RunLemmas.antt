-- How a command ends that reads a whole text and answers it: what each return of `run_command` shows.
use Rattle.std.proofs.Common.{◌≡◌, ◌⊎◌, ℕ, Option, Some, List, Result, Ok, Err, option_map, refl, sym, ap, subst, inl, inr}
use Rattle.std.specs.Prelude.{IfSome}
use Rattle.std.specs.Io.KnownBytes.{IsAtEnd}
use Rattle.byte_streams.specs.Streams.{Rose}
use Rattle.lift_text.specs.Reading.{whole_text}
use Rattle.lift_text.specs.declared.faults.TextFault.{TextFault}
use Rattle.lift_text.specs.declared.faults.TextFault.TheVariants.{Read as FailedRead, TooLong, Bad, NoMemory}
use Rattle.case_text.specs.CaseTexts.{Tells as TextTells}
use Rattle.command_ends.specs.declared.input_faults.InputFault.{InputFault}
use Rattle.command_ends.specs.declared.input_faults.InputFault.TheVariants.{Text, Own}
use Rattle.command_ends.specs.declared.status.Status.{Status}
use Rattle.command_ends.specs.declared.status.Status.TheVariants.{Done, Words, Stopped, Refused, Input, Read, Write, Memory}
use Rattle.command_ends.specs.Ends.{DueTexts, Ends, IsOwnLine, Puts, Streams}
use Rattle.command_ends.specs.InputFaults.{IsFaultLine, PutsInputFault, Shows, Tells}
use Rattle.command_ends.specs.WholeTexts.{Form, IsAnswered, IsReadAs, IsRefusedAs, Takes}
use Rattle.command_ends.specs.Runs.{AnswerIsDue, Due, IsOfAnswer, IsToldSo, RefusalIsDue, Runs}
use Rattle.command_ends.proofs.EndLemmas.{ends_fault, ends_line, ends_put, fault_memory, fault_status, line_status, put_whole}

-- ---- of any fault

-- what is told by a line is told of the input
told_by : (fault : InputFault) (text : List ℕ) (P : Type 0) → IsFaultLine fault text → Tells fault P → P
told_by (Text (Bad line code)) text P is_line told = told
told_by (Text TooLong) text P is_line told = told
told_by (Text FailedRead) text P is_line told = absurd is_line
told_by (Text NoMemory) text P is_line told = absurd is_line
told_by (Own line code) text P is_line told = told

-- where nothing can be told of the input, memory ran out
memory_of : (fault : InputFault) (result : Status) (old new : Option (List ℕ)) (before after : ℕ) → PutsInputFault fault result old new before after
    → Tells fault ⊥ → (fault ≡ Text FailedRead → ⊥) → result ≡ Memory
memory_of (Text fault) result old new before after put never read =
    fault_memory (λ (f : TextFault). TextTells f ⊥) (λ number code none. none) (λ none. none) fault result old new before after put never
    (λ e. read (ap Text e))
memory_of (Own line code) result old new before after put never read = absurd never

-- unless the source or the sink failed, the input was refused
status_of : (fault : InputFault) (result : Status) (old new : Option (List ℕ)) (before after : ℕ) → PutsInputFault fault result old new before after
    → (fault ≡ Text FailedRead → ⊥) → (Rose before after → ⊥) → (result ≡ Input) ⊎ (result ≡ Memory)
status_of (Text fault) result old new before after put read sure = fault_status fault result old new before after put (λ e. read (ap Text e)) sure
status_of (Own line code) result old new before after put read sure = line_status (IsOwnLine line code) result old new before after put sure

-- a text is at fault as it is
pub same_text : (fault other : TextFault) → Text fault ≡ Text other → fault ≡ other
same_text fault other same = cc

-- ---- of what was read, where the source tells what it has left

read_of : {V : Type 0} (form : Form V) (left : Option (List ℕ)) (said : form.Meaning)
    → IfSome (option_map whole_text left) (λ text. form.says text said) → (input : List ℕ) → left ≡ Some input → form.says (whole_text input) said
read_of form left said read input given =
    subst (λ (x : Option (List ℕ)). IfSome (option_map whole_text x) (λ text. form.says text said)) given read

wrong_of : {V : Type 0} (form : Form V) (left : Option (List ℕ)) (fault : InputFault) (text : List ℕ) → IsFaultLine fault text
    → IsRefusedAs form (option_map whole_text left) fault → (input : List ℕ) → left ≡ Some input → form.wrong (whole_text input) fault
wrong_of form left fault text is_line refused input given =
    told_by fault text (form.wrong (whole_text input) fault) is_line
    (subst (λ (x : Option (List ℕ)). IsRefusedAs form (option_map whole_text x) fault) given refused)

answer_of : {V : Type 0} (form : Form V) (left : Option (List ℕ)) (answer : Result V InputFault) → Takes form (option_map whole_text left) answer
    → (input : List ℕ) (said : form.Meaning) → left ≡ Some input → form.says (whole_text input) said → IsAnswered form said answer
answer_of form left answer takes input said given says =
    (subst (λ (x : Option (List ℕ)). Takes form (option_map whole_text x) answer) given takes) said says

-- ---- how it ends

ends_answer : {V : Type 0} (form : Form V) (told : V → DueTexts) (left left' : Option (List ℕ)) (old new : Streams) (text : List ℕ) (status result : Status)
    → AnswerIsDue form told left left' status text → IsOfAnswer status → Puts text status result old.taken new.taken old.write_faults new.write_faults
    → Ends (Due form told left left') old new result
ends_answer form told left left' old new text Done result due fits put =
    ends_put (Due form told left left') old new text Done result due (λ wrote. wrote) put
ends_answer form told left left' old new text Stopped result due fits put =
    ends_put (Due form told left left') old new text Stopped result due (λ wrote. wrote) put
ends_answer form told left left' old new text Refused result due fits put =
    ends_put (Due form told left left') old new text Refused result due (λ wrote. wrote) put
ends_answer form told left left' old new text Words result due fits put = absurd fits
ends_answer form told left left' old new text Input result due fits put = absurd fits
ends_answer form told left left' old new text Read result due fits put = absurd fits
ends_answer form told left left' old new text Write result due fits put = absurd fits
ends_answer form told left left' old new text Memory result due fits put = absurd fits

refusal_due : {V : Type 0} (form : Form V) (left left' : Option (List ℕ)) (fault : InputFault) (text : List ℕ) → IsFaultLine fault text
    → IsRefusedAs form (option_map whole_text left) fault → Shows (option_map whole_text left) fault left' → RefusalIsDue form left left' text
refusal_due form left left' fault text is_line refused shows =
    record { fault = fault; is_line = is_line; read = wrong_of form left fault text is_line refused; shows = shows }

ends_refused : {V : Type 0} (form : Form V) (told : V → DueTexts) (left left' : Option (List ℕ)) (fault : InputFault) (old new : Streams) (result : Status)
    → IsRefusedAs form (option_map whole_text left) fault → Shows (option_map whole_text left) fault left'
    → (fault ≡ Text FailedRead → Rose old.read_faults new.read_faults)
    → PutsInputFault fault result old.taken new.taken old.write_faults new.write_faults → Ends (Due form told left left') old new result
ends_refused form told left left' (Text fault) old new result refused shows rose put =
    ends_fault (Due form told left left') fault old new result (λ text is_line. refusal_due form left left' (Text fault) text is_line refused shows)
    (λ e. rose (ap Text e)) put
ends_refused form told left left' (Own line code) old new result refused shows rose put =
    ends_line (Due form told left left') (IsOwnLine line code) old new result
    (λ text is_line. refusal_due form left left' (Own line code) text is_line refused shows) put

-- ---- each return

-- the answer was put
pub runs_answer : {V : Type 0} (form : Form V) (told : V → DueTexts) (old new : Streams) (value : V) (text : List ℕ) (status result : Status)
    → form.right value → IsReadAs form (option_map whole_text old.left) value → Takes form (option_map whole_text old.left) (Ok value)
    → IsAtEnd new.left → told value status text → IsOfAnswer status → Puts text status result old.taken new.taken old.write_faults new.write_faults
    → Runs form told old new result
runs_answer {V} form told old new value text status result right read takes ended is_told fits put =
    record {
      ends = ends_answer form told old.left new.left old new text status result due fits put;
      answers = λ input said none says.
          inl (so said (answer_of form old.left (Ok value) takes input said none.given says)
          (put_whole text status result old.taken new.taken old.write_faults new.write_faults put none.writes));
      refuses = λ input fine none. absurd (none read.0 (read_of form old.left read.0 read.2 input fine.given));
    }
  where
    due : AnswerIsDue form told old.left new.left status text
    due = record {
      value = value;
      right = right;
      said = read.0;
      means = read.1;
      read = read_of form old.left read.0 read.2;
      ended = ended;
      is_told = is_told;
    }

    so : (said : form.Meaning) → form.means value said → result ≡ status → IsToldSo form told said result
    so said means is = record { value = value; means = means; text = text; is_told = subst (λ (s : Status). told value s text) (sym is) is_told }

-- memory ran out while the input was answered
pub runs_out : {V : Type 0} (form : Form V) (told : V → DueTexts) (old new : Streams) → new.taken ≡ old.taken → Runs form told old new Memory
runs_out form told old new same =
    record { ends = same; answers = λ input said none says. inr refl; refuses = λ input fine none. inr refl }

-- what is wrong with the input was put
pub runs_refused : {V : Type 0} (form : Form V) (told : V → DueTexts) (old new : Streams) (fault : InputFault) (result : Status)
    → IsRefusedAs form (option_map whole_text old.left) fault → Takes form (option_map whole_text old.left) (Err fault)
    → Shows (option_map whole_text old.left) fault new.left → (fault ≡ Text FailedRead → Rose old.read_faults new.read_faults)
    → PutsInputFault fault result old.taken new.taken old.write_faults new.write_faults → Runs form told old new result
runs_refused form told old new fault result refused takes shows rose put =
    record {
      ends = ends_refused form told old.left new.left fault old new result refused shows rose put;
      answers = λ input said none says. inr (memory_of fault result old.taken new.taken old.write_faults new.write_faults put
          (answer_of form old.left (Err fault) takes input said none.given says) (λ e. none.reads (rose e)));
      refuses = λ input fine none. status_of fault result old.taken new.taken old.write_faults new.write_faults put
          (λ e. fine.reads (rose e)) fine.writes;
    }
