-- Whole texts of one form, and what a reader of them answers.
use Rattle.std.specs.Prelude.{◌≡◌, Option, IfSome, Result, Ok, Err}
use Rattle.elevator_model.specs.Snapshot.{Snapshot, IsAccepted}
use Rattle.lift_text.specs.Reading.{TextState, reading}
use Rattle.case_text.specs.CaseTexts.{IsCaseAlone, IsLoneCaseFault}
use Rattle.command_ends.specs.declared.input_faults.InputFault.{InputFault}
use Rattle.command_ends.specs.InputFaults.{IsTextFault, Tells}

-- a form of whole texts, of which values of this type are read
pub record Form (V : Type 0) : Type 1 where
  -- what a text can say, and that it says this and nothing else
  pub Meaning : Type 0
  pub says : TextState → Meaning → Type 0
  -- it says nothing, and this is wrong with it first
  pub wrong : TextState → InputFault → Type 0
  -- the value is read where the text says this
  pub means : V → Meaning → Type 0
  -- what holds of each value that is read
  pub right : V → Type 0

-- a text that says a case, or what is wrong with it
abbrev pub case_form : Form Snapshot
case_form = record {
  Meaning = Snapshot;
  says = λ text s. IsCaseAlone (reading text) s;
  wrong = IsTextFault IsLoneCaseFault;
  means = λ snapshot s. snapshot ≡ s;
  right = IsAccepted;
}

-- ---- what is answered, where the source tells what it has left

module _ {V : Type 0} (form : Form V) where
  -- the text says what was read
  abbrev pub IsReadAs : Option TextState → V → Type 0
  IsReadAs before value = (said : form.Meaning) × form.means value said × IfSome before (λ text. form.says text said)

  -- it is wrong, as is told
  abbrev pub IsRefusedAs : Option TextState → InputFault → Type 0
  IsRefusedAs before fault = IfSome before (λ text. Tells fault (form.wrong text fault))

  -- this is read: only a failed read and want of memory come in its place
  abbrev pub IsAnswered : form.Meaning → Result V InputFault → Type 0
  IsAnswered said (Ok value) = form.means value said
  IsAnswered said (Err fault) = Tells fault ⊥

  -- where it says something, that is read
  abbrev pub Takes : Option TextState → Result V InputFault → Type 0
  Takes before answer = (said : form.Meaning) → IfSome before (λ text. form.says text said → IsAnswered said answer)
