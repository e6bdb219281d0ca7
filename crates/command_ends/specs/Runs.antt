-- What a command leaves that reads a whole text and answers it.
use Rattle.std.specs.Prelude.{◌≡◌, ℕ, ◌⊎◌, List, Option, Some, option_map}
use Rattle.std.specs.Io.KnownBytes.{IsAtEnd}
use Rattle.byte_streams.specs.Streams.{Rose}
use Rattle.lift_text.specs.Reading.{whole_text}
use Rattle.command_ends.specs.declared.input_faults.InputFault.{InputFault}
use Rattle.command_ends.specs.declared.status.Status.{Status}
use Rattle.command_ends.specs.declared.status.Status.TheVariants.{Done, Words, Stopped, Refused, Input, Read, Write, Memory}
use Rattle.command_ends.specs.Ends.{DueTexts, Ends, Streams}
use Rattle.command_ends.specs.InputFaults.{IsFaultLine, Shows}
use Rattle.command_ends.specs.WholeTexts.{Form}

-- the statuses with which an input is answered
abbrev pub IsOfAnswer : Status → Type 0
IsOfAnswer Done = Unit {0}
IsOfAnswer Words = ⊥
IsOfAnswer Stopped = Unit {0}
IsOfAnswer Refused = Unit {0}
IsOfAnswer Input = ⊥
IsOfAnswer Read = ⊥
IsOfAnswer Write = ⊥
IsOfAnswer Memory = ⊥

-- The source had this input, and neither it nor the sink failed.
pub record NoneFailed (old new : Streams) (input : List ℕ) : Type 0 where
  pub given : old.left ≡ Some input
  pub reads : Rose old.read_faults new.read_faults → ⊥
  pub writes : Rose old.write_faults new.write_faults → ⊥

module _ {V : Type 0} (form : Form V) where
  -- the input says nothing
  abbrev pub SaysNothing : (input : List ℕ) → Type 0
  SaysNothing input = (said : form.Meaning) → form.says (whole_text input) said → ⊥

  -- The refusal line is due where the input says nothing, with what is wrong with it first, and where the end of the line
  -- that it names shows in the bytes that were taken.
  pub record RefusalIsDue (left left' : Option (List ℕ)) (text : List ℕ) : Type 0 where
    pub fault : InputFault
    pub is_line : IsFaultLine fault text
    pub read : (input : List ℕ) → left ≡ Some input → form.wrong (whole_text input) fault
    pub shows : Shows (option_map whole_text left) fault left'

-- `told` says which text is due with which status, by the value that was read
module _ {V : Type 0} (form : Form V) (told : V → DueTexts) where
  -- The text is due where the whole input was read and says what it is told of.
  pub record AnswerIsDue (left left' : Option (List ℕ)) (status : Status) (text : List ℕ) : Type 0 where
    pub value : V
    pub right : form.right value
    pub said : form.Meaning
    pub means : form.means value said
    pub read : (input : List ℕ) → left ≡ Some input → form.says (whole_text input) said
    pub ended : IsAtEnd left'
    pub is_told : told value status text

  -- the texts of the command, by what the source had left before it and has left after it
  abbrev pub Due : (left left' : Option (List ℕ)) → DueTexts
  Due left left' Done text = AnswerIsDue left left' Done text
  Due left left' Words text = ⊥
  Due left left' Stopped text = AnswerIsDue left left' Stopped text
  Due left left' Refused text = AnswerIsDue left left' Refused text
  Due left left' Input text = RefusalIsDue form left left' text
  Due left left' Read text = ⊥
  Due left left' Write text = ⊥
  Due left left' Memory text = ⊥

  -- some text is due with this status where the input says this
  pub record IsToldSo (said : form.Meaning) (status : Status) : Type 0 where
    pub value : V
    pub means : form.means value said
    pub text : List ℕ
    pub is_told : told value status text

  pub record Runs (old new : Streams) (status : Status) : Type 0 where
    -- what was read and written, with each status
    pub ends : Ends (Due old.left new.left) old new status
    -- where the input says something, it is told of that, or memory ran out
    pub answers : (input : List ℕ) (said : form.Meaning) → NoneFailed old new input → form.says (whole_text input) said
        → IsToldSo said status ⊎ (status ≡ Memory)
    -- where it says nothing, it is refused, or memory ran out
    pub refuses : (input : List ℕ) → NoneFailed old new input → SaysNothing form input → (status ≡ Input) ⊎ (status ≡ Memory)
