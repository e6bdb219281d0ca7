-- A section of a text, and what is read of it.
use Rattle.std.specs.Prelude.{◌≡◌, ℕ, ◌+◌, List, [], Option, None, Some, IsSomeAnd, Result, Ok, Err, OnErr}
use Rattle.std.specs.Io.KnownBytes.{IsAtEnd}
use Rattle.lift_text.specs.Reading.{TextState, Reading, reading, line_with, finished, bad_line, past_limit}
use Rattle.lift_text.specs.declared.codes.TextCode.{TextCode}
use Rattle.lift_text.specs.declared.codes.TextCode.TheVariants.{CutShort}
use Rattle.lift_text.specs.declared.faults.TextFault.{TextFault}
use Rattle.lift_text.specs.declared.faults.TextFault.TheVariants.{Read, TooLong, Bad, NoMemory}
use Rattle.text_sections.specs.declared.faults.LineFault.{LineFault}
use Rattle.text_sections.specs.declared.faults.LineFault.TheVariants.{Bad as BadLine, NoMemory as NoMemoryForLine}
use Rattle.text_sections.specs.Judging.{Judged}
use Rattle.text_sections.specs.declared.sections.AfterLine.{AfterLine}
use Rattle.text_sections.specs.declared.sections.AfterLine.TheVariants.{More, Whole}

-- The words of a line.
abbrev pub Line : Type 0
Line = List (List ℕ)

-- What a line does to a section: it goes on in a new state, or it is whole with this line, or the line
-- is bad with a code.
pub data Step (A : Type 0) : Type 0 where
  goes_on : A → Step A
  is_whole : A → Step A
  is_bad : TextCode → Step A

-- the step that words make which are judged
abbrev pub step_of : {A : Type 0} → Judged (Step A) → Step A
step_of (Ok step) = step
step_of (Err code) = is_bad code

-- What is read of a section: its last state and what is left unread behind it, or the first bad line
-- with its code, or that the text is too long.
pub data Outcome (A : Type 0) : Type 0 where
  accepted : A → Reading → Outcome A
  refused : ℕ → TextCode → Outcome A
  too_long : Outcome A

-- what follows a line with this number, by what it did and by how a section that goes on ends
abbrev pub continued : {A : Type 0} → Step A → ℕ → Reading → (A → Outcome A) → Outcome A
continued (goes_on state) line rest ends = ends state
continued (is_whole state) line rest ends = accepted state rest
continued (is_bad code) line rest ends = refused line code

-- What is read of a section, from a state on: its lines are judged in order, and the first bad one
-- decides. The input may not end before it: then it is cut short at the line behind the last.
abbrev pub outcome : {A : Type 0} → (A → Line → Step A) → Reading → A → Outcome A
outcome after (line_with line words rest) state = continued (after state words) line rest (outcome after rest)
outcome after (finished lines) state = refused (lines + 1) CutShort
outcome after (bad_line line code) state = refused line code
outcome after past_limit state = too_long

-- what was done with a line is what it does, but for want of memory
abbrev pub Did : {A : Type 0} → Step A → Result AfterLine LineFault → A → Type 0
Did step (Ok More) new = step ≡ goes_on new
Did step (Ok Whole) new = step ≡ is_whole new
Did step (Err (BadLine code)) new = step ≡ is_bad code
Did step (Err NoMemoryForLine) new = Unit {0}

-- What a call read of a section is what is read of it, by the answer, the last state and what is left
-- of the text. Nothing is said where the source does not tell what it has left, where a read failed and
-- where memory ran out.
abbrev pub ReadAs : {A : Type 0} → (A → Line → Step A) → Option TextState → A → Result Unit TextFault → A → Option TextState → Type 0
ReadAs after None state answer new rest = Unit {0}
ReadAs after (Some text) state (Ok done) new rest = IsSomeAnd rest (λ behind. outcome after (reading text) state ≡ accepted new (reading behind))
ReadAs after (Some text) state (Err (Bad line code)) new rest = outcome after (reading text) state ≡ refused line code
ReadAs after (Some text) state (Err TooLong) new rest = outcome after (reading text) state ≡ too_long
ReadAs after (Some text) state (Err Read) new rest = Unit {0}
ReadAs after (Some text) state (Err NoMemory) new rest = Unit {0}

-- A section is refused behind its last line only where its source is at its end: where the reader has failed in nothing
-- and stands at no line, nothing is left.
abbrev pub IsCutAtEnd : Result Unit TextFault → Option TextFault → Line → Option (List ℕ) → Type 0
IsCutAtEnd answer failure words left = OnErr answer (failure ≡ None → words ≡ [] → IsAtEnd left)
