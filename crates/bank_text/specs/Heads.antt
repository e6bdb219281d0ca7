-- The lines between the sections of banks: what each says, and what the next line is.
use Rattle.std.specs.Prelude.{◌≡◌, ℕ, ◌+◌, Bool, Option, None, Some, IsSomeAnd, Result, Ok, Err, codes, if◌then◌else◌}
use Rattle.lift_text.specs.Reading.{TextState, Reading, reading, line_with, finished, bad_line, past_limit}
use Rattle.lift_text.specs.declared.codes.TextCode.{TextCode}
use Rattle.lift_text.specs.declared.codes.TextCode.TheVariants.{NoLineWord, OutOfOrder, CutShort}
use Rattle.lift_text.specs.declared.faults.TextFault.{TextFault}
use Rattle.lift_text.specs.declared.faults.TextFault.TheVariants.{Read, TooLong, Bad, NoMemory}
use Rattle.text_sections.specs.Between.{IsNextLine}
use Rattle.text_sections.specs.Judging.{Judged, ◌>>=◌, in_order}
use Rattle.text_sections.specs.Sections.{Line}
use Rattle.text_sections.specs.Words.{exactly, is_word, named, number, short}
use Rattle.bank_text.specs.declared.heads.Head.{Head}
use Rattle.bank_text.specs.declared.heads.Head.TheVariants.{Bank, Rows}

-- ---- what a line says

-- the first line of an input with banks
abbrev pub first_said : Line → Judged Unit
first_said words = named (codes "banks") words >>= λ _. (exactly words 2 >>= λ _. (number words 1 1 1 >>= λ _. Ok tt))

-- a bank with its id
abbrev pub bank_said : Line → Judged Head
bank_said words = exactly words 2 >>= λ _. (short words 1 >>= λ id. Ok (Bank id))

-- the rows, where some bank came before
abbrev pub rows_said : Bool → Line → Judged Head
rows_said some words = in_order some >>= λ _. (exactly words 1 >>= λ _. Ok Rows)

abbrev pub misplaced : Line → TextCode
misplaced words = if is_word words 0 (codes "banks") then OutOfOrder else NoLineWord

-- what begins with the line, after some bank or none
abbrev pub head_said : Bool → Line → Judged Head
head_said some words =
    if is_word words 0 (codes "bank") then bank_said words else (if is_word words 0 (codes "rows") then rows_said some words else Err (misplaced words))

-- ---- the next line

-- there is no next line with a word, for this fault
abbrev pub IsNoLine : Reading → TextFault → Type 0
IsNoLine (line_with line words rest) fault = ⊥
IsNoLine (finished lines) fault = fault ≡ Bad (lines + 1) CutShort
IsNoLine (bad_line line code) fault = fault ≡ Bad line code
IsNoLine past_limit fault = fault ≡ TooLong

-- the same, where the source tells what it has left; nothing is told of a failed read and of want of memory
abbrev pub IsNotNext : Option TextState → TextFault → Type 0
IsNotNext None fault = Unit {0}
IsNotNext (Some before) (Bad line code) = IsNoLine (reading before) (Bad line code)
IsNotNext (Some before) TooLong = IsNoLine (reading before) TooLong
IsNotNext (Some before) Read = Unit {0}
IsNotNext (Some before) NoMemory = Unit {0}

-- what is judged of the line with this number
abbrev pub at_line : {X : Type 0} → ℕ → Judged X → Result X TextFault
at_line line (Ok x) = Ok x
at_line line (Err code) = Err (Bad line code)

module _ {X : Type 0} (says : Line → Judged X) where
  -- the next line with a word says nothing of the kind, or there is none
  abbrev pub IsUnsaid : Reading → TextFault → Type 0
  IsUnsaid (line_with line words rest) fault = (code : TextCode) × (says words ≡ Err code) × (fault ≡ Bad line code)
  IsUnsaid (finished lines) fault = IsNoLine (finished lines) fault
  IsUnsaid (bad_line line code) fault = IsNoLine (bad_line line code) fault
  IsUnsaid past_limit fault = IsNoLine past_limit fault

  -- The next line with a word says this, and the text goes on right behind it; or this is what is wrong. Nothing is told of
  -- a failed read and of want of memory.
  abbrev pub IsSaidNext : Option TextState → Result X TextFault → Option TextState → Type 0
  IsSaidNext None answer now = Unit {0}
  IsSaidNext (Some before) (Ok x) now = IsSomeAnd now (λ behind. (words : Line) × IsNextLine before words behind × (says words ≡ Ok x))
  IsSaidNext (Some before) (Err (Bad line code)) now = IsUnsaid (reading before) (Bad line code)
  IsSaidNext (Some before) (Err TooLong) now = IsUnsaid (reading before) TooLong
  IsSaidNext (Some before) (Err Read) now = Unit {0}
  IsSaidNext (Some before) (Err NoMemory) now = Unit {0}
