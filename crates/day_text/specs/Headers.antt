-- The header of rows, one building's or several banks', as the lines of a text stand.
use Rattle.std.specs.Prelude.{◌≡◌, ℕ, ◌+◌, ◌-◌, ◌≤◌, ◌<◌, ◌⊎◌, Bool, true, false, List, [], ◌∷◌, length, Option, None, Some, IsSomeAnd, Result, Ok, Err}
use Rattle.lift_text.specs.Lines.{pieces_of, line_of}
use Rattle.lift_text.specs.Reading.{TextState, line_limit}
use Rattle.lift_text.specs.declared.faults.TextFault.{TextFault}
use Rattle.lift_text.specs.declared.faults.TextFault.TheVariants.{TooLong, Bad}
use Rattle.lift_text.specs.declared.codes.TextCode.TheVariants.{CutShort, NoHeader}
use Rattle.text_sections.specs.Unfinished.{LacksEnd}
use Rattle.case_text.specs.CaseTexts.{Tells}
use Rattle.day_text.specs.declared.headers.Header.{Header}
use Rattle.day_text.specs.Records.{texts_of_line, header_fields}

-- a line with no byte before its end
abbrev pub IsEmptyLine : List ℕ → Type 0
IsEmptyLine piece = line_of piece ≡ []

-- a line that has the names of this header, and is not over long
pub record IsHeaderLine (header : Header) (piece : List ℕ) : Type 0 where
  pub short : length (line_of piece) ≤ line_limit
  pub names : texts_of_line (line_of piece) ≡ Some (header_fields header)

-- a line that is neither
pub record IsNoHeader (header : Header) (piece : List ℕ) : Type 0 where
  pub some : IsEmptyLine piece → ⊥
  pub other : IsHeaderLine header piece → ⊥

-- the text behind the first line of these, which has this piece
pub record IsBehindPiece (line limit : ℕ) (piece : List ℕ) (pieces : List (List ℕ)) (behind : TextState) : Type 0 where
  pub line_is : behind.line ≡ line + 1
  pub limit_is : behind.limit ≡ limit - length piece
  pub pieces_are : pieces_of behind.bytes ≡ pieces

-- Of the lines with their ends, after this many others, where at most `limit` bytes may be read, the first that is not
-- empty is this header, and the text goes on right behind it.
abbrev pub HeaderFirst : Header → (line limit : ℕ) → List (List ℕ) → TextState → Type 0
HeaderFirst header line limit [] behind = ⊥
HeaderFirst header line limit (piece ∷ pieces) behind =
    (length piece ≤ limit)
    × ((IsEmptyLine piece × HeaderFirst header (line + 1) (limit - length piece) pieces behind)
    ⊎ (IsHeaderLine header piece × IsBehindPiece line limit piece pieces behind))

-- The fault of the first line that is not empty: it is not this header, or goes past the most bytes that may be read,
-- or there is none.
abbrev pub NoHeaderFirst : Header → (line limit : ℕ) → List (List ℕ) → TextFault → Type 0
NoHeaderFirst header line limit [] fault = fault ≡ Bad (line + 1) CutShort
NoHeaderFirst header line limit (piece ∷ pieces) fault =
    ((limit < length piece) × (fault ≡ TooLong))
    ⊎ ((length piece ≤ limit)
    × ((IsEmptyLine piece × NoHeaderFirst header (line + 1) (limit - length piece) pieces fault)
    ⊎ (IsNoHeader header piece × (fault ≡ Bad (line + 1) NoHeader))))

abbrev pub HeaderInFront : Header → TextState → TextState → Type 0
HeaderInFront header text behind = HeaderFirst header text.line text.limit (pieces_of text.bytes) behind

abbrev pub IsHeaderFault : Header → TextState → TextFault → Type 0
IsHeaderFault header text fault = NoHeaderFirst header text.line text.limit (pieces_of text.bytes) fault

-- ---- what the readers answer, where the source tells what it has left

-- this header was in front, and this is left; or this is what is wrong
abbrev pub IsHeaderRead : Header → Option TextState → Result Unit TextFault → Option TextState → Type 0
IsHeaderRead header None answer now = Unit {0}
IsHeaderRead header (Some text) (Ok done) now = IsSomeAnd now (HeaderInFront header text)
IsHeaderRead header (Some text) (Err fault) now = Tells fault (IsHeaderFault header text fault)

-- the first line was passed, and it is one of these
pub record IsPassed (holds : List ℕ → Type 0) (before behind : TextState) : Type 0 where
  pub piece : List ℕ
  pub pieces : pieces_of before.bytes ≡ piece ∷ pieces_of behind.bytes
  pub within : length piece ≤ before.limit
  pub line_is : behind.line ≡ before.line + 1
  pub limit_is : behind.limit ≡ before.limit - length piece
  pub kind : holds piece

-- what one line is, true for this header and false for an empty line
abbrev pub IsLineRead : Header → Option TextState → Result Bool TextFault → Option TextState → Type 0
IsLineRead header None answer now = Unit {0}
IsLineRead header (Some before) (Ok true) now = IsSomeAnd now (IsPassed (IsHeaderLine header) before)
IsLineRead header (Some before) (Ok false) now = IsSomeAnd now (IsPassed IsEmptyLine before)
IsLineRead header (Some before) (Err fault) now = Tells fault (IsHeaderFault header before fault)

-- wherever this header in front ends, its line is not whole among the bytes that were taken
abbrev pub HeaderEndsBehind : Header → Option TextState → Option (List ℕ) → Type 0
HeaderEndsBehind header None left = Unit {0}
HeaderEndsBehind header (Some text) left = (rows : TextState) → HeaderInFront header text rows → LacksEnd (Some text) rows.line left
