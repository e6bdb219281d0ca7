-- Where a section ends that was not read to its end.
use Rattle.std.specs.Prelude.{◌≡◌, ◌==◌, ℕ, ◌+◌, ◌<◌, List, ◌++◌, count_by, Option, None, Some, IsSomeAnd}
use Rattle.lift_text.specs.Reading.{TextState}
use Rattle.text_sections.specs.Sections.{Line, Step}
use Rattle.text_sections.specs.Between.{AreBetween}
use Rattle.text_sections.specs.Canonical.{Makes}

-- how many LFs bytes have, and so how many lines are whole among them
abbrev pub line_feeds : List ℕ → ℕ
line_feeds bytes = count_by (λ b. b == 10) bytes

-- Of a text all but these last bytes were taken, and its line with this number is not whole, with its LF, among those
-- that were.
pub record IsUnended (text : TextState) (number : ℕ) (rest : List ℕ) : Type 0 where
  pub taken : List ℕ
  pub split : text.bytes ≡ taken ++ rest
  pub few : text.line + line_feeds taken < number

-- the same, where the source tells what it has left
abbrev pub LacksEnd : Option TextState → ℕ → Option (List ℕ) → Type 0
LacksEnd None number left = Unit {0}
LacksEnd (Some text) number left = IsSomeAnd left (λ rest. IsUnended text number rest)

-- wherever the section ends, its last line is not whole among the bytes that were taken
abbrev pub EndsBehind : {A : Type 0} → (A → Line → Step A) → Option TextState → A → Option (List ℕ) → Type 0
EndsBehind after None state left = Unit {0}
EndsBehind {A} after (Some text) state left =
    (lines : List Line) (end : A) (behind : TextState) → AreBetween text lines behind → Makes after lines state end → LacksEnd (Some text) behind.line left
