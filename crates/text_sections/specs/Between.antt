-- The lines with a word that stand between one place of a text and a later one.
use Rattle.std.specs.Prelude.{◌≡◌, List, [], ◌∷◌, Option, None, Some, IsSomeAnd}
use Rattle.lift_text.specs.Reading.{TextState, reading, line_with, Passed}
use Rattle.text_sections.specs.Sections.{Line}

-- the next line with a word has these words, and the text goes on right behind it
pub record IsNextLine (before : TextState) (words : Line) (behind : TextState) : Type 0 where
  pub reads : reading before ≡ line_with behind.line words (reading behind)
  pub passed : Passed before behind

-- The lines with a word from one place to another, where the text goes on right behind the last of them.
abbrev pub AreBetween : TextState → List Line → TextState → Type 0
AreBetween before [] behind = before ≡ behind
AreBetween before (words ∷ lines) behind = (middle : TextState) × IsNextLine before words middle × AreBetween middle lines behind

-- the text goes on right behind some line, where the source tells what it has left
abbrev pub StandsBehind : Option TextState → Option TextState → Type 0
StandsBehind None now = Unit {0}
StandsBehind (Some before) now = IsSomeAnd now (λ behind. (lines : List Line) × AreBetween before lines behind)
