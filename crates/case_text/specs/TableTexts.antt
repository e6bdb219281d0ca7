-- Which texts are tables, and what is wrong with any other.
use Rattle.std.specs.Prelude.{◌≡◌, ℕ, ◌≤◌, ◌⊎◌, List, [], ◌∷◌, ◌++◌, Option, None, Some, IfSome, IsSomeAnd, Result, Ok, Err, codes}
use Rattle.elevator_model.specs.Travel.{Square}
use Rattle.lift_text.specs.Reading.{TextState, Reading, reading, whole_text, finished}
use Rattle.lift_text.specs.declared.faults.TextFault.{TextFault}
use Rattle.text_sections.specs.Judging.{Judged, ◌>>=◌}
use Rattle.text_sections.specs.Words.{exactly, number, named, says_end}
use Rattle.text_sections.specs.Sections.{Line, outcome}
use Rattle.text_sections.specs.Canonical.{BeginsWith}
use Rattle.building_text.specs.BuildingText.{AreRowLines}
use Rattle.case_text.specs.CaseTexts.{IsRefusedWith, IsFaultBehind, Tells}
use Rattle.case_text.specs.TableDrafts.{no_draft, after}

-- ---- tables

-- the version that the first line says
abbrev pub says_head : Line → Judged ℕ
says_head words = named (codes "table") words >>= λ _. (exactly words 2 >>= λ _. number words 1 1 1)

-- These lines say the table: the first line, the times from each floor to each, and the end.
pub record AreTableLines (lines : List Line) (t : Square) : Type 0 where
  pub head : Line
  pub rows : List Line
  pub end : Line
  pub lines_are : lines ≡ head ∷ (rows ++ end ∷ [])
  pub head_is_said : says_head head ≡ Ok 1
  pub floors_low : 2 ≤ t.floors
  pub floors_high : t.floors ≤ 64
  pub rows_are_said : AreRowLines t.floors 0 rows t.times
  pub end_is_said : says_end end ≡ Ok tt

-- the lines in front say this table, and this comes after them
abbrev pub TableInFront : Reading → Square → Reading → Type 0
TableInFront read t rest = (lines : List Line) × BeginsWith lines read rest × AreTableLines lines t

-- a table, and no other line with a word
abbrev pub IsTableAlone : Reading → Square → Type 0
IsTableAlone read t = (lines : ℕ) × TableInFront read t (finished lines)

-- these bytes are the text of the table
abbrev pub IsTableText : List ℕ → Square → Type 0
IsTableText bytes t = IsTableAlone (reading (whole_text bytes)) t

-- ---- what is wrong with other texts

-- a fault in the table
abbrev pub IsTableFault : Reading → TextFault → Type 0
IsTableFault read fault = IsRefusedWith (outcome after read no_draft) fault

-- a fault behind a table that is right
pub record IsLateFault (read : Reading) (fault : TextFault) : Type 0 where
  pub table : Square
  pub behind : Reading
  pub right : TableInFront read table behind
  pub fault_is : IsFaultBehind behind fault

-- what is wrong with the text: its first bad line with one code, or that it is too long
abbrev pub IsLoneTableFault : Reading → TextFault → Type 0
IsLoneTableFault read fault = IsTableFault read fault ⊎ IsLateFault read fault

-- ---- what the readers answer, where the source tells what it has left

-- this table was read, and this is left
abbrev pub IsReadTable : Option TextState → Square → Option TextState → Type 0
IsReadTable None t now = Unit {0}
IsReadTable (Some text) t now = IsSomeAnd now (λ behind. TableInFront (reading text) t (reading behind))

abbrev pub IsRefusedTable : Option TextState → TextFault → Type 0
IsRefusedTable before fault = IfSome before (λ text. Tells fault (IsTableFault (reading text) fault))

-- a table is answered: only a failed read and want of memory come in its place
abbrev pub IsAnswered : Square → Reading → Result Square TextFault → Option TextState → Type 0
IsAnswered t rest (Ok table) now = (table ≡ t) × IsSomeAnd now (λ behind. reading behind ≡ rest)
IsAnswered t rest (Err fault) now = Tells fault ⊥

-- where the text begins with a table, that one is read, whatever follows
abbrev pub TakesTables : Option TextState → Result Square TextFault → Option TextState → Type 0
TakesTables before answer now = (t : Square) (rest : Reading) → IfSome before (λ text. TableInFront (reading text) t rest → IsAnswered t rest answer now)

-- the same of a table that nothing may follow
abbrev pub IsReadAlone : Option TextState → Square → Type 0
IsReadAlone before t = IfSome before (λ text. IsTableAlone (reading text) t)

abbrev pub IsRefusedAlone : Option TextState → TextFault → Type 0
IsRefusedAlone before fault = IfSome before (λ text. Tells fault (IsLoneTableFault (reading text) fault))

abbrev pub IsAnsweredAlone : Square → Result Square TextFault → Type 0
IsAnsweredAlone t (Ok table) = table ≡ t
IsAnsweredAlone t (Err fault) = Tells fault ⊥

abbrev pub TakesLoneTables : Option TextState → Result Square TextFault → Type 0
TakesLoneTables before answer = (t : Square) → IfSome before (λ text. IsTableAlone (reading text) t → IsAnsweredAlone t answer)
