-- What the command `table` leaves: what was read and written, and why it ended.
use Rattle.std.specs.Prelude.{◌≡◌, ℕ, List, [], ◌∷◌, codes}
use Rattle.elevator_model.specs.Travel.{Square, IsTravelSquare}
use Rattle.motion_table.specs.declared.triples.Triple.{Triple}
use Rattle.motion_table.specs.Triples.{IsFirstTriple, IsTable}
use Rattle.lift_text.specs.Reading.{reading}
use Rattle.lift_text.specs.Text.{line}
use Rattle.lift_text.specs.declared.codes.TextCode.TheVariants.{ShorterWay}
use Rattle.case_text.specs.TableTexts.{IsTableAlone, IsLoneTableFault}
use Rattle.command_ends.specs.Codes.{number_of}
use Rattle.command_ends.specs.Ends.{Streams, DueTexts}
use Rattle.command_ends.specs.InputFaults.{IsTextFault}
use Rattle.command_ends.specs.WholeTexts.{Form}
use Rattle.command_ends.specs.Runs.{Runs}
use Rattle.command_ends.specs.declared.status.Status.{Status}
use Rattle.command_ends.specs.declared.status.Status.TheVariants.{Done, Words, Stopped, Refused, Input, Read, Write, Memory}

-- ---- what is told of a table

abbrev pub direct_line : Square → List ℕ
direct_line t = line (codes "table ok") (t.floors ∷ [])

abbrev pub shorter_line : Triple → List ℕ
shorter_line triple = line (codes "no") (number_of ShorterWay ∷ triple.f ∷ triple.g ∷ triple.h ∷ [])

-- no way over a third floor is shorter, and the line says so
pub record IsToldDirect (t : Square) (text : List ℕ) : Type 0 where
  pub travel : IsTravelSquare t
  pub is_text : text ≡ direct_line t

-- some way is shorter, and the line tells the first three floors
pub record IsToldShorter (t : Square) (text : List ℕ) : Type 0 where
  pub table : IsTable t
  pub triple : Triple
  pub first : IsFirstTriple t triple
  pub is_text : text ≡ shorter_line triple

-- which line is told of a table with a status
abbrev pub IsToldOf : Square → DueTexts
IsToldOf t Done text = IsToldDirect t text
IsToldOf t Words text = ⊥
IsToldOf t Stopped text = ⊥
IsToldOf t Refused text = IsToldShorter t text
IsToldOf t Input text = ⊥
IsToldOf t Read text = ⊥
IsToldOf t Write text = ⊥
IsToldOf t Memory text = ⊥

-- ---- how the command ends

-- a text that says a table, or what is wrong with it
abbrev pub table_form : Form Square
table_form = record {
  Meaning = Square;
  says = λ text t. IsTableAlone (reading text) t;
  wrong = IsTextFault IsLoneTableFault;
  means = λ table t. table ≡ t;
  right = IsTable;
}

-- A table is answered by whether some way over a third floor is shorter, and any other input is refused.
abbrev pub RunsTable : (old new : Streams) → Status → Type 0
RunsTable old new status = Runs table_form IsToldOf old new status
