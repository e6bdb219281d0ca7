-- Which texts are a case, an answer to it and a certificate, and what is wrong with any other.
use Rattle.std.specs.Prelude.{◌≡◌, ℕ, ◌⊎◌, List, length, Option, IfSome, IsTrue, Result, Ok, Err}
use Rattle.elevator_model.specs.Snapshot.{Snapshot, IsAccepted, car_count}
use Rattle.search_model.specs.declared.Twig.{Twig}
use Rattle.search_model.specs.Certificates.{is_whole}
use Rattle.search_model.specs.Verdicts.{verdict_of}
use Rattle.lift_text.specs.Reading.{TextState, Reading, reading, whole_text, finished}
use Rattle.lift_text.specs.declared.faults.TextFault.{TextFault}
use Rattle.text_sections.specs.Sections.{Line, outcome}
use Rattle.text_sections.specs.Canonical.{BeginsWith}
use Rattle.case_text.specs.CaseTexts.{CaseInFront, IsCaseFault, IsRefusedWith, IsFaultBehind, Tells}
use Rattle.search_model.specs.declared.Stated.{Stated}
use Rattle.answer_text.specs.Answers.{StandsFor as StandsForAnswer}
use Rattle.answer_text.specs.Drafts.{blank as no_answer, after as after_answer_line}
use Rattle.cert_text.specs.Certs.{StandsFor as StandsForTree}
use Rattle.cert_text.specs.Drafts.{blank as no_tree, after as after_tree_line}
use Rattle.check_text.specs.declared.checked.Checked.{Checked}

-- ---- texts

-- the lines in front stand for this answer to the snapshot, and this comes after them
abbrev pub AnswerInFront : Reading → Snapshot → Stated → Reading → Type 0
AnswerInFront read s stated rest = (lines : List Line) × BeginsWith lines read rest × StandsForAnswer s lines stated

-- the lines in front stand for this tree, and this comes after them
abbrev pub TreeInFront : Reading → Snapshot → List Twig → Reading → Type 0
TreeInFront read s tree rest = (lines : List Line) × BeginsWith lines read rest × StandsForTree s lines tree

-- a case, an answer to it and a certificate, one after the other
pub record CheckInFront (read : Reading) (s : Snapshot) (stated : Stated) (tree : List Twig) (rest : Reading) : Type 0 where
  pub behind_case : Reading
  pub behind_answer : Reading
  pub case : CaseInFront read s behind_case
  pub answer : AnswerInFront behind_case s stated behind_answer
  pub certificate : TreeInFront behind_answer s tree rest

-- and no other line with a word
abbrev pub IsCheckAlone : Reading → Snapshot → Stated → List Twig → Type 0
IsCheckAlone read s stated tree = (lines : ℕ) × CheckInFront read s stated tree (finished lines)

-- these bytes are the text of the case, the answer and the certificate
abbrev pub IsCheckText : List ℕ → Snapshot → Stated → List Twig → Type 0
IsCheckText bytes s stated tree = IsCheckAlone (reading (whole_text bytes)) s stated tree

-- ---- what is wrong with other texts

-- a fault in the answer, behind a case that is right
pub record IsAnswerFault (read : Reading) (fault : TextFault) : Type 0 where
  pub snapshot : Snapshot
  pub between : Reading
  pub right : CaseInFront read snapshot between
  pub fault_is : IsRefusedWith (outcome after_answer_line between (no_answer snapshot)) fault

-- a fault in the certificate, behind a case and an answer that are right
pub record IsTreeFault (read : Reading) (fault : TextFault) : Type 0 where
  pub snapshot : Snapshot
  pub stated : Stated
  pub behind_case : Reading
  pub between : Reading
  pub right_case : CaseInFront read snapshot behind_case
  pub right_answer : AnswerInFront behind_case snapshot stated between
  pub fault_is : IsRefusedWith (outcome after_tree_line between (no_tree snapshot)) fault

-- a fault behind a case, an answer and a certificate that are right
pub record IsLateFault (read : Reading) (fault : TextFault) : Type 0 where
  pub snapshot : Snapshot
  pub stated : Stated
  pub tree : List Twig
  pub behind : Reading
  pub right : CheckInFront read snapshot stated tree behind
  pub fault_is : IsFaultBehind behind fault

-- what is wrong with the text: its first bad line with one code, or that it is too long
abbrev pub IsCheckFault : Reading → TextFault → Type 0
IsCheckFault read fault = IsCaseFault read fault ⊎ (IsAnswerFault read fault ⊎ (IsTreeFault read fault ⊎ IsLateFault read fault))

-- ---- what the reader answers

-- The answer and the tree that were read: the snapshot is accepted, cost and bound are the stated ones, the tree is
-- whole, and the verdict is that of all of them. Where the source tells what it has left, they are all that it had.
pub record IsChecked (before : Option TextState) (checked : Checked) : Type 0 where
  pub stated : Stated
  pub tree : List Twig
  pub accepted : IsAccepted checked.snapshot
  pub cars : length stated.plan ≡ car_count checked.snapshot
  pub cost : checked.cost ≡ stated.cost
  pub bound : checked.bound ≡ stated.bound
  pub whole : IsTrue (is_whole checked.snapshot tree)
  pub verdict : checked.verdict ≡ verdict_of checked.snapshot stated.plan stated.cost stated.bound tree
  pub read : IfSome before (λ text. IsCheckAlone (reading text) checked.snapshot stated tree)

abbrev pub IsRefusedCheck : Option TextState → TextFault → Type 0
IsRefusedCheck before fault = IfSome before (λ text. Tells fault (IsCheckFault (reading text) fault))

-- this was checked
pub record IsCheckOf (s : Snapshot) (stated : Stated) (tree : List Twig) (checked : Checked) : Type 0 where
  pub snapshot : checked.snapshot ≡ s
  pub cost : checked.cost ≡ stated.cost
  pub bound : checked.bound ≡ stated.bound
  pub verdict : checked.verdict ≡ verdict_of s stated.plan stated.cost stated.bound tree

-- this was checked: only a failed read and want of memory come in its place
abbrev pub IsAnsweredCheck : Snapshot → Stated → List Twig → Result Checked TextFault → Type 0
IsAnsweredCheck s stated tree (Ok checked) = IsCheckOf s stated tree checked
IsAnsweredCheck s stated tree (Err fault) = Tells fault ⊥

-- where the text is a case, an answer and a certificate, they are checked
abbrev pub TakesChecks : Option TextState → Result Checked TextFault → Type 0
TakesChecks before answer = (s : Snapshot) (stated : Stated) (tree : List Twig)
    → IfSome before (λ text. IsCheckAlone (reading text) s stated tree → IsAnsweredCheck s stated tree answer)
