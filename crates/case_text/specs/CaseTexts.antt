-- Which texts are cases, and what is wrong with any other.
use Rattle.std.specs.Prelude.{◌≡◌, ℕ, ◌≤◌, ◌⊎◌, List, ◌++◌, length, Option, None, Some, IfSome, IsSomeAnd, Result, Ok, Err, false}
use Rattle.elevator_model.specs.Building.{Building}
use Rattle.elevator_model.specs.Snapshot.{Snapshot}
use Rattle.lift_text.specs.Reading.{TextState, Reading, reading, whole_text, line_with, finished, bad_line, past_limit}
use Rattle.lift_text.specs.declared.faults.TextFault.{TextFault}
use Rattle.lift_text.specs.declared.faults.TextFault.TheVariants.{Read, TooLong, Bad, NoMemory}
use Rattle.lift_text.specs.declared.codes.TextCode.TheVariants.{OutOfOrder}
use Rattle.text_sections.specs.Sections.{Line, Outcome, refused, too_long, outcome}
use Rattle.text_sections.specs.Canonical.{BeginsWith}
use Rattle.building_text.specs.BuildingText.{IsBuildingText}
use Rattle.building_text.specs.Drafts.{no_draft, after as after_building_line}
use Rattle.building_text.specs.Written.{building_text, HasText as BuildingHasText}
use Rattle.snapshot_text.specs.Snapshots.{StandsFor}
use Rattle.snapshot_text.specs.Drafts.{blank, after as after_snapshot_line}
use Rattle.snapshot_text.specs.Texts.{snapshot_text, HasText as SnapshotHasText}

-- ---- cases

-- the lines in front stand for this building, and this comes after them
abbrev pub BuildingInFront : Reading → Building → Reading → Type 0
BuildingInFront read b rest = (lines : List Line) × BeginsWith lines read rest × IsBuildingText lines b

-- the lines in front stand for this snapshot of its building, which is accepted, and this comes after them
abbrev pub SnapshotInFront : Reading → Snapshot → Reading → Type 0
SnapshotInFront read s rest = (lines : List Line) × BeginsWith lines read rest × StandsFor s.building false lines s

-- a case: the lines of a building, and then those of a snapshot of it
pub record CaseInFront (read : Reading) (s : Snapshot) (rest : Reading) : Type 0 where
  pub between : Reading
  pub building : BuildingInFront read s.building between
  pub snapshot : SnapshotInFront between s rest

-- a case, and no other line with a word
abbrev pub IsCaseAlone : Reading → Snapshot → Type 0
IsCaseAlone read s = (lines : ℕ) × CaseInFront read s (finished lines)

-- these bytes are the text of the accepted snapshot and of its building
abbrev pub IsCaseText : List ℕ → Snapshot → Type 0
IsCaseText bytes s = IsCaseAlone (reading (whole_text bytes)) s

-- the canonical text of a case
abbrev pub case_text : Snapshot → List ℕ
case_text s = building_text s.building ++ snapshot_text s

-- the case has a text: its snapshot is accepted, its ids lie in the range of the text, and where the text
-- states no travel times, they are the least ones; and the text is not too long to be read
pub record HasText (s : Snapshot) : Type 0 where
  pub building : BuildingHasText s.building
  pub snapshot : SnapshotHasText s
  pub short : length (case_text s) ≤ 67108864

-- ---- what is wrong with other texts

-- a section is refused with this fault; nothing is told of a failed read and of want of memory
abbrev pub IsRefusedWith : {A : Type 0} → Outcome A → TextFault → Type 0
IsRefusedWith out (Bad line code) = out ≡ refused line code
IsRefusedWith out TooLong = out ≡ too_long
IsRefusedWith out Read = Unit {0}
IsRefusedWith out NoMemory = Unit {0}

-- a fault in the building
abbrev pub IsBuildingFault : Reading → TextFault → Type 0
IsBuildingFault read fault = IsRefusedWith (outcome after_building_line read no_draft) fault

-- a fault in the snapshot, behind a building that is right
pub record IsSnapshotFault (read : Reading) (fault : TextFault) : Type 0 where
  pub building : Building
  pub between : Reading
  pub right : BuildingInFront read building between
  pub fault_is : IsRefusedWith (outcome after_snapshot_line between (blank building false)) fault

-- where nothing more is due: another line with a word is out of order
abbrev pub IsFaultBehind : Reading → TextFault → Type 0
IsFaultBehind (line_with line words rest) fault = fault ≡ Bad line OutOfOrder
IsFaultBehind (bad_line line code) fault = fault ≡ Bad line code
IsFaultBehind past_limit fault = fault ≡ TooLong
IsFaultBehind (finished lines) fault = ⊥

-- a fault behind a case that is right
pub record IsLateFault (read : Reading) (fault : TextFault) : Type 0 where
  pub snapshot : Snapshot
  pub behind : Reading
  pub right : CaseInFront read snapshot behind
  pub fault_is : IsFaultBehind behind fault

-- what is wrong with a case: its first bad line with one code, or that it is too long
abbrev pub IsCaseFault : Reading → TextFault → Type 0
IsCaseFault read fault = IsBuildingFault read fault ⊎ IsSnapshotFault read fault

-- the same of a case that nothing may follow
abbrev pub IsLoneCaseFault : Reading → TextFault → Type 0
IsLoneCaseFault read fault = IsCaseFault read fault ⊎ IsLateFault read fault

-- ---- what the readers answer, where the source tells what it has left

-- a failed read and want of memory tell nothing
abbrev pub Tells : TextFault → Type 0 → Type 0
Tells (Bad line code) P = P
Tells TooLong P = P
Tells Read P = Unit {0}
Tells NoMemory P = Unit {0}

-- this snapshot was read, and this is left
abbrev pub IsReadCase : Option TextState → Snapshot → Option TextState → Type 0
IsReadCase None s now = Unit {0}
IsReadCase (Some text) s now = IsSomeAnd now (λ behind. CaseInFront (reading text) s (reading behind))

abbrev pub IsRefusedCase : Option TextState → TextFault → Type 0
IsRefusedCase before fault = IfSome before (λ text. Tells fault (IsCaseFault (reading text) fault))

-- a snapshot is answered: only a failed read and want of memory come in its place
abbrev pub IsAnswered : Snapshot → Reading → Result Snapshot TextFault → Option TextState → Type 0
IsAnswered s rest (Ok snapshot) now = (snapshot ≡ s) × IsSomeAnd now (λ behind. reading behind ≡ rest)
IsAnswered s rest (Err fault) now = Tells fault ⊥

-- where the text begins with a case, that one is read, whatever follows
abbrev pub TakesCases : Option TextState → Result Snapshot TextFault → Option TextState → Type 0
TakesCases before answer now = (s : Snapshot) (rest : Reading) → IfSome before (λ text. CaseInFront (reading text) s rest → IsAnswered s rest answer now)

-- the same of a case that nothing may follow
abbrev pub IsReadAlone : Option TextState → Snapshot → Type 0
IsReadAlone before s = IfSome before (λ text. IsCaseAlone (reading text) s)

abbrev pub IsRefusedAlone : Option TextState → TextFault → Type 0
IsRefusedAlone before fault = IfSome before (λ text. Tells fault (IsLoneCaseFault (reading text) fault))

abbrev pub IsAnsweredAlone : Snapshot → Result Snapshot TextFault → Type 0
IsAnsweredAlone s (Ok snapshot) = snapshot ≡ s
IsAnsweredAlone s (Err fault) = Tells fault ⊥

abbrev pub TakesLoneCases : Option TextState → Result Snapshot TextFault → Type 0
TakesLoneCases before answer = (s : Snapshot) → IfSome before (λ text. IsCaseAlone (reading text) s → IsAnsweredAlone s answer)

-- nothing was left to read but lines with no word
abbrev pub IsEnd : Option TextState → Type 0
IsEnd before = IfSome before (λ text. (lines : ℕ) × (reading text ≡ finished lines))

abbrev pub IsNoEnd : Option TextState → TextFault → Type 0
IsNoEnd before fault = IfSome before (λ text. Tells fault (IsFaultBehind (reading text) fault))
