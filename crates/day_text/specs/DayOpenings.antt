-- What stands before the rows of a day: a building, an opening snapshot of it, and the header of the rows.
use Rattle.std.specs.Prelude.{◌≡◌, ℕ, ◌+◌, ◌≤◌, ◌⊎◌, List, [], ◌++◌, Option, None, Some, IfSome, IsSomeAnd, Result, Ok, Err, true}
use Rattle.elevator_model.specs.Building.{Building}
use Rattle.elevator_model.specs.Snapshot.{Snapshot}
use Rattle.lift_text.specs.Reading.{TextState, reading}
use Rattle.lift_text.specs.declared.faults.TextFault.{TextFault}
use Rattle.text_sections.specs.Sections.{Line, outcome}
use Rattle.text_sections.specs.Between.{AreBetween}
use Rattle.text_sections.specs.Unfinished.{line_feeds}
use Rattle.building_text.specs.BuildingText.{IsBuildingText}
use Rattle.snapshot_text.specs.Snapshots.{StandsFor}
use Rattle.snapshot_text.specs.Drafts.{blank, after as after_snapshot_line}
use Rattle.case_text.specs.CaseTexts.{IsRefusedWith, IsBuildingFault, Tells}
use Rattle.day_text.specs.declared.headers.Header.TheVariants.{Rows}
use Rattle.day_text.specs.Headers.{HeaderInFront, IsHeaderFault}

-- ---- the text in front of the rows

-- the next lines stand for this building, and the text goes on right behind the last of them
abbrev pub BuildingNext : TextState → Building → TextState → Type 0
BuildingNext text b behind = (lines : List Line) × AreBetween text lines behind × IsBuildingText lines b

-- the next lines stand for this opening snapshot of its building, and the text goes on right behind the last of them
abbrev pub OpeningNext : TextState → Snapshot → TextState → Type 0
OpeningNext text s behind = (lines : List Line) × AreBetween text lines behind × StandsFor s.building true lines s

-- A building, an opening snapshot of it, and the header; the rows are what stands behind.
pub record DayOpeningInFront (text : TextState) (s : Snapshot) (rows : TextState) : Type 0 where
  pub above : TextState
  pub between : TextState
  pub building : BuildingNext text s.building above
  pub snapshot : OpeningNext above s between
  pub header : HeaderInFront Rows between rows

-- nobody is aboard, and no call is open
pub record IsEmptySnapshot (s : Snapshot) : Type 0 where
  pub aboard : s.aboard ≡ []
  pub calls : s.calls ≡ []

-- ---- what is wrong with other texts

-- a fault in the snapshot, behind a building that is right
pub record IsOpeningFault (text : TextState) (fault : TextFault) : Type 0 where
  pub building : Building
  pub above : TextState
  pub right : BuildingNext text building above
  pub fault_is : IsRefusedWith (outcome after_snapshot_line (reading above) (blank building true)) fault

-- a fault of the header, behind an opening snapshot that is right
pub record IsFaultOfHeader (text : TextState) (fault : TextFault) : Type 0 where
  pub snapshot : Snapshot
  pub above : TextState
  pub between : TextState
  pub building : BuildingNext text snapshot.building above
  pub right : OpeningNext above snapshot between
  pub fault_is : IsHeaderFault Rows between fault

-- the first bad line with its code, or that the text is too long
abbrev pub IsDayOpeningFault : TextState → TextFault → Type 0
IsDayOpeningFault text fault = IsBuildingFault (reading text) fault ⊎ (IsOpeningFault text fault ⊎ IsFaultOfHeader text fault)

-- ---- what the reader answers, where the source tells what it has left

-- this snapshot was read, and these rows are left
abbrev pub IsDayOpeningRead : Option TextState → Snapshot → Option TextState → Type 0
IsDayOpeningRead None s now = Unit {0}
IsDayOpeningRead (Some text) s now = IsSomeAnd now (DayOpeningInFront text s)

abbrev pub IsDayOpeningRefused : Option TextState → TextFault → Type 0
IsDayOpeningRefused before fault = IfSome before (λ text. Tells fault (IsDayOpeningFault text fault))

-- this snapshot is answered, and these rows are left: only a failed read and want of memory come in its place
abbrev pub IsAnswered : Snapshot → TextState → Result Snapshot TextFault → Option TextState → Type 0
IsAnswered s rows (Ok snapshot) now = (snapshot ≡ s) × (now ≡ Some rows)
IsAnswered s rows (Err fault) now = Tells fault ⊥

-- where such a text is in front, it is read, whatever follows
abbrev pub TakesDayOpenings : Option TextState → Result Snapshot TextFault → Option TextState → Type 0
TakesDayOpenings before answer now = (s : Snapshot) (rows : TextState) → IfSome before (λ text. DayOpeningInFront text s rows → IsAnswered s rows answer now)

-- ---- what is not whole yet

-- An opening is in front, and each of its lines has its LF: the text has as many LFs as there are lines up to the header.
pub record HoldsOpening (text : TextState) : Type 0 where
  pub snapshot : Snapshot
  pub rows : TextState
  pub opening : DayOpeningInFront text snapshot rows
  pub whole : rows.line ≤ text.line + line_feeds text.bytes

-- no opening is whole among the bytes that were taken, which are all but those that are left, where the source tells what
-- it has left
abbrev pub HoldsNoOpening : Option TextState → Option (List ℕ) → Type 0
HoldsNoOpening before left = IfSome before (λ text. IfSome left (λ rest.
    (taken : List ℕ) → text.bytes ≡ taken ++ rest → HoldsOpening (record { line = text.line; limit = text.limit; bytes = taken }) → ⊥))
