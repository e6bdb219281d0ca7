-- An opening from its building, its snapshot and its header.
use Rattle.std.proofs.Common.{◌≡◌, ◌≤◌, inl, inr, Option, Some, None, Result, Ok, Err, sym, subst, ap, refl, true, List}
use Rattle.elevator_model.specs.Building.{Building}
use Rattle.elevator_model.specs.Snapshot.{Snapshot}
use Rattle.lift_text.specs.Lines.{pieces_of}
use Rattle.lift_text.specs.Reading.{TextState, Reading, reading}
use Rattle.lift_text.specs.declared.faults.TextFault.{TextFault}
use Rattle.lift_text.specs.declared.faults.TextFault.TheVariants.{Read, TooLong, Bad, NoMemory}
use Rattle.text_sections.specs.Sections.{Line}
use Rattle.text_sections.specs.Canonical.{BeginsWith}
use Rattle.text_sections.specs.Between.{AreBetween, StandsBehind}
use Rattle.building_text.specs.BuildingText.{IsRefusedBuilding, StandsInFront, TakesBuildings, IsAnswered as IsBuildingAnswered}
use Rattle.snapshot_text.specs.Snapshots.{StandsFor, IsSaid, IsRefusedSnapshot, ReadsLines, IsAnswered as IsSnapshotAnswered}
use Rattle.case_text.specs.CaseTexts.{Tells}
use Rattle.day_text.specs.declared.headers.Header.{Header}
use Rattle.day_text.specs.declared.headers.Header.TheVariants.{Rows}
use Rattle.day_text.specs.Headers.{IsHeaderRead, HeaderInFront, IsHeaderFault}
use Rattle.day_text.specs.DayOpenings.{BuildingNext, OpeningNext, DayOpeningInFront, IsEmptySnapshot, IsFaultOfHeader, IsDayOpeningRead, IsDayOpeningRefused}
use Rattle.day_text.specs.DayOpenings.{IsAnswered, TakesDayOpenings}
use Rattle.day_text.proofs.HeaderReadLemmas.{limit_behind_header}
use Rattle.day_text.proofs.PlaceLemmas.{begins, same_lines, place_of, same_rows, no_fault}

-- ---- what was read

pub building_next : (text above : TextState) (b : Building) → StandsInFront (Some text) b (Some above) → StandsBehind (Some text) (Some above)
    → BuildingNext text b above
building_next text above b front behind =
    let same = same_lines behind.0 front.0 (reading text) (reading above) (begins text behind.0 above behind.1) front.1 in
    (front.0, subst (λ (ls : List Line). AreBetween text ls above) same behind.1, front.2)

opening_next : (above between : TextState) (b : Building) (s : Snapshot) → IsSaid (Some above) b true s (Some between)
    → StandsBehind (Some above) (Some between) → OpeningNext above s between
opening_next above between b s said behind =
    let same = same_lines behind.0 said.0 (reading above) (reading between) (begins above behind.0 between behind.1) said.1 in (
      said.0,
      subst (λ (ls : List Line). AreBetween above ls between) same behind.1,
      subst (λ (c : Building). StandsFor c true said.0 s) (sym said.2.building) said.2,
    )

-- a building and an opening snapshot of it, one behind the other
pub both_next : (text above between : TextState) (b : Building) (s : Snapshot) → StandsInFront (Some text) b (Some above)
    → StandsBehind (Some text) (Some above) → IsSaid (Some above) b true s (Some between)
    → StandsBehind (Some above) (Some between) → BuildingNext text s.building above × OpeningNext above s between
both_next text above between b s front first said second = (
  subst (λ (c : Building). BuildingNext text c above) (sym said.2.building) (building_next text above b front first),
  opening_next above between b s said second,
)

pub opening_read : (before above between now : Option TextState) (b : Building) (s : Snapshot) → StandsInFront before b above → StandsBehind before above
    → IsSaid above b true s between → StandsBehind above between
    → IsHeaderRead Rows between (Ok tt) now → IsDayOpeningRead before s now
opening_read None above between now b s front first said second header = tt
opening_read (Some text) None between now b s front first said second header = absurd front
opening_read (Some text) (Some above) None now b s front first said second header = absurd said
opening_read (Some text) (Some above) (Some between) None b s front first said second header = absurd header
opening_read (Some text) (Some above) (Some between) (Some rows) b s front first said second header =
    let both = both_next text above between b s front first said second in
    record { above = above; between = between; building = both.0; snapshot = both.1; header = header }

-- of the rows no more bytes may be read than of the header and the rows
pub limit_of_rows : (text : TextState) (s : Snapshot) (rows : TextState) (opening : DayOpeningInFront text s rows) → rows.limit ≤ opening.between.limit
limit_of_rows text s rows opening = limit_behind_header Rows opening.between.line opening.between.limit (pieces_of opening.between.bytes) rows opening.header

pub empty_read : (above between : Option TextState) (b : Building) (s : Snapshot) → IsSaid above b true s between → IsEmptySnapshot s
empty_read None between b s said = let none = said.1.opening refl in record { aboard = none.0; calls = none.1 }
empty_read (Some above) None b s said = absurd said
empty_read (Some above) (Some between) b s said = let none = said.2.opening refl in record { aboard = none.0; calls = none.1 }

-- ---- what was refused

pub building_refused : (before now : Option TextState) (fault : TextFault) → IsRefusedBuilding before fault now → IsDayOpeningRefused before fault
building_refused None now fault refused = tt
building_refused (Some text) now Read refused = tt
building_refused (Some text) now NoMemory refused = tt
building_refused (Some text) now TooLong refused = inl refused.1
building_refused (Some text) now (Bad line code) refused = inl refused.1

pub opening_refused : (before above now : Option TextState) (b : Building) (fault : TextFault) → StandsInFront before b above → StandsBehind before above
    → IsRefusedSnapshot above b true fault now → IsDayOpeningRefused before fault
opening_refused None above now b fault front first refused = tt
opening_refused (Some text) None now b fault front first refused = absurd front
opening_refused (Some text) (Some above) now b Read front first refused = tt
opening_refused (Some text) (Some above) now b NoMemory front first refused = tt
opening_refused (Some text) (Some above) now b TooLong front first refused =
    inr (inl (record { building = b; above = above; right = building_next text above b front first; fault_is = refused.1 }))
opening_refused (Some text) (Some above) now b (Bad line code) front first refused =
    inr (inl (record { building = b; above = above; right = building_next text above b front first; fault_is = refused.1 }))

header_fault : (text above between : TextState) (b : Building) (s : Snapshot) (fault : TextFault) → BuildingNext text s.building above
    × OpeningNext above s between → IsHeaderFault Rows between fault → IsFaultOfHeader text fault
header_fault text above between b s fault both is = record { snapshot = s; above = above; between = between; building = both.0; right = both.1; fault_is = is }

pub header_refused : (before above between now : Option TextState) (b : Building) (s : Snapshot) (fault : TextFault) → StandsInFront before b above
    → StandsBehind before above → IsSaid above b true s between → StandsBehind above between
    → IsHeaderRead Rows between (Err fault) now → IsDayOpeningRefused before fault
header_refused None above between now b s fault front first said second header = tt
header_refused (Some text) None between now b s fault front first said second header = absurd front
header_refused (Some text) (Some above) None now b s fault front first said second header = absurd said
header_refused (Some text) (Some above) (Some between) now b s Read front first said second header = tt
header_refused (Some text) (Some above) (Some between) now b s NoMemory front first said second header = tt
header_refused (Some text) (Some above) (Some between) now b s TooLong front first said second header =
    inr (inr (header_fault text above between b s TooLong (both_next text above between b s front first said second) header))
header_refused (Some text) (Some above) (Some between) now b s (Bad line code) front first said second header =
    inr (inr (header_fault text above between b s (Bad line code) (both_next text above between b s front first said second) header))

-- ---- what is taken

building_told : (b : Building) (rest : Reading) (fault : TextFault) (now : Option TextState) → IsBuildingAnswered b rest (Err fault) now → Tells fault ⊥
building_told b rest Read now is = tt
building_told b rest NoMemory now is = tt
building_told b rest TooLong now is = is
building_told b rest (Bad line code) now is = is

snapshot_told : (s : Snapshot) (rest : Reading) (fault : TextFault) (now : Option TextState) → IsSnapshotAnswered s rest (Err fault) now → Tells fault ⊥
snapshot_told s rest Read now is = tt
snapshot_told s rest NoMemory now is = tt
snapshot_told s rest TooLong now is = is
snapshot_told s rest (Bad line code) now is = is

pub header_told : (header : Header) (between rows : TextState) (fault : TextFault) → HeaderInFront header between rows
    → Tells fault (IsHeaderFault header between fault) → Tells fault ⊥
header_told header between rows Read front is = tt
header_told header between rows NoMemory front is = tt
header_told header between rows TooLong front is = no_fault header between.line between.limit (pieces_of between.bytes) rows TooLong front is
header_told header between rows (Bad line code) front is = no_fault header between.line between.limit (pieces_of between.bytes) rows (Bad line code) front is

pub takes_no_building : (before above now : Option TextState) (fault : TextFault) → TakesBuildings before (Err fault) above
    → TakesDayOpenings before (Err fault) now
takes_no_building None above now fault first s rows = tt
takes_no_building (Some text) above now fault first s rows = λ whole.
    building_told s.building (reading whole.above) fault above
    (first whole.building.0 s.building (reading whole.above) (begins text whole.building.0 whole.above whole.building.1) whole.building.2)

-- the building in front was read, up to the place behind it
pub record IsBuildingTaken (text : TextState) (s : Snapshot) (rows : TextState) (b : Building) (here : TextState)
    (whole : DayOpeningInFront text s rows) : Type 0 where
  pub building : b ≡ s.building
  pub place : here ≡ whole.above

pub building_taken : (text : TextState) (s : Snapshot) (rows : TextState) (b : Building) (here : TextState) (whole : DayOpeningInFront text s rows)
    → TakesBuildings (Some text) (Ok b) (Some here) → StandsBehind (Some text) (Some here) → IsBuildingTaken text s rows b here whole
building_taken text s rows b here whole first behind =
    let read = first whole.building.0 s.building (reading whole.above) (begins text whole.building.0 whole.above whole.building.1) whole.building.2 in
    record { building = read.0; place = place_of text whole.building.0 behind.0 whole.above here whole.building.1 behind.1 read.1 }

-- what is answered of the snapshot of such a text
pub snapshot_answered : (text : TextState) (s : Snapshot) (rows : TextState) (b : Building) (here : TextState) (whole : DayOpeningInFront text s rows)
    (answer : Result Snapshot TextFault) (now : Option TextState)
    → IsBuildingTaken text s rows b here whole → ReadsLines (Some here) b true answer now → IsSnapshotAnswered s (reading whole.between) answer now
snapshot_answered text s rows b here whole answer now taken second =
    let lines = whole.snapshot.0 in
    let stands = subst (λ (c : Building). StandsFor c true lines s) (sym taken.building) whole.snapshot.2 in
    let front = begins whole.above lines whole.between whole.snapshot.1 in
    second lines s (reading whole.between) stands (subst (λ (t : TextState). BeginsWith lines (reading t) (reading whole.between)) (sym taken.place) front)

pub takes_no_snapshot : (before above between now : Option TextState) (b : Building) (fault : TextFault) → TakesBuildings before (Ok b) above
    → StandsBehind before above → ReadsLines above b true (Err fault) between → TakesDayOpenings before (Err fault) now
takes_no_snapshot None above between now b fault first behind second s rows = tt
takes_no_snapshot (Some text) None between now b fault first behind second s rows = λ whole. absurd behind
takes_no_snapshot (Some text) (Some above) between now b fault first behind second s rows = λ whole.
    snapshot_told s (reading whole.between) fault between
    (snapshot_answered text s rows b above whole (Err fault) between (building_taken text s rows b above whole first behind) second)

-- the snapshot, where the header was read
abbrev pub by_header : Snapshot → Result Unit TextFault → Result Snapshot TextFault
by_header snapshot (Ok done) = Ok snapshot
by_header snapshot (Err fault) = Err fault

-- the header that was read is the one of such a text
header_taken : (s snapshot : Snapshot) (between rows : TextState) (answer : Result Unit TextFault) (now : Option TextState) → HeaderInFront Rows between rows
    → IsHeaderRead Rows (Some between) answer now → snapshot ≡ s
    → IsAnswered s rows (by_header snapshot answer) now
header_taken s snapshot between rows (Ok done) None header is same = absurd is
header_taken s snapshot between rows (Ok done) (Some now) header is same =
    (same, ap (λ (t : TextState). Some t) (same_rows Rows between.line between.limit (pieces_of between.bytes) now rows is header))
header_taken s snapshot between rows (Err fault) now header is same = header_told Rows between rows fault header is

pub takes_snapshot : (before above between now : Option TextState) (b : Building) (snapshot : Snapshot) (answer : Result Unit TextFault)
    → TakesBuildings before (Ok b) above → StandsBehind before above
    → ReadsLines above b true (Ok snapshot) between → StandsBehind above between → IsHeaderRead Rows between answer now
    → TakesDayOpenings before (by_header snapshot answer) now
takes_snapshot None above between now b snapshot answer first behind second behind' header s rows = tt
takes_snapshot (Some text) None between now b snapshot answer first behind second behind' header s rows = λ whole. absurd behind
takes_snapshot (Some text) (Some above) None now b snapshot answer first behind second behind' header s rows = λ whole. absurd behind'
takes_snapshot (Some text) (Some above) (Some between) now b snapshot answer first behind second behind' header s rows = λ whole.
    (let taken = building_taken text s rows b above whole first behind in
    let read = snapshot_answered text s rows b above whole (Ok snapshot) (Some between) taken second in
    let start = subst (λ (t : TextState). AreBetween t behind'.0 between) taken.place behind'.1 in
    let place = place_of whole.above whole.snapshot.0 behind'.0 whole.between between whole.snapshot.1 start read.1 in
    header_taken s snapshot between rows answer now (subst (λ (t : TextState). HeaderInFront Rows t rows) (sym place) whole.header) header read.0)
