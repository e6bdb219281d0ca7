-- A case from its building and its snapshot.
use Rattle.std.proofs.Common.{◌≡◌, ℕ, Option, Some, None, Result, Ok, Err, IfOk, sym, subst, false}
use Rattle.elevator_model.specs.Building.{Building}
use Rattle.elevator_model.specs.Snapshot.{Snapshot}
use Rattle.lift_text.specs.Reading.{TextState, Reading, reading, finished}
use Rattle.lift_text.specs.declared.faults.TextFault.{TextFault}
use Rattle.lift_text.specs.declared.faults.TextFault.TheVariants.{Read, TooLong, Bad, NoMemory}
use Rattle.text_sections.specs.Canonical.{BeginsWith}
use Rattle.building_text.specs.BuildingText.{IsBuildingText, StandsInFront, TakesBuildings, IsAnswered as IsBuildingAnswered}
use Rattle.snapshot_text.specs.Snapshots.{StandsFor, IsSaid, ReadsLines, IsAnswered as IsSnapshotAnswered}
use Rattle.case_text.specs.CaseTexts.{CaseInFront, IsReadCase, TakesCases, Tells, IsAnswered, TakesLoneCases, IsNoEnd, IsFaultBehind}

-- a building and a snapshot of it, one behind the other
in_front : (before between now : TextState) (b : Building) (s : Snapshot) → StandsInFront (Some before) b (Some between)
    → IsSaid (Some between) b false s (Some now) → CaseInFront (reading before) s (reading now)
in_front before between now b s first said =
    let lines = said.0 in
    let same : s.building ≡ b = said.2.building in
    record {
      between = reading between;
      building = (first.0, first.1, subst (λ (c : Building). IsBuildingText first.0 c) (sym same) first.2);
      snapshot = (lines, said.1, subst (λ (c : Building). StandsFor c false lines s) (sym same) said.2);
    }

pub case_read : (before between now : Option TextState) (b : Building) (answer : Result Snapshot TextFault) → StandsInFront before b between
    → IfOk answer (λ s. IsSaid between b false s now) → IfOk answer (λ s. IsReadCase before s now)
case_read None between now b (Ok s) first said = tt
case_read (Some before) (Some between) (Some now) b (Ok s) first said = in_front before between now b s first said
case_read (Some before) (Some between) None b (Ok s) first said = said
case_read (Some before) None now b (Ok s) first said = absurd first
case_read before between now b (Err fault) first said = tt

-- a failed read and want of memory alone come in place of a snapshot
answered : (s : Snapshot) (rest : Reading) (answer : Result Snapshot TextFault) (now : Option TextState) → IsSnapshotAnswered s rest answer now
    → IsAnswered s rest answer now
answered s rest (Ok snapshot) now is = is
answered s rest (Err Read) now is = tt
answered s rest (Err TooLong) now is = is
answered s rest (Err (Bad line code)) now is = is
answered s rest (Err NoMemory) now is = tt

told : (b : Building) (rest : Reading) (fault : TextFault) (now : Option TextState) → IsBuildingAnswered b rest (Err fault) now → Tells fault ⊥
told b rest Read now is = tt
told b rest TooLong now is = is
told b rest (Bad line code) now is = is
told b rest NoMemory now is = tt

-- a building that was read is that of the case in front, and so is the snapshot
pub takes_both : (before between now : Option TextState) (b : Building) (answer : Result Snapshot TextFault) → TakesBuildings before (Ok b) between
    → ReadsLines between b false answer now → TakesCases before answer now
takes_both None between now b answer first second s rest = tt
takes_both (Some before) None now b answer first second s rest =
    λ case. absurd ((first case.building.0 s.building case.between case.building.1 case.building.2).1)
takes_both (Some before) (Some between) now b answer first second s rest = λ case.
    (let read = first case.building.0 s.building case.between case.building.1 case.building.2 in
    let lines = case.snapshot.0 in
    let stands = subst (λ (c : Building). StandsFor c false lines s) (sym read.0) case.snapshot.2 in
    let begins = subst (λ (r : Reading). BeginsWith lines r rest) (sym read.1) case.snapshot.1 in
    answered s rest answer now (second lines s rest stands begins))

-- where no building was read, none is in front
pub takes_none : (before between now : Option TextState) (fault : TextFault) → TakesBuildings before (Err fault) between → TakesCases before (Err fault) now
takes_none None between now fault first s rest = tt
takes_none (Some before) between now fault first s rest = λ case.
    told s.building case.between fault between (first case.building.0 s.building case.between case.building.1 case.building.2)

-- ---- a case alone

-- a case that was read is the one that stands there alone
pub takes_alone : (before now : Option TextState) (snapshot : Snapshot) → TakesCases before (Ok snapshot) now → TakesLoneCases before (Ok snapshot)
takes_alone None now snapshot takes s = tt
takes_alone (Some before) now snapshot takes s = λ case. (takes s (finished case.0) case.1).0

pub takes_none_alone : (before now : Option TextState) (fault : TextFault) → TakesCases before (Err fault) now → TakesLoneCases before (Err fault)
takes_none_alone None now fault takes s = tt
takes_none_alone (Some before) now fault takes s = λ case. takes s (finished case.0) case.1

nothing_behind : (lines : ℕ) (read : Reading) (fault : TextFault) → read ≡ finished lines → Tells fault (IsFaultBehind read fault) → Tells fault ⊥
nothing_behind lines read Read end is = tt
nothing_behind lines read NoMemory end is = tt
nothing_behind lines read TooLong end is = subst (λ r. IsFaultBehind r TooLong) end is
nothing_behind lines read (Bad line code) end is = subst (λ r. IsFaultBehind r (Bad line code)) end is

-- no fault comes behind a case that stands there alone
pub takes_late : (before between : Option TextState) (snapshot : Snapshot) (fault : TextFault) → TakesCases before (Ok snapshot) between
    → IsNoEnd between fault → TakesLoneCases before (Err fault)
takes_late None between snapshot fault takes late s = tt
takes_late (Some before) None snapshot fault takes late s = λ case. absurd ((takes s (finished case.0) case.1).1)
takes_late (Some before) (Some between) snapshot fault takes late s = λ case.
    nothing_behind case.0 (reading between) fault ((takes s (finished case.0) case.1).1) late
