-- A reader takes the lines that stand for a building, and no others.
use Rattle.std.proofs.Common.{◌≡◌, ℕ, ◌≤◌, Bool, true, false, List, [], ◌∷◌, ◌++◌, length, Option, None, Some, Result, Ok, Err, ap, refl, eq-eqb, ◌∙◌, sym}
use Rattle.std.proofs.Common.{subst}
use Rattle.std.specs.Prelude.{IfSome, IfOk, IfErr, ◌==◌}
use Rattle.call_state.specs.Squares.{square_of}
use Rattle.call_state.proofs.BuildingLemmas.{rising-from}
use Rattle.elevator_model.specs.Building.{Building}
use Rattle.elevator_model.specs.Travel.{Square, IsTravelSquare, IsTravelOf}
use Rattle.elevator_model.specs.Faults.{first_fault_of_building}
use Rattle.lift_text.specs.Reading.{TextState, Reading, reading}
use Rattle.lift_text.specs.declared.faults.TextFault.{TextFault}
use Rattle.lift_text.specs.declared.faults.TextFault.TheVariants.{Read, TooLong, Bad, NoMemory}
use Rattle.text_sections.specs.Sections.{Line, is_whole, accepted, refused, too_long, outcome, ReadAs}
use Rattle.text_sections.specs.Canonical.{BeginsWith, Goes, IsMade}
use Rattle.text_sections.specs.Unfinished.{EndsBehind}
use Rattle.building_text.specs.Drafts.{Draft, no_draft, after}
use Rattle.building_text.specs.BuildingText.{AreBuildingLines, AreTimesLines, AreTravelTimes, IsTravelFrom, HasTravel, IsBuildingText, building_from, Stands}
use Rattle.building_text.specs.BuildingText.{IsWhole, IsReadBuilding, IsRefusedBuilding, StandsInFront, TakesBuildings, BuildingEndsBehind}
use Rattle.building_text.proofs.ReadLemmas.{Then, Reads, found, given, reads_make}
use Rattle.building_text.proofs.LineLemmas.{lines_of_reads, nothing}
use Rattle.building_text.proofs.GivenLemmas.{draft_of, reads_of_lines}
use Rattle.building_text.proofs.TravelLemmas.{same_travel}
use Rattle.building_text.proofs.RowLemmas.{stated_travel}
use Rattle.building_text.proofs.WholeLemmas.{heights_are, in_ranges_of, no_fault}

-- ---- what was read is whole

reads_front : (front : List Line) (last : Line) (state before end : Draft) → Goes after front state before → after before last ≡ is_whole end
    → Reads state (front ++ last ∷ []) end
reads_front [] last state before end goes whole =
    let e : after state last ≡ is_whole end = ap (λ d. after d last) goes ∙ whole in
    subst (λ step. Then step [] end (λ new. Reads new [] end)) (sym e) (refl, refl)
reads_front (words ∷ front) last state before end goes whole =
    subst (λ step. Then step (front ++ last ∷ []) end (λ new. Reads new (front ++ last ∷ []) end)) (sym goes.1)
    (reads_front front last goes.0 before end goes.2 whole)

pub made_whole : (end : Draft) → IsMade after no_draft end → IsWhole end
made_whole end made =
    let makes = made.1 in
    let reads = reads_front makes.front makes.last no_draft makes.before end makes.goes makes.whole in
    (makes.front ++ makes.last ∷ [], λ travel. (lines_of_reads (makes.front ++ makes.last ∷ []) end travel reads).0)

-- ---- its travel times

pub stated_square : (stated : Bool) (floors : ℕ) (lines : List Line) (times : List ℕ) → stated ≡ true → 2 ≤ floors → floors ≤ 64
    → AreTimesLines stated floors lines times → IsTravelSquare (square_of floors times)
stated_square true floors lines times is low high are = stated_travel floors lines times low high are
stated_square false floors lines times is low high are = absurd cc

pub whole_travel : (d : Draft) → IsWhole d → HasTravel d.version d.heights d.speed d.accel d.times
whole_travel d whole =
    let none : Square = square_of (length d.heights) [] in
    let is = whole.1 none in
    let ranges = in_ranges_of whole.0 (building_from d none) d.times is refl in
    let heights = heights_are is.heights_line d.heights is.heights in
    record {
      floors_low = heights.low;
      floors_high = heights.high;
      low = heights.each;
      rising = rising-from d.heights heights.up;
      speed_low = ranges.speed_low;
      speed_high = ranges.speed_high;
      accel_low = ranges.accel_low;
      accel_high = ranges.accel_high;
      stated = λ e. stated_square (d.version == 3) (length d.heights) is.times_lines d.times (eq-eqb d.version 3 e) heights.low heights.high is.stated;
    }

travel_floors : (stated : Bool) (heights : List ℕ) (speed accel : ℕ) (times : List ℕ) (travel : Square)
    → AreTravelTimes stated heights speed accel times travel → travel.floors ≡ length heights
travel_floors true heights speed accel times travel are = ap (λ (t : Square). t.floors) are
travel_floors false heights speed accel times travel are = are.floors

pub whole_faultless : (d : Draft) (travel : Square) → IsWhole d → AreTravelTimes (d.version == 3) d.heights d.speed d.accel d.times travel
    → first_fault_of_building (building_from d travel) ≡ None
whole_faultless d travel whole are =
    no_fault whole.0 (building_from d travel) d.times (whole.1 travel) (travel_floors (d.version == 3) d.heights d.speed d.accel d.times travel are)

-- ---- the building that is read

pub refused_memory : (before : Option TextState) (now : Option TextState) → IsRefusedBuilding before NoMemory now
refused_memory None now = (no_draft, tt)
refused_memory (Some text) now = (no_draft, tt)

pub in_front : (before : Option TextState) (b : Building) (now : Option TextState) → IsReadBuilding before b now → StandsInFront before b now
in_front None b now read = tt
in_front (Some text) b None read = absurd read.1
in_front (Some text) b (Some behind) read =
    let d = read.0 in
    let lines = found (reading text) no_draft d (reading behind) read.1 in
    let said = (lines_of_reads lines.0 d b.travel lines.2).0 in
    (lines.0, lines.1, (d.times, subst (λ x. AreBuildingLines lines.0 x d.times) (sym read.2.same) said, read.2.travel))

same_by : (stated : Bool) (b c : Building) (times : List ℕ) → c ≡ building_from (draft_of b times) c.travel → IsTravelFrom stated b times
    → IsTravelFrom stated c times → c.travel ≡ b.travel
same_by true b c times same is also = also ∙ ap (λ (x : Building). square_of (length x.heights) times) same ∙ sym is
same_by false b c times same is also =
    same_travel b.heights b.speed b.accel c.travel b.travel (subst (λ (x : Building). IsTravelOf x.heights x.speed x.accel c.travel) same also) is

one_building : (b c : Building) (d : Draft) (times : List ℕ) → d ≡ draft_of b times → Stands d c → IsTravelFrom (b.version == 3) b times → c ≡ b
one_building b c d times is stands travel =
    let same : c ≡ building_from (draft_of b times) c.travel = stands.same ∙ ap (λ e. building_from e c.travel) is in
    let version : c.version ≡ b.version = ap (λ (x : Building). x.version) same in
    let also : IsTravelFrom (b.version == 3) c times =
    subst (λ v. IsTravelFrom (v == 3) c times) version (subst (λ (e : Draft). IsTravelFrom (c.version == 3) c e.times) is stands.travel) in
    same ∙ ap (building_from (draft_of b times)) (same_by (b.version == 3) b c times same travel also)

expected : (text : TextState) (lines : List Line) (b : Building) (rest : Reading) → BeginsWith lines (reading text) rest → (is : IsBuildingText lines b)
    → outcome after (reading text) no_draft ≡ accepted (draft_of b is.0) rest
expected text lines b rest begins is = given lines (reading text) no_draft (draft_of b is.0) rest begins (reads_of_lines lines b is.0 is.1)

pub takes_read : (before : Option TextState) (c : Building) (now : Option TextState) → IsReadBuilding before c now → TakesBuildings before (Ok c) now
takes_read None c now read lines b rest = tt
takes_read (Some text) c None read lines b rest = absurd read.1
takes_read (Some text) c (Some behind) read lines b rest = λ begins is.
    (let same : accepted read.0 (reading behind) ≡ accepted (draft_of b is.0) rest = sym read.1 ∙ expected text lines b rest begins is in
    let draft : read.0 ≡ draft_of b is.0 = cc in
    let left : reading behind ≡ rest = cc in
    (one_building b c read.0 is.0 draft read.2 is.2, left))

pub takes_refused : (before : Option TextState) (fault : TextFault) (now : Option TextState) → IsRefusedBuilding before fault now
    → TakesBuildings before (Err fault) now
takes_refused None fault now read lines b rest = tt
takes_refused (Some text) (Bad line code) now read lines b rest = λ begins is.
    (let same : refused line code ≡ accepted (draft_of b is.0) rest = sym read.1 ∙ expected text lines b rest begins is in absurd cc)
takes_refused (Some text) TooLong now read lines b rest = λ begins is.
    (let same : too_long ≡ accepted (draft_of b is.0) rest = sym read.1 ∙ expected text lines b rest begins is in absurd cc)
takes_refused (Some text) Read now read lines b rest = λ begins is. tt
takes_refused (Some text) NoMemory now read lines b rest = λ begins is. tt

-- ---- where it ends

pub ends_behind : (before : Option TextState) (left : Option (List ℕ)) → EndsBehind after before no_draft left → BuildingEndsBehind before left
ends_behind None left ends = tt
ends_behind (Some text) left ends = λ lines b behind between is.
    ends lines (draft_of b is.0) behind between (reads_make lines no_draft (draft_of b is.0) (reads_of_lines lines b is.0 is.1))

-- ---- by the answer

pub read_answer : (answer : Result Building TextFault) (before now : Option TextState) (d : Draft) → ReadAs after before no_draft (Ok tt) d now
    → IfOk answer (Stands d) → IfOk answer (λ b. IsReadBuilding before b now)
read_answer (Ok b) before now d read stands = (d, read, stands)
read_answer (Err fault) before now d read stands = tt

pub refused_answer : (answer : Result Building TextFault) (before now : Option TextState) → IfErr answer (λ fault. fault ≡ NoMemory)
    → IfErr answer (λ fault. IsRefusedBuilding before fault now)
refused_answer (Ok b) before now failed = tt
refused_answer (Err fault) before now failed = subst (λ (f : TextFault). IsRefusedBuilding before f now) (sym failed) (refused_memory before now)

pub again_answer : {A : Type 0} (failure : Option TextFault) (answer : Result A TextFault) → IfSome failure (λ fault. Ok nothing ≡ Err fault)
    → IfSome failure (λ fault. answer ≡ Err fault)
again_answer None answer again = tt
again_answer (Some fault) answer again = absurd cc

pub front_answer : (answer : Result Building TextFault) (before now : Option TextState) → IfOk answer (λ b. IsReadBuilding before b now)
    → IfOk answer (λ b. StandsInFront before b now)
front_answer (Ok b) before now read = in_front before b now read
front_answer (Err fault) before now read = tt

pub takes_answer : (answer : Result Building TextFault) (before now : Option TextState) → IfOk answer (λ b. IsReadBuilding before b now)
    → IfErr answer (λ fault. IsRefusedBuilding before fault now) → TakesBuildings before answer now
takes_answer (Ok b) before now read bad = takes_read before b now read
takes_answer (Err fault) before now read bad = takes_refused before fault now bad

-- a building is not made only where memory is wanting
pub never_unread : (answer : Result Building TextFault) → IfErr answer (λ fault. fault ≡ NoMemory) → answer ≡ Err Read → ⊥
never_unread (Ok b) failed is = cc
never_unread (Err fault) failed is = cc
