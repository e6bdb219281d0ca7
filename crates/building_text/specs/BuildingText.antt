-- Which lines stand for which building.
use Rattle.std.specs.Prelude.{◌≡◌, ℕ, ◌+◌, ◌<◌, ◌≤◌, ◌==◌, Bool, true, false, List, [], ◌∷◌, ◌++◌, length, slice_index, Option, None, Some, IfSome, IsSomeAnd}
use Rattle.std.specs.Prelude.{Result, Ok, Err, codes}
use Rattle.elevator_model.specs.declared.CarSpec.{CarSpec}
use Rattle.elevator_model.specs.Building.{Building, floor_count, most_cars}
use Rattle.elevator_model.specs.Travel.{Square, IsTravelOf, IsTravelSquare}
use Rattle.call_state.specs.Squares.{square_of}
use Rattle.motion_table.specs.Tables.{row_of}
use Rattle.lift_text.specs.Reading.{TextState, Reading, reading}
use Rattle.lift_text.specs.declared.faults.TextFault.{TextFault}
use Rattle.lift_text.specs.declared.faults.TextFault.TheVariants.{Read, TooLong, Bad, NoMemory}
use Rattle.text_sections.specs.Words.{is_word, exactly}
use Rattle.text_sections.specs.Sections.{Line, ReadAs}
use Rattle.text_sections.specs.Canonical.{BeginsWith}
use Rattle.text_sections.specs.Between.{AreBetween}
use Rattle.text_sections.specs.Unfinished.{LacksEnd}
use Rattle.building_text.specs.Words.{one_number, two_numbers, heights_of, car_of_line}
use Rattle.building_text.specs.Drafts.{Draft, no_draft, has_triple, after}

-- the first word of a line
abbrev pub Begins : Line → List ℕ → Type 0
Begins words name = is_word words 0 name ≡ true

-- a line of this name and one number, in its range
pub record IsNumberLine (words : Line) (name : List ℕ) (low high n : ℕ) : Type 0 where
  pub name_is : Begins words name
  pub number : one_number words low high ≡ Ok n

-- a line of this name and two numbers, each from 0 to a greatest
pub record IsPairLine (words : Line) (name : List ℕ) (high high' a b : ℕ) : Type 0 where
  pub name_is : Begins words name
  pub numbers : two_numbers words high high' ≡ Ok (a, b)

-- version 1 has no line of patience, which is 0 then; the other versions have one
abbrev pub ArePatienceLines : Bool → List Line → (patience weight : ℕ) → Type 0
ArePatienceLines true lines patience weight = (lines ≡ []) × (patience ≡ 0) × (weight ≡ 0)
ArePatienceLines false lines patience weight = (words : Line) × (lines ≡ words ∷ []) × IsPairLine words (codes "patience") 1000000000 1000 patience weight

-- the times from one floor
pub record IsRowLine (floors floor : ℕ) (words : Line) (row : List ℕ) : Type 0 where
  pub name_is : Begins words (codes "times")
  pub count : exactly words (floors + 1) ≡ Ok tt
  pub times : row_of floor words ≡ Ok row

-- from this floor on one line for each floor
abbrev pub AreRowLines : (floors floor : ℕ) → List Line → List ℕ → Type 0
AreRowLines floors floor [] times = (floor ≡ floors) × (times ≡ [])
AreRowLines floors floor (words ∷ lines) times =
    (row later : List ℕ) × (times ≡ row ++ later) × IsRowLine floors floor words row × AreRowLines floors (floor + 1) lines later

-- version 3 states times, one line for each floor, and no way over a third floor is shorter; other versions state none
abbrev pub AreTimesLines : Bool → ℕ → List Line → List ℕ → Type 0
AreTimesLines true floors lines times = AreRowLines floors 0 lines times × (has_triple (square_of floors times) ≡ false)
AreTimesLines false floors lines times = (lines ≡ []) × (times ≡ [])

-- cars after those before them, one line for each
abbrev pub AreCarLines : (floors most : ℕ) → (before : List CarSpec) → List Line → List CarSpec → Type 0
AreCarLines floors most before [] cars = cars ≡ []
AreCarLines floors most before (words ∷ lines) cars =
    (car : CarSpec) × (later : List CarSpec) × (cars ≡ car ∷ later) × Begins words (codes "car") × (car_of_line floors most before words ≡ Ok car)
    × AreCarLines floors most (before ++ car ∷ []) lines later

-- The lines of a building with these stated times, which say all but its travel times.
pub record AreBuildingLines (lines : List Line) (b : Building) (times : List ℕ) : Type 0 where
  pub version_line : Line
  pub speed_line : Line
  pub accel_line : Line
  pub weights_line : Line
  pub patience_lines : List Line
  pub heights_line : Line
  pub times_lines : List Line
  pub car_lines : List Line
  pub end_line : Line
  pub lines_are : lines ≡ version_line ∷ speed_line ∷ accel_line ∷ weights_line
      ∷ (patience_lines ++ heights_line ∷ (times_lines ++ (car_lines ++ end_line ∷ [])))
  pub version : IsNumberLine version_line (codes "building") 1 3 b.version
  pub speed : IsNumberLine speed_line (codes "speed") 100 20000 b.speed
  pub accel : IsNumberLine accel_line (codes "accel") 100 5000 b.accel
  pub weights : IsPairLine weights_line (codes "weights") 1000 1000 b.wait_weight b.travel_weight
  pub patience : ArePatienceLines (b.version == 1) patience_lines b.patience b.patience_weight
  pub floors : Begins heights_line (codes "floors")
  pub heights : heights_of heights_line ≡ Ok b.heights
  pub stated : AreTimesLines (b.version == 3) (floor_count b) times_lines times
  pub cars : AreCarLines (floor_count b) (most_cars b.version) [] car_lines b.cars
  pub some_car : 0 < length b.cars
  pub end : Begins end_line (codes "end")
  pub end_alone : exactly end_line 1 ≡ Ok tt

-- the travel times are the stated ones in version 3, and the least ones over the heights in the others
abbrev pub AreTravelTimes : Bool → (heights : List ℕ) → (speed accel : ℕ) → (times : List ℕ) → Square → Type 0
AreTravelTimes true heights speed accel times travel = travel ≡ square_of (length heights) times
AreTravelTimes false heights speed accel times travel = IsTravelOf heights speed accel travel

abbrev pub IsTravelFrom : Bool → Building → List ℕ → Type 0
IsTravelFrom stated b times = AreTravelTimes stated b.heights b.speed b.accel times b.travel

-- These lines stand for the building.
abbrev pub IsBuildingText : List Line → Building → Type 0
IsBuildingText lines b = (times : List ℕ) × AreBuildingLines lines b times × IsTravelFrom (b.version == 3) b times

-- ---- what a reader answers

-- the building of what was read, with these travel times
abbrev pub building_from : Draft → Square → Building
building_from d travel = record {
  version = d.version;
  heights = d.heights;
  speed = d.speed;
  accel = d.accel;
  wait_weight = d.wait_weight;
  travel_weight = d.travel_weight;
  patience = d.patience;
  patience_weight = d.patience_weight;
  cars = d.cars;
  travel = travel;
}

-- a building that was read whole
pub record Stands (d : Draft) (b : Building) : Type 0 where
  pub same : b ≡ building_from d b.travel
  pub travel : IsTravelFrom (b.version == 3) b d.times

-- travel times can be made of these parts
pub record HasTravel (version : ℕ) (heights : List ℕ) (speed accel : ℕ) (times : List ℕ) : Type 0 where
  pub floors_low : 2 ≤ length heights
  pub floors_high : length heights ≤ 64
  pub low : (f : ℕ) → f < length heights → slice_index heights f ≤ 1000000
  pub rising : (f g : ℕ) → f < g → g < length heights → slice_index heights f < slice_index heights g
  pub speed_low : 100 ≤ speed
  pub speed_high : speed ≤ 20000
  pub accel_low : 100 ≤ accel
  pub accel_high : accel ≤ 5000
  pub stated : version ≡ 3 → IsTravelSquare (square_of (length heights) times)

-- some lines say it, but for its travel times
abbrev pub IsWhole : Draft → Type 0
IsWhole d = (lines : List Line) × ((travel : Square) → AreBuildingLines lines (building_from d travel) d.times)

-- what was read as a section is this building, and this is left
abbrev pub IsReadBuilding : Option TextState → Building → Option TextState → Type 0
IsReadBuilding before b now = (d : Draft) × ReadAs after before no_draft (Ok tt) d now × Stands d b

-- this fault is what is read of the section
abbrev pub IsRefusedBuilding : Option TextState → TextFault → Option TextState → Type 0
IsRefusedBuilding before fault now = (d : Draft) × ReadAs after before no_draft (Err fault) d now

-- the lines in front stand for this building, and what follows them is left
abbrev pub StandsInFront : Option TextState → Building → Option TextState → Type 0
StandsInFront None b now = Unit {0}
StandsInFront (Some text) b now = IsSomeAnd now (λ behind. (lines : List Line) × BeginsWith lines (reading text) (reading behind) × IsBuildingText lines b)

-- this building is the answer, but where a read failed and where memory ran out
abbrev pub IsAnswered : Building → Reading → Result Building TextFault → Option TextState → Type 0
IsAnswered b rest (Ok read) now = (read ≡ b) × IsSomeAnd now (λ behind. reading behind ≡ rest)
IsAnswered b rest (Err (Bad line code)) now = ⊥
IsAnswered b rest (Err TooLong) now = ⊥
IsAnswered b rest (Err Read) now = Unit {0}
IsAnswered b rest (Err NoMemory) now = Unit {0}

-- where lines that stand for a building come first, that building is read, whatever follows them
abbrev pub TakesBuildings : Option TextState → Result Building TextFault → Option TextState → Type 0
TakesBuildings before answer now = (lines : List Line) (b : Building) (rest : Reading)
    → IfSome before (λ text. BeginsWith lines (reading text) rest → IsBuildingText lines b → IsAnswered b rest answer now)

-- wherever a building in front ends, its last line is not whole among the bytes that were taken
abbrev pub BuildingEndsBehind : Option TextState → Option (List ℕ) → Type 0
BuildingEndsBehind None left = Unit {0}
BuildingEndsBehind (Some text) left = (lines : List Line) (b : Building) (behind : TextState) → AreBetween text lines behind → IsBuildingText lines b
    → LacksEnd (Some text) behind.line left
