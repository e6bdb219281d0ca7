-- The canonical text of a building.
use Rattle.std.specs.Prelude.{◌≡◌, ℕ, ◌+◌, ◌-◌, ◌^◌, ◌<◌, ◌≤◌, ◌==◌, false, List, [], ◌∷◌, ◌++◌, length, map, filter, decimal, codes, if◌then◌else◌, Option}
use Rattle.std.specs.Prelude.{IfSome, Result}
use Rattle.std.specs.List.{range_with_len}
use Rattle.call_sets.specs.Counting.{has}
use Rattle.elevator_model.specs.declared.CarSpec.{CarSpec}
use Rattle.elevator_model.specs.Building.{Building, IsBuilding, floor_count, car_of}
use Rattle.elevator_model.specs.Travel.{Square, time_between, IsTravelOf}
use Rattle.lift_text.specs.Reading.{TextState, reading}
use Rattle.lift_text.specs.declared.faults.TextFault.{TextFault}
use Rattle.text_sections.specs.Sections.{Line}
use Rattle.text_sections.specs.Canonical.{lines_text}
use Rattle.building_text.specs.BuildingText.{IsAnswered}

-- a name, and numbers behind it
abbrev pub named : List ℕ → List ℕ → Line
named name numbers = name ∷ map decimal numbers

-- version 1 has no patience
abbrev pub patience_lines : Building → List Line
patience_lines b = if b.version == 1 then [] else (named (codes "patience") (b.patience ∷ b.patience_weight ∷ []) ∷ [])

-- the times from a floor to each floor
abbrev pub row_line : (floors : ℕ) → Square → ℕ → Line
row_line floors t f = named (codes "times") (map (time_between t f) (range_with_len 0 floors))

-- version 3 states its times, one line for each floor
abbrev pub times_lines : Building → List Line
times_lines b = if b.version == 3 then map (row_line (floor_count b) b.travel) (range_with_len 0 (floor_count b)) else []

-- the floors of a set, rising
abbrev pub floors_in : (floors set : ℕ) → List ℕ
floors_in floors set = filter (has set) (range_with_len 0 floors)

-- a set of all floors is written `all`
abbrev pub served_words : (floors set : ℕ) → Line
served_words floors set = if set == 2 ^ floors - 1 then (codes "all" ∷ []) else map decimal (floors_in floors set)

abbrev pub car_line : ℕ → CarSpec → Line
car_line floors car =
    named (codes "car") (car.id ∷ car.capacity ∷ car.opening ∷ car.closing ∷ car.boarding ∷ car.alighting ∷ []) ++ served_words floors car.serves

abbrev pub end_line : Line
end_line = codes "end" ∷ []

abbrev pub building_lines : Building → List Line
building_lines b =
    named (codes "building") (b.version ∷ []) ∷ named (codes "speed") (b.speed ∷ []) ∷ named (codes "accel") (b.accel ∷ [])
    ∷ named (codes "weights") (b.wait_weight ∷ b.travel_weight ∷ [])
    ∷ (patience_lines b ++ named (codes "floors") b.heights ∷ (times_lines b ++ (map (car_line (floor_count b)) b.cars ++ end_line ∷ [])))

unfoldable pub building_text : Building → List ℕ
building_text b = lines_text (building_lines b)

-- A building that has a text: its ids lie in the range of the text, and where the text states no times, its
-- travel times are the least ones.
pub record HasText (b : Building) : Type 0 where
  pub building : IsBuilding b
  pub ids : (c : ℕ) → c < length b.cars → (car_of b c).id < 2 ^ 32
  pub travel : (b.version == 3) ≡ false → IsTravelOf b.heights b.speed b.accel b.travel

-- where a text begins with that of a building, that building is read, whatever follows
abbrev pub ReadsWritten : Option TextState → Result Building TextFault → Option TextState → Type 0
ReadsWritten before answer now = (b : Building) (tail : List ℕ) → HasText b
    → IfSome before (λ text. text.bytes ≡ building_text b ++ tail → length (building_text b) ≤ text.limit
    → IsAnswered b (reading (record { line = text.line + length (building_lines b); limit = text.limit - length (building_text b); bytes = tail })) answer now)
