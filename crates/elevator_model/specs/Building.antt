-- Buildings.
use Rattle.std.specs.Prelude.{◌≡◌, ℕ, ◌+◌, ◌^◌, ◌≤◌, ◌<◌, ◌==◌, List, length, slice_index, slice_index_or, if◌then◌else◌}
use Rattle.elevator_model.specs.declared.CarSpec.{CarSpec}
use Rattle.call_sets.specs.Counting.{has, sum_where}
use Rattle.elevator_model.specs.Travel.{Square, IsTravelSquare}

pub record Building : Type 0 where
  pub version : ℕ
  -- of the floors, in mm, rising
  pub heights : List ℕ
  -- mm/s
  pub speed : ℕ
  -- mm/s²
  pub accel : ℕ
  -- cost units for a person's ms of waiting, and of riding
  pub wait_weight : ℕ
  pub travel_weight : ℕ
  -- the wait in ms past which a person's ms weighs this much more
  pub patience : ℕ
  pub patience_weight : ℕ
  pub cars : List CarSpec
  pub travel : Square

abbrev pub floor_count : Building → ℕ
floor_count b = length b.heights

abbrev pub no_car : CarSpec
no_car = record { id = 0; capacity = 0; opening = 0; closing = 0; boarding = 0; alighting = 0; serves = 0 }

-- the car with this index
abbrev pub car_of : Building → ℕ → CarSpec
car_of b c = slice_index_or b.cars c no_car

-- the greatest number of cars, and of open calls
abbrev pub most_cars : ℕ → ℕ
most_cars version = if version == 1 then 8 else 16

abbrev pub most_calls : ℕ → ℕ
most_calls version = if version == 1 then 64 else 128

-- the car's numbers lie in their ranges, and it serves two floors of the building at least
pub record IsCarSpec (floors : ℕ) (car : CarSpec) : Type 0 where
  pub capacity_low : 1 ≤ car.capacity
  pub capacity_high : car.capacity ≤ 64
  pub opening : car.opening ≤ 60000
  pub closing : car.closing ≤ 60000
  pub boarding : car.boarding ≤ 60000
  pub alighting : car.alighting ≤ 60000
  pub serves_floors : car.serves < 2 ^ floors
  pub serves_two : 2 ≤ sum_where floors (has car.serves) (λ _. 1)

-- A building. The patience and its weight are 0 in version 1.
pub record IsBuilding (b : Building) : Type 0 where
  pub version_low : 1 ≤ b.version
  pub version_high : b.version ≤ 3
  pub floors_low : 2 ≤ floor_count b
  pub floors_high : floor_count b ≤ 64
  pub heights : (f : ℕ) → f < floor_count b → slice_index b.heights f ≤ 1000000
  pub rising : (f g : ℕ) → f < g → g < floor_count b → slice_index b.heights f < slice_index b.heights g
  pub speed_low : 100 ≤ b.speed
  pub speed_high : b.speed ≤ 20000
  pub accel_low : 100 ≤ b.accel
  pub accel_high : b.accel ≤ 5000
  pub wait_weight : b.wait_weight ≤ 1000
  pub travel_weight : b.travel_weight ≤ 1000
  pub patience : b.patience ≤ 1000000000
  pub patience_weight : b.patience_weight ≤ 1000
  pub patient : b.version ≡ 1 → b.patience + b.patience_weight ≡ 0
  pub cars_low : 1 ≤ length b.cars
  pub cars_high : length b.cars ≤ most_cars b.version
  pub cars : (c : ℕ) → c < length b.cars → IsCarSpec (floor_count b) (car_of b c)
  pub ids : (c d : ℕ) → c < d → d < length b.cars → (car_of b c).id ≡ (car_of b d).id → ⊥
  pub travel_floors : b.travel.floors ≡ floor_count b
  pub travel : IsTravelSquare b.travel
