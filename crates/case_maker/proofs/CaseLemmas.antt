-- The building of a case keeps the rules.
use Rattle.std.proofs.Common.{◌≡◌, ℕ, ◌-◌, ◌*◌, ◌^◌, ◌<◌, ◌≤◌, true, List, length, map, get_or, refl, ap, ◌∙◌, zero-add, arith}
use Rattle.std.specs.List.{range_with_len}
use Rattle.std.proofs.lemmas.List.FromFn.{length-map-range_with_len, get_or-map-range_with_len}
use Rattle.std.proofs.lemmas.Nat.{pow_pos}
use Rattle.std.proofs.lemmas.Bool.{lt-ltb}
use Rattle.elevator_model.specs.declared.CarSpec.{CarSpec}
use Rattle.elevator_model.specs.Travel.{Square, IsTravelSquare}
use Rattle.elevator_model.specs.Building.{Building, IsBuilding, IsCarSpec, no_car}
use Rattle.call_sets.specs.Counting.{has}
use Rattle.call_sets.proofs.Bits.{has_lowest}
use Rattle.call_sets.proofs.Counts.{count-all}
use Rattle.search_model.specs.Cases.{case_car, case_building}

abbrev pub heights : ℕ → List ℕ
heights floors = map (λ f. 4000 * f) (range_with_len 0 floors)

pub heights-length : (floors : ℕ) → length (heights floors) ≡ floors
heights-length floors = length-map-range_with_len (λ f. 4000 * f) 0 floors

pub height-at : (floors f : ℕ) → f < floors → get_or (heights floors) f 0 ≡ 4000 * f
height-at floors f within = get_or-map-range_with_len (λ f. 4000 * f) 0 floors f f 0 within (zero-add f)

pub heights-low : (floors : ℕ) → floors ≤ 64 → (f : ℕ) → f < length (heights floors) → get_or (heights floors) f 0 ≤ 1000000
heights-low floors few f h =
    let within : f < floors = omega (arith, heights-length floors) in
    omega (arith, height-at floors f within)

pub heights-rising : (floors f g : ℕ) → f < g → g < length (heights floors) → get_or (heights floors) f 0 < get_or (heights floors) g 0
heights-rising floors f g less h =
    let within : g < floors = omega (arith, heights-length floors) in
    omega (arith, height-at floors f (omega arith), height-at floors g within)

-- all floors of a building are served
pub has-all : (floors f : ℕ) → f < floors → has (2 ^ floors - 1) f ≡ true
has-all floors f within = has_lowest floors f ∙ lt-ltb f floors within

IsCarSpec-case : (floors c : ℕ) → 2 ≤ floors → IsCarSpec floors (case_car floors c)
IsCarSpec-case floors c two = record {
  capacity_low = omega arith;
  capacity_high = omega arith;
  opening = omega arith;
  closing = omega arith;
  boarding = omega arith;
  alighting = omega arith;
  serves_floors = omega (arith, pow_pos floors);
  serves_two = rw (count-all floors (has (2 ^ floors - 1)) (has-all floors)) two;
}

abbrev pub case_cars : (floors cars : ℕ) → List CarSpec
case_cars floors cars = map (case_car floors) (range_with_len 0 cars)

pub cars-length : (floors cars : ℕ) → length (case_cars floors cars) ≡ cars
cars-length floors cars = length-map-range_with_len (case_car floors) 0 cars

pub car-at : (floors cars c : ℕ) → c < length (case_cars floors cars) → get_or (case_cars floors cars) c no_car ≡ case_car floors c
car-at floors cars c h = get_or-map-range_with_len (case_car floors) 0 cars c c no_car (rw cars-length at h) (zero-add c)

pub IsBuilding-case : (travel : Square) (floors cars : ℕ) → 2 ≤ floors → floors ≤ 64 → 1 ≤ cars → cars ≤ 8 → travel.floors ≡ length (heights floors)
    → IsTravelSquare travel → IsBuilding (case_building travel floors cars)
IsBuilding-case travel floors cars two few one most same square = record {
  version_low = omega arith;
  version_high = omega arith;
  floors_low = rw heights-length two;
  floors_high = rw heights-length few;
  heights = heights-low floors few;
  rising = heights-rising floors;
  speed_low = omega arith;
  speed_high = omega arith;
  accel_low = omega arith;
  accel_high = omega arith;
  wait_weight = omega arith;
  travel_weight = omega arith;
  patience = omega arith;
  patience_weight = omega arith;
  patient = λ version. refl;
  cars_low = rw cars-length one;
  cars_high = rw cars-length most;
  cars = λ c h. rw (car-at floors cars c h, heights-length floors) (IsCarSpec-case floors c two);
  ids = λ c d less h e.
      let first = ap (λ (x : CarSpec). x.id) (car-at floors cars c (omega arith)) in
      let second = ap (λ (x : CarSpec). x.id) (car-at floors cars d h) in
      omega (arith, first, second, e);
  travel_floors = same;
  travel = square;
}

-- the building of a case, of these heights and cars
abbrev pub building_with : (floors : List ℕ) (cars : List CarSpec) → Square → Building
building_with floors cars travel = record {
  version = 1;
  heights = floors;
  speed = 2000;
  accel = 1000;
  wait_weight = 1;
  travel_weight = 1;
  patience = 0;
  patience_weight = 0;
  cars = cars;
  travel = travel;
}

pub building_with-case : (made : List ℕ) (specs : List CarSpec) (travel : Square) (floors cars : ℕ) → made ≡ heights floors → specs ≡ case_cars floors cars
    → building_with made specs travel ≡ case_building travel floors cars
building_with-case made specs travel floors cars first second = rw (first, second) refl
