-- A building has no fault exactly where it keeps the rules.
use Rattle.std.proofs.Common.{◌≡◌, ℕ, zero, suc, ◌+◌, ◌-◌, ◌^◌, ◌<◌, ◌≤◌, ◌==◌, Bool, true, false, not, ◌||◌, nat_lt, cond, List, [], ◌∷◌, ◌++◌, length, map}
use Rattle.std.proofs.Common.{get_or, slice_index, take, Option, Some, None, sym, ◌∙◌, refl, arith}
use Rattle.std.specs.List.{list_any}
use Rattle.std.proofs.lemmas.Bool.{and_parts, and_from, ltb-true, ltb-false, lt-ltb, le-ltb, leb-true, leb-false, lt-leb, eqb-true, eqb-false, ne_eqb, not-true}
use Rattle.std.proofs.lemmas.Bool.{not-false}
use Rattle.std.proofs.lemmas.Bool.Decides.{nat_tests}
use Rattle.std.proofs.lemmas.List.{get_or-map, length-map, length-take-le}
use Rattle.elevator_model.specs.declared.CarSpec.{CarSpec}
use Rattle.elevator_model.specs.declared.Fault.{Fault}
use Rattle.call_sets.specs.Counting.{has, sum_where}
use Rattle.elevator_model.specs.Travel.{IsTravelSquare}
use Rattle.elevator_model.specs.Building.{Building, IsBuilding, IsCarSpec, floor_count, car_of, no_car, most_cars}
use Rattle.elevator_model.specs.Faults.{is_rising, in_ranges, fault_of_frame, fault_of_spec, first_in, first_fault_of_building}
use Rattle.call_state.specs.Ids.{AreDifferent}
use Rattle.call_state.specs.Tests.{is_in_range}
use Rattle.call_state.proofs.ListTests.{list_any_false, list_any_at_false, fails_before, none_before}
use Rattle.call_state.proofs.FirstFaults.{fault_or-none, first_in-none, first_in-clear}

-- a test that comes first in a list of tests and finds nothing
pub cond-none : (b : Bool) (fault : Fault) (rest : Option Fault) → cond b (Some fault) rest ≡ None → (b ≡ false) × (rest ≡ None)
cond-none false fault rest none = (refl, none)
cond-none true fault rest none = cc

pub is_rising-short : (xs : List ℕ) → length xs ≤ 1 → is_rising xs ≡ true
is_rising-short [] short = refl
is_rising-short (x ∷ []) short = refl
is_rising-short (x ∷ y ∷ ys) short = absurd (omega arith)

-- rising from each place to each later one
pub rising-from : (xs : List ℕ) → is_rising xs ≡ true → (f g : ℕ) → f < g → g < length xs → slice_index xs f < slice_index xs g
rising-from [] rises f g before within = absurd (omega arith)
rising-from (x ∷ []) rises f g before within = absurd (omega arith)
rising-from (x ∷ y ∷ ys) rises f zero before within = absurd (omega arith)
rising-from (x ∷ y ∷ ys) rises zero (suc zero) before within = ltb-true x y (and_parts (nat_lt x y) (is_rising (y ∷ ys)) rises).0
rising-from (x ∷ y ∷ ys) rises zero (suc (suc g)) before within =
    let parts = and_parts (nat_lt x y) (is_rising (y ∷ ys)) rises in
    let first = ltb-true x y parts.0 in
    let later : y < slice_index (y ∷ ys) (suc g) = rising-from (y ∷ ys) parts.1 0 (suc g) (omega arith) (omega arith) in
    omega arith
rising-from (x ∷ y ∷ ys) rises (suc f) (suc (suc g)) before within =
    rising-from (y ∷ ys) (and_parts (nat_lt x y) (is_rising (y ∷ ys)) rises).1 f (suc g) (omega arith) (omega arith)
rising-from (x ∷ y ∷ ys) rises (suc f) (suc zero) before within = absurd (omega arith)

pub is_rising-to : (xs : List ℕ) → ((f g : ℕ) → f < g → g < length xs → slice_index xs f < slice_index xs g) → is_rising xs ≡ true
is_rising-to [] rises = refl
is_rising-to (x ∷ []) rises = refl
is_rising-to (x ∷ y ∷ ys) rises =
    and_from (nat_lt x y) (is_rising (y ∷ ys)) (lt-ltb x y (rises 0 1 (omega arith) (omega arith)))
    (is_rising-to (y ∷ ys) (λ f g before within. rises (suc f) (suc g) (omega arith) (omega arith)))

pub record IsInRanges (b : Building) : Type 0 where
  pub version_low : 1 ≤ b.version
  pub version_high : b.version ≤ 3
  pub floors_low : 2 ≤ floor_count b
  pub floors_high : floor_count b ≤ 64
  pub heights : list_any (λ h. nat_lt 1000000 h) b.heights ≡ false
  pub speed_low : 100 ≤ b.speed
  pub speed_high : b.speed ≤ 20000
  pub accel_low : 100 ≤ b.accel
  pub accel_high : b.accel ≤ 5000
  pub wait_weight : b.wait_weight ≤ 1000
  pub travel_weight : b.travel_weight ≤ 1000
  pub patience : b.patience ≤ 1000000000
  pub patience_weight : b.patience_weight ≤ 1000
  pub patient : b.version ≡ 1 → b.patience + b.patience_weight ≡ 0
  pub travel_floors : b.travel.floors ≡ floor_count b
  pub cars_low : 1 ≤ length b.cars

pub patient-from : (version patience : ℕ) → (not (version == 1) || (patience == 0)) ≡ true → version ≡ 1 → patience ≡ 0
patient-from version patience holds first = grind (arith, nat_tests)

pub IsInRanges-from : (b : Building) → in_ranges b ≡ true → IsInRanges b
IsInRanges-from b holds =
    let cars = and_parts _ _ holds in
    let travel = and_parts _ _ cars.0 in
    let patient = and_parts _ _ travel.0 in
    let patience_weight = and_parts _ _ patient.0 in
    let patience = and_parts _ _ patience_weight.0 in
    let travel_weight = and_parts _ _ patience.0 in
    let wait_weight = and_parts _ _ travel_weight.0 in
    let accel = and_parts _ _ wait_weight.0 in
    let speed = and_parts _ _ accel.0 in
    let heights = and_parts _ _ speed.0 in
    let floors = and_parts _ _ heights.0 in
    let version_parts = and_parts _ _ floors.0 in
    let floors_parts = and_parts _ _ floors.1 in
    let speed_parts = and_parts _ _ speed.1 in
    let accel_parts = and_parts _ _ accel.1 in
    record {
      version_low = leb-true 1 b.version version_parts.0;
      version_high = leb-true b.version 3 version_parts.1;
      floors_low = leb-true 2 (floor_count b) floors_parts.0;
      floors_high = leb-true (floor_count b) 64 floors_parts.1;
      heights = not-true (list_any (λ h. nat_lt 1000000 h) b.heights) heights.1;
      speed_low = leb-true 100 b.speed speed_parts.0;
      speed_high = leb-true b.speed 20000 speed_parts.1;
      accel_low = leb-true 100 b.accel accel_parts.0;
      accel_high = leb-true b.accel 5000 accel_parts.1;
      wait_weight = leb-true b.wait_weight 1000 wait_weight.1;
      travel_weight = leb-true b.travel_weight 1000 travel_weight.1;
      patience = leb-true b.patience 1000000000 patience.1;
      patience_weight = leb-true b.patience_weight 1000 patience_weight.1;
      patient = patient-from b.version (b.patience + b.patience_weight) patient.1;
      travel_floors = eqb-true b.travel.floors (floor_count b) travel.1;
      cars_low = ltb-true 0 (length b.cars) cars.1;
    }

pub in_ranges-to : (b : Building) → IsInRanges b → in_ranges b ≡ true
in_ranges-to b r = grind (arith, nat_tests)

-- a car after the cars before it, fault by fault
pub record IsSpecClear (floors greatest : ℕ) (before : List CarSpec) (car : CarSpec) : Type 0 where
  pub in_range : is_in_range car ≡ true
  pub id : list_any (λ (x : CarSpec). x.id == car.id) before ≡ false
  pub below : car.serves < 2 ^ floors
  pub few : length before < greatest
  pub two : 2 ≤ sum_where floors (has car.serves) (λ _. 1)

pub IsSpecClear-from : (floors greatest : ℕ) (before : List CarSpec) (car : CarSpec) → fault_of_spec floors greatest before car ≡ None
    → IsSpecClear floors greatest before car
IsSpecClear-from floors greatest before car none =
    let a = cond-none _ _ _ none in
    let b = cond-none _ _ _ a.1 in
    let c = cond-none _ _ _ b.1 in
    let d = cond-none _ _ _ c.1 in
    let e = cond-none _ _ _ d.1 in
    record {
      in_range = not-false (is_in_range car) a.0;
      id = b.0;
      below = leb-false (2 ^ floors) car.serves c.0;
      few = leb-false greatest (length before) d.0;
      two = ltb-false (sum_where floors (has car.serves) (λ _. 1)) 2 e.0;
    }

pub IsCarSpec-from : (floors greatest : ℕ) (before : List CarSpec) (car : CarSpec) → IsSpecClear floors greatest before car → IsCarSpec floors car
IsCarSpec-from floors greatest before car clear =
    let holds : is_in_range car ≡ true = clear.in_range in
    record {
      capacity_low = grind (arith, nat_tests);
      capacity_high = grind (arith, nat_tests);
      opening = grind (arith, nat_tests);
      closing = grind (arith, nat_tests);
      boarding = grind (arith, nat_tests);
      alighting = grind (arith, nat_tests);
      serves_floors = clear.below;
      serves_two = clear.two;
    }

pub is_in_range-from : (floors : ℕ) (car : CarSpec) → IsCarSpec floors car → is_in_range car ≡ true
is_in_range-from floors car good = grind (arith, nat_tests)

pub fault_of_spec-clear : (floors greatest : ℕ) (before : List CarSpec) (car : CarSpec) → IsSpecClear floors greatest before car
    → fault_of_spec floors greatest before car ≡ None
fault_of_spec-clear floors greatest before car clear =
    rw (
      clear.in_range,
      clear.id,
      lt-leb (2 ^ floors) car.serves clear.below,
      lt-leb greatest (length before) clear.few,
      le-ltb (sum_where floors (has car.serves) (λ _. 1)) 2 clear.two,
    )

-- where there is no fault, the rules are kept
pub faultless-IsBuilding : (b : Building) → IsTravelSquare b.travel → first_fault_of_building b ≡ None → IsBuilding b
faultless-IsBuilding b square none =
    let floors = floor_count b in
    let greatest = most_cars b.version in
    let parts = fault_or-none (fault_of_frame b) 0 (first_in (fault_of_spec floors greatest) [] b.cars 1) none in
    let frame = cond-none _ _ _ parts.0 in
    let rising = cond-none _ _ _ frame.1 in
    let r = IsInRanges-from b (not-false (in_ranges b) frame.0) in
    let each : (c : ℕ) → c < length b.cars
    → IsSpecClear floors greatest (take c b.cars) (car_of b c) =
    λ c within. IsSpecClear-from floors greatest (take c b.cars) (car_of b c)
    (first_in-none (fault_of_spec floors greatest) [] b.cars 1 c no_car parts.1 within) in
    record {
      version_low = r.version_low;
      version_high = r.version_high;
      floors_low = r.floors_low;
      floors_high = r.floors_high;
      heights = λ f within. ltb-false 1000000 (slice_index b.heights f) (list_any_at_false (λ h. nat_lt 1000000 h) b.heights 0 f r.heights within);
      rising = rising-from b.heights (not-false (is_rising b.heights) rising.0);
      speed_low = r.speed_low;
      speed_high = r.speed_high;
      accel_low = r.accel_low;
      accel_high = r.accel_high;
      wait_weight = r.wait_weight;
      travel_weight = r.travel_weight;
      patience = r.patience;
      patience_weight = r.patience_weight;
      patient = r.patient;
      cars_low = r.cars_low;
      cars_high =
          let some : 1 ≤ length b.cars = r.cars_low in
          let last = (each (length b.cars - 1) (omega arith)).few in
          let long = length-take-le (length b.cars - 1) b.cars (omega arith) in
          omega arith;
      cars = λ c within. IsCarSpec-from floors greatest (take c b.cars) (car_of b c) (each c within);
      ids = λ c d before within.
          eqb-false (car_of b c).id (car_of b d).id
          (fails_before (λ (x : CarSpec). x.id == (car_of b d).id) b.cars no_car d c (each d within).id before within);
      travel_floors = r.travel_floors;
      travel = square;
    }

-- where the rules are kept, there is no fault
pub IsBuilding-faultless : (b : Building) → IsBuilding b → first_fault_of_building b ≡ None
IsBuilding-faultless b good =
    let floors = floor_count b in
    let greatest = most_cars b.version in
    let r : IsInRanges b = record {
      version_low = good.version_low;
      version_high = good.version_high;
      floors_low = good.floors_low;
      floors_high = good.floors_high;
      heights = list_any_false (λ h. nat_lt 1000000 h) b.heights 0 (λ k within. le-ltb 1000000 (slice_index b.heights k) (good.heights k within));
      speed_low = good.speed_low;
      speed_high = good.speed_high;
      accel_low = good.accel_low;
      accel_high = good.accel_high;
      wait_weight = good.wait_weight;
      travel_weight = good.travel_weight;
      patience = good.patience;
      patience_weight = good.patience_weight;
      patient = good.patient;
      travel_floors = good.travel_floors;
      cars_low = good.cars_low;
    } in
    let clear : (c : ℕ) → c < length b.cars → fault_of_spec floors greatest ([] ++ take c b.cars) (get_or b.cars c no_car) ≡ None = λ c within.
    let long = length-take-le c b.cars (omega arith) in
    let high : length b.cars ≤ greatest = good.cars_high in
    fault_of_spec-clear floors greatest (take c b.cars) (car_of b c) (record {
      in_range = is_in_range-from floors (car_of b c) (good.cars c within);
      id = none_before (λ (x : CarSpec). x.id == (car_of b c).id) b.cars no_car c within
          (λ k before. ne_eqb (car_of b k).id (car_of b c).id (good.ids k c before within));
      below = (good.cars c within).serves_floors;
      few = omega arith;
      two = (good.cars c within).serves_two;
    }) in
    let cars_clear = first_in-clear (fault_of_spec floors greatest) [] b.cars 1 no_car clear in
    rw (in_ranges-to b r, is_rising-to b.heights good.rising, cars_clear)

-- the ids of the cars are different
pub ids-IsBuilding : (b : Building) → IsBuilding b → AreDifferent (map (λ (x : CarSpec). x.id) b.cars)
ids-IsBuilding b good j k before within same =
    let long = length-map b.cars (λ (x : CarSpec). x.id) in
    good.ids j k before (omega arith)
    (sym (get_or-map (λ (x : CarSpec). x.id) b.cars j no_car 0 (omega arith)) ∙ same ∙ get_or-map (λ (x : CarSpec). x.id) b.cars k no_car 0 (omega arith))
