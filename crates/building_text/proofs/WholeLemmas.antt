-- A building whose lines were read keeps the rules.
use Rattle.std.proofs.Common.{◌≡◌, ℕ, ◌+◌, ◌<◌, ◌≤◌, Bool, true, false, cond, List, [], ◌∷◌, ◌++◌, length, drop, zero, suc, Option, None, Some, Ok, Err, ap}
use Rattle.std.proofs.Common.{refl, arith, ◌∙◌, subst, eq-eqb, slice_index}
use Rattle.std.specs.Prelude.{nat_lt, ◌==◌}
use Rattle.std.specs.List.{AllByRecursion, list_any}
use Rattle.std.proofs.lemmas.Bool.{le-ltb}
use Rattle.std.proofs.lemmas.Bool.Decides.{nat_tests}
use Rattle.call_state.proofs.BuildingLemmas.{IsInRanges, in_ranges-to}
use Rattle.lift_text.specs.Numbers.{digits_number}
use Rattle.elevator_model.specs.declared.CarSpec.{CarSpec}
use Rattle.elevator_model.specs.declared.Fault.{Fault}
use Rattle.elevator_model.specs.Building.{Building, floor_count, most_cars}
use Rattle.elevator_model.specs.declared.Fault.TheVariants.{NotRising, IdUsedBefore, NoSuchFloor}
use Rattle.elevator_model.specs.Faults.{fault_of_spec, first_in, is_rising, first_fault_of_building}
use Rattle.lift_text.specs.declared.codes.TextCode.TheVariants.{TooMany, Item}
use Rattle.text_sections.specs.Judging.{◌>>=◌, Judged}
use Rattle.text_sections.specs.Words.{number, word_at, within, exactly, at_least, at_most}
use Rattle.text_sections.specs.NumberLists.{numbers}
use Rattle.text_sections.specs.Sections.{Line}
use Rattle.text_sections.proofs.NumberLemmas.{is_within}
use Rattle.text_sections.proofs.StepLemmas.{then-inv}
use Rattle.building_text.specs.Words.{one_number, two_numbers, rising, heights_of, has_car_words, car_numbers, served_of, faultless, with_floors, judged_car}
use Rattle.building_text.specs.Words.{car_of_line}
use Rattle.building_text.specs.BuildingText.{ArePatienceLines, AreCarLines, AreBuildingLines}
use Rattle.building_text.proofs.SaidLemmas.{numbers-length, numbers_of-within, IsFrom, in_range}
use Rattle.building_text.proofs.LineLemmas.{at_least_ok, rising_ok, nothing}

number_from : (words : Line) (k low high n : ℕ) → number words k low high ≡ Ok n → IsFrom low high n
number_from words k low high n is = in_range low high n (number words k low high) (is_within low high (digits_number (word_at words k))) is

one_from : (words : Line) (low high n : ℕ) → one_number words low high ≡ Ok n → IsFrom low high n
one_from words low high n is =
    let r = then-inv (exactly words 2) (λ _. number words 1 low high) n is in
    number_from words 1 low high n r.2

two_from : (words : Line) (high high' a b : ℕ) → two_numbers words high high' ≡ Ok (a, b) → (a ≤ high) × (b ≤ high')
two_from words high high' a b is =
    let r = then-inv (exactly words 3) (λ _. number words 1 0 high >>= λ x. (number words 2 0 high' >>= λ y. Ok (x, y))) (a, b) is in
    let x = then-inv (number words 1 0 high) (λ x. number words 2 0 high' >>= λ y. Ok (x, y)) (a, b) r.2 in
    let y = then-inv (number words 2 0 high') (λ y. Ok (x.0, y)) (a, b) x.2 in
    let pair : Ok (x.0, y.0) ≡ Ok (a, b) = y.2 in
    let same : (x.0, y.0) ≡ (a, b) = cc in
    let first : x.0 ≡ a = ap (λ (p : ℕ × ℕ). p.0) same in
    let second : y.0 ≡ b = ap (λ (p : ℕ × ℕ). p.1) same in
    (subst (λ n. n ≤ high) first (number_from words 1 0 high x.0 x.1).1, subst (λ n. n ≤ high') second (number_from words 2 0 high' y.0 y.1).1)

-- ---- heights

none_too_high : (hs : List ℕ) → AllByRecursion (IsFrom 0 1000000) hs → list_any (λ h. nat_lt 1000000 h) hs ≡ false
none_too_high [] all = refl
none_too_high (h ∷ hs) all =
    let e : nat_lt 1000000 h ≡ false = le-ltb 1000000 h all.0.1 in
    rw e (none_too_high hs all.1)

each_low : (hs : List ℕ) → AllByRecursion (IsFrom 0 1000000) hs → (f : ℕ) → f < length hs → slice_index hs f ≤ 1000000
each_low [] all f within = absurd (omega arith)
each_low (h ∷ hs) all zero within = all.0.1
each_low (h ∷ hs) all (suc f) within = each_low hs all.1 f (omega arith)

at_most_ok : (words : Line) (count : ℕ) (done : Unit {0}) → at_most words count ≡ Ok done → length words ≤ count
at_most_ok words count done is = by_test (nat_lt count (length words)) refl is
  where
    by_test : (many : Bool) → nat_lt count (length words) ≡ many → cond many (Err TooMany) (Ok nothing) ≡ Ok done → length words ≤ count
    by_test true f same = absurd cc
    by_test false f same = grind (arith, nat_tests)

rises : (ns hs : List ℕ) → rising ns ≡ Ok hs → is_rising hs ≡ true
rises ns hs is = by_test (is_rising ns) refl is
  where
    by_test : (up : Bool) → is_rising ns ≡ up → cond {A = Judged (List ℕ)} up (Ok ns) (Err (Item NotRising)) ≡ Ok hs → is_rising hs ≡ true
    by_test true e same = let is_same : ns ≡ hs = cc in subst (λ l. is_rising l ≡ true) is_same e
    by_test false e same = absurd cc

-- what a line of heights says
pub record AreHeights (hs : List ℕ) : Type 0 where
  pub low : 2 ≤ length hs
  pub high : length hs ≤ 64
  pub none_high : list_any (λ h. nat_lt 1000000 h) hs ≡ false
  pub each : (f : ℕ) → f < length hs → slice_index hs f ≤ 1000000
  pub up : is_rising hs ≡ true

pub heights_are : (words : Line) (hs : List ℕ) → heights_of words ≡ Ok hs → AreHeights hs
heights_are words hs is =
    let r = then-inv (at_least words 3 >>= λ _. (at_most words 65 >>= λ _. numbers words 1 0 1000000)) rising hs is in
    let read = then-inv (at_least words 3) (λ _. at_most words 65 >>= λ _. numbers words 1 0 1000000) r.0 r.1 in
    let more = then-inv (at_most words 65) (λ _. numbers words 1 0 1000000) r.0 read.2 in
    let size = numbers-length words 1 0 1000000 r.0 more.2 in
    let enough = at_least_ok words 3 read.0 read.1 in
    let few = at_most_ok words 65 more.0 more.1 in
    let e = rising_ok r.0 hs r.2 in
    let same = ap length e in
    let all = subst (AllByRecursion (IsFrom 0 1000000)) e (numbers_of-within 0 1000000 (drop 1 words) r.0 more.2) in
    record { low = omega arith; high = omega arith; none_high = none_too_high hs all; each = each_low hs all; up = rises r.0 hs r.2 }

-- ---- cars

faultless_ok : (car new : CarSpec) (fault : Option Fault) → faultless car fault ≡ Ok new → (fault ≡ None) × (car ≡ new)
faultless_ok car new None is = (refl, cc)
faultless_ok car new (Some fault) is = absurd cc

judged_ok : (floors most : ℕ) (before : List CarSpec) (car new : CarSpec) (set : Option ℕ) → judged_car floors most before car set ≡ Ok new
    → fault_of_spec floors most before new ≡ None
judged_ok floors most before car new (Some set) is =
    let r = faultless_ok (with_floors car set) new (fault_of_spec floors most before (with_floors car set)) is in
    subst (λ c. fault_of_spec floors most before c ≡ None) r.1 r.0
judged_ok floors most before car new None is = by_test (list_any (λ (x : CarSpec). x.id == car.id) before) is
  where
    by_test : (used : Bool) → cond {A = Judged CarSpec} used (Err (Item IdUsedBefore)) (Err (Item NoSuchFloor)) ≡ Ok new
        → fault_of_spec floors most before new ≡ None
    by_test true same = absurd cc
    by_test false same = absurd cc

pub car_faultless : (floors most : ℕ) (before : List CarSpec) (words : Line) (car : CarSpec) → car_of_line floors most before words ≡ Ok car
    → fault_of_spec floors most before car ≡ None
car_faultless floors most before words car is =
    let read = then-inv (has_car_words words >>= λ _. car_numbers words) (λ c. served_of floors words >>= λ set. judged_car floors most before c set) car is in
    let set = then-inv (served_of floors words) (λ set. judged_car floors most before read.0 set) car read.2 in
    judged_ok floors most before read.0 car set.0 set.2

cars_faultless : (floors most : ℕ) (before : List CarSpec) (lines : List Line) (cars : List CarSpec) (k : ℕ) → AreCarLines floors most before lines cars
    → first_in (fault_of_spec floors most) before cars k ≡ None
cars_faultless floors most before [] cars k are = ap (λ cs. first_in (fault_of_spec floors most) before cs k) are
cars_faultless floors most before (words ∷ lines) cars k are =
    let clear = car_faultless floors most before words are.0 are.4 in
    ap (λ cs. first_in (fault_of_spec floors most) before cs k) are.2 ∙ rw clear (cars_faultless floors most (before ++ are.0 ∷ []) lines are.1 (k + 1) are.5)

-- ---- patience

pub record IsPatience (version_one : Bool) (patience weight : ℕ) : Type 0 where
  pub first : patience ≤ 1000000000
  pub second : weight ≤ 1000
  pub none : version_one ≡ true → patience + weight ≡ 0

patience_is : (version_one : Bool) (lines : List Line) (patience weight : ℕ) → ArePatienceLines version_one lines patience weight
    → IsPatience version_one patience weight
patience_is true lines patience weight are =
    let first = are.1 in
    let second = are.2 in
    record { first = omega arith; second = omega arith; none = λ e. omega arith }
patience_is false lines patience weight are =
    let r = two_from are.0 1000000000 1000 patience weight are.2.numbers in
    record { first = r.0; second = r.1; none = λ e. absurd cc }

-- ---- the building

pub in_ranges_of : (lines : List Line) (b : Building) (times : List ℕ) → AreBuildingLines lines b times → b.travel.floors ≡ floor_count b → IsInRanges b
in_ranges_of lines b times is floors =
    let version = one_from is.version_line 1 3 b.version is.version.number in
    let speed = one_from is.speed_line 100 20000 b.speed is.speed.number in
    let accel = one_from is.accel_line 100 5000 b.accel is.accel.number in
    let weights = two_from is.weights_line 1000 1000 b.wait_weight b.travel_weight is.weights.numbers in
    let patience = patience_is (b.version == 1) is.patience_lines b.patience b.patience_weight is.patience in
    let heights = heights_are is.heights_line b.heights is.heights in
    record {
      version_low = version.0;
      version_high = version.1;
      floors_low = heights.low;
      floors_high = heights.high;
      heights = heights.none_high;
      speed_low = speed.0;
      speed_high = speed.1;
      accel_low = accel.0;
      accel_high = accel.1;
      wait_weight = weights.0;
      travel_weight = weights.1;
      patience = patience.first;
      patience_weight = patience.second;
      patient = λ e. patience.none (eq-eqb b.version 1 e);
      travel_floors = floors;
      cars_low = is.some_car;
    }

pub no_fault : (lines : List Line) (b : Building) (times : List ℕ) → AreBuildingLines lines b times → b.travel.floors ≡ floor_count b
    → first_fault_of_building b ≡ None
no_fault lines b times is floors =
    let heights = heights_are is.heights_line b.heights is.heights in
    let cars_clear = cars_faultless (floor_count b) (most_cars b.version) [] is.car_lines b.cars 1 is.cars in
    let up = heights.up in
    rw (in_ranges-to b (in_ranges_of lines b times is floors), up, cars_clear) refl
