-- The lines that are written of a building stand for it.
use Rattle.std.proofs.Common.{◌≡◌, ◌≢◌, ℕ, zero, suc, ◌+◌, ◌-◌, ◌*◌, ◌%◌, ◌^◌, ◌<◌, ◌≤◌, Bool, true, false, cond, eqb, ltb, List, [], ◌∷◌, ◌++◌, length, map}
use Rattle.std.proofs.Common.{drop, get_or, slice_index, None, Some, Ok, ap, refl, arith, ◌∙◌, sym, subst, append_assoc, append-nil, length-append, eq-eqb}
use Rattle.std.proofs.Common.{drop-cons}
use Rattle.std.specs.Prelude.{codes, decimal, nat_lt, ◌==◌, filter}
use Rattle.std.specs.Int.{bit_at}
use Rattle.std.specs.Str.{bytes_eq}
use Rattle.std.specs.List.{AllByRecursion, range_with_len}
use Rattle.std.proofs.lemmas.Bool.{lt-ltb, le-ltb, eqb-true, eqb-false, ne_eqb, and_from}
use Rattle.std.proofs.lemmas.Fmt.{decimal_by_steps}
use Rattle.std.proofs.lemmas.List.{length-map, drop_all}
use Rattle.std.proofs.Math.Arith.{mod-mul}
use Rattle.std.proofs.Math.Nat.{mod-lt, mod-eq_of_lt, mod-one, pow-succ'}
use Rattle.std.proofs.Math.Pow.{pow_mono, pow_pos}
use Rattle.std.proofs.lemmas.Nat.Bits.{bit_at-lt}
use Rattle.call_sets.specs.Counting.{has, sum_where}
use Rattle.call_state.specs.Squares.{square_of}
use Rattle.call_state.proofs.BuildingLemmas.{is_rising-to, IsBuilding-faultless}
use Rattle.call_state.proofs.FirstFaults.{fault_or-none}
use Rattle.elevator_model.specs.declared.CarSpec.{CarSpec}
use Rattle.elevator_model.specs.Building.{Building, IsCarSpec, floor_count, no_car, most_cars}
use Rattle.elevator_model.specs.Faults.{fault_of_spec, fault_of_frame, first_in, is_rising}
use Rattle.elevator_model.specs.Travel.{Square, IsTravelSquare, time_between}
use Rattle.motion_table.specs.Tables.{rests_at}
use Rattle.text_sections.specs.Judging.{◌>>=◌}
use Rattle.text_sections.specs.Words.{number, within, exactly}
use Rattle.text_sections.specs.NumberLists.{numbers_of, numbers}
use Rattle.text_sections.specs.Sections.{Line}
use Rattle.text_sections.proofs.NumberLemmas.{number_again}
use Rattle.building_text.specs.Words.{heights_of, has_car_words, car_numbers, set_of, served_of, car_of_line}
use Rattle.building_text.specs.BuildingText.{IsNumberLine, IsPairLine, ArePatienceLines, IsRowLine, AreRowLines, AreTimesLines, AreCarLines, AreBuildingLines}
use Rattle.building_text.specs.BuildingText.{IsTravelFrom, IsBuildingText}
use Rattle.building_text.specs.Written.{named, row_line, floors_in, car_line, end_line, building_lines, HasText}
use Rattle.building_text.proofs.SaidLemmas.{IsFrom}
use Rattle.building_text.proofs.TriangleLemmas.{direct_has_none}
use Rattle.building_text.proofs.WrittenLemmas.{filter_range_more}

-- ---- numbers

numbers_again : (low high : ℕ) (ns : List ℕ) → high < 2 ^ 64 → AllByRecursion (IsFrom low high) ns → numbers_of low high (map decimal ns) ≡ Ok ns
numbers_again low high [] small all = refl
numbers_again low high (n ∷ ns) small all =
    ap (λ j. j >>= λ m. (numbers_of low high (map decimal ns) >>= λ ms. Ok (m ∷ ms))) (number_again n low high (omega (arith, all.0.1)) all.0.0 all.0.1)
    ∙ ap (λ j. j >>= λ ms. Ok (n ∷ ms)) (numbers_again low high ns small all.1)

number_line : (name : List ℕ) (low high n : ℕ) → high < 2 ^ 64 → low ≤ n → n ≤ high → bytes_eq name name ≡ true
    → IsNumberLine (named name (n ∷ [])) name low high n
number_line name low high n small above below same = record { name_is = same; number = number_again n low high (omega arith) above below }

pair_line : (name : List ℕ) (high high' a b : ℕ) → high < 2 ^ 64 → high' < 2 ^ 64 → a ≤ high → b ≤ high' → bytes_eq name name ≡ true
    → IsPairLine (named name (a ∷ b ∷ [])) name high high' a b
pair_line name high high' a b small small' below below' same = record {
  name_is = same;
  numbers = ap (λ j. j >>= λ x. (number (named name (a ∷ b ∷ [])) 2 0 high' >>= λ y. Ok (x, y))) (number_again a 0 high (omega arith) (omega arith) below)
      ∙ ap (λ j. j >>= λ y. Ok (a, y)) (number_again b 0 high' (omega arith) (omega arith) below');
}

patience_again : (one : Bool) (p w : ℕ) → (one ≡ true → p + w ≡ 0) → p ≤ 1000000000 → w ≤ 1000
    → ArePatienceLines one (cond one [] (named (codes "patience") (p ∷ w ∷ []) ∷ [])) p w
patience_again true p w none first second = let sum = none refl in (refl, omega arith, omega arith)
patience_again false p w none first second =
    (named (codes "patience") (p ∷ w ∷ []), refl, pair_line (codes "patience") 1000000000 1000 p w (omega arith) (omega arith) first second refl)

heights_again : (hs : List ℕ) → 2 ≤ length hs → length hs ≤ 64 → AllByRecursion (IsFrom 0 1000000) hs → is_rising hs ≡ true
    → heights_of (named (codes "floors") hs) ≡ Ok hs
heights_again hs low high all up =
    let long = length-map hs decimal in
    let few : nat_lt (length (named (codes "floors") hs)) 3 ≡ false = le-ltb _ _ (omega arith) in
    let many : nat_lt 65 (length (named (codes "floors") hs)) ≡ false = le-ltb _ _ (omega arith) in
    let read = numbers_again 0 1000000 hs (omega arith) all in
    rw (few, many, read, up) refl

pub all_low : (hs : List ℕ) (high : ℕ) → ((f : ℕ) → f < length hs → slice_index hs f ≤ high) → AllByRecursion (IsFrom 0 high) hs
all_low [] high each = tt
all_low (h ∷ hs) high each = ((omega arith, each 0 (omega arith)), all_low hs high (λ f within. each (suc f) (omega arith)))

-- ---- stated times

exactly_given : (words : Line) (count : ℕ) → length words ≡ count → exactly words count ≡ Ok tt
exactly_given words count is =
    let few : nat_lt (length words) count ≡ false = le-ltb _ _ (omega arith) in
    let many : nat_lt count (length words) ≡ false = le-ltb _ _ (omega arith) in
    rw (few, many) refl

rests_again : (k j m : ℕ) (f : ℕ → ℕ) → ((g : ℕ) → j ≤ g → g < j + m → (k ≡ g → f g ≡ 0) × (k ≢ g → 1 ≤ f g)) → rests_at k j (map f (range_with_len j m)) ≡ true
rests_again k j zero f each = refl
rests_again k j (suc m) f each =
    and_from (cond (j == k) (f j == 0) (nat_lt 0 (f j))) (rests_at k (j + 1) (map f (range_with_len (j + 1) m)))
    (by_test (j == k) refl (each j (omega arith) (omega arith)))
    (rests_again k (j + 1) m f (λ g low high. each g (omega arith) (omega arith)))
  where
    by_test : (same : Bool) → (j == k) ≡ same → (k ≡ j → f j ≡ 0) × (k ≢ j → 1 ≤ f j) → cond same (f j == 0) (nat_lt 0 (f j)) ≡ true
    by_test true e at = eq-eqb (f j) 0 (at.0 (sym (eqb-true _ _ e)))
    by_test false e at = lt-ltb 0 (f j) (at.1 (λ same. eqb-false _ _ e (sym same)))

pub range_length : (j m : ℕ) → length (range_with_len j m) ≡ m
range_length j zero = refl
range_length j (suc m) = ap suc (range_length (j + 1) m)

pub range_within : (j m : ℕ) (f : ℕ → ℕ) (high : ℕ) → ((g : ℕ) → g < j + m → f g ≤ high) → AllByRecursion (IsFrom 0 high) (map f (range_with_len j m))
range_within j zero f high each = tt
range_within j (suc m) f high each = ((omega arith, each j (omega arith)), range_within (j + 1) m f high (λ g within. each g (omega arith)))

row_again : (t : Square) (k : ℕ) → IsTravelSquare t → k < t.floors
    → IsRowLine t.floors k (row_line t.floors t k) (map (time_between t k) (range_with_len 0 t.floors))
row_again t k is below =
    let row = map (time_between t k) (range_with_len 0 t.floors) in
    let long = length-map row decimal in
    let wide = length-map (range_with_len 0 t.floors) (time_between t k) in
    let size = range_length 0 t.floors in
    let read = numbers_again 0 20000000 row (omega arith)
    (range_within 0 t.floors (time_between t k) 20000000 (λ g within. is.bounded k g below (omega arith))) in
    let rest : rests_at k 0 row ≡ true = rests_again k 0 t.floors (time_between t k) (λ g low high. (
      (λ same. subst (λ h. time_between t k h ≡ 0) same (is.at_rest k below)),
      λ differ. is.positive k g below (omega arith) differ,
    )) in
    record { name_is = refl; count = exactly_given (row_line t.floors t k) (t.floors + 1) (omega arith); times = rw (read, rest) refl }

cut : (xs : List ℕ) (a j m : ℕ) → a + j + m ≤ length xs → drop (a + j) xs ≡ map (λ g. get_or xs (a + g) 0) (range_with_len j m) ++ drop (a + j + m) xs
cut xs a j zero within = let e : a + j ≡ a + j + 0 = omega arith in ap (λ i. drop i xs) e
cut xs a j (suc m) within =
    let next : suc (a + j) ≡ a + (j + 1) = omega arith in
    let last : a + (j + 1) + m ≡ a + j + suc m = omega arith in
    drop-cons xs (a + j) 0 (omega arith) ∙ ap (λ i. get_or xs (a + j) 0 ∷ drop i xs) next
    ∙ ap (λ l. get_or xs (a + j) 0 ∷ l)
    (cut xs a (j + 1) m (omega arith) ∙ ap (λ i. map (λ g. get_or xs (a + g) 0) (range_with_len (j + 1) m) ++ drop i xs) last)

rows_again : (t : Square) (m k : ℕ) → IsTravelSquare t → k + m ≡ t.floors
    → AreRowLines t.floors k (map (row_line t.floors t) (range_with_len k m)) (drop (k * t.floors) t.times)
rows_again t zero k is at = (omega arith, drop_all (k * t.floors) t.times (at_end k t.floors (length t.times) (omega arith) is.size))
  where
    at_end : (k n l : ℕ) → k ≡ n → l ≡ n * n → l ≤ k * n
    at_end k n l e s = omega (arith, ap (λ (i : ℕ). i * n) e)
rows_again t (suc m) k is at =
    let n = t.floors in
    let start : k * n ≡ k * n + 0 = omega arith in
    let next : k * n + 0 + n ≡ (k + 1) * n = omega arith in
    let row = ap (λ i. drop i t.times) start ∙ cut t.times (k * n) 0 n (inside k m n (length t.times) at is.size)
    ∙ ap (λ i. map (time_between t k) (range_with_len 0 n) ++ drop i t.times) next in
    (map (time_between t k) (range_with_len 0 n), drop ((k + 1) * n) t.times, row, row_again t k is (omega arith), rows_again t m (k + 1) is (omega arith))
  where
    inside : (k m n l : ℕ) → k + suc m ≡ n → l ≡ n * n → k * n + 0 + n ≤ l
    inside k m n l e s = omega (arith, ap (λ (i : ℕ). i * n) e)

times_again : (stated : Bool) (t : Square) → IsTravelSquare t
    → AreTimesLines stated t.floors (cond stated (map (row_line t.floors t) (range_with_len 0 t.floors)) []) (cond stated t.times [])
times_again true t is =
    let start : 0 * t.floors ≡ 0 = omega arith in (
      subst (λ i. AreRowLines t.floors 0 (map (row_line t.floors t) (range_with_len 0 t.floors)) (drop i t.times)) start
          (rows_again t t.floors 0 is (omega arith)),
      direct_has_none t (λ f f_is g g_is h h_is. is.triangle f g h f_is g_is h_is),
    )
times_again false t is = (refl, refl)

-- ---- served floors

mod_more : (set a : ℕ) → set % 2 ^ (a + 1) ≡ bit_at set a * 2 ^ a + set % 2 ^ a
mod_more set a =
    let double : 2 ^ (a + 1) ≡ 2 * 2 ^ a = ap (λ (k : ℕ). 2 ^ k) (omega arith) ∙ pow-succ' 2 a in
    ap (λ (m : ℕ). set % m) double ∙ mod-mul set (omega arith) (pow_pos a)

set_in : (set a : ℕ) → bit_at set a ≡ 1 → set % 2 ^ a + 2 ^ a ≡ set % 2 ^ (a + 1)
set_in set a one = omega (arith, mod_more set a ∙ ap (λ (b : ℕ). b * 2 ^ a + set % 2 ^ a) one)

set_out : (set a : ℕ) → bit_at set a ≡ 0 → set % 2 ^ a ≡ set % 2 ^ (a + 1)
set_out set a none = omega (arith, mod_more set a ∙ ap (λ (b : ℕ). b * 2 ^ a + set % 2 ^ a) none)

set_step : (set a k : ℕ) (b : Bool) (fs : List ℕ) → has set a ≡ b → a + suc k ≤ 64 → set_of (set % 2 ^ (a + 1)) fs ≡ Some (set % 2 ^ (a + 1 + k))
    → set_of (set % 2 ^ a) (cond b (a ∷ fs) fs) ≡ Some (set % 2 ^ (a + suc k))
unfolding set_of
set_step set a k true fs in_set le later =
    let low : ltb a 64 ≡ true = lt-ltb _ _ (omega arith) in
    let grown : set % 2 ^ a + 2 ^ a ≡ set % 2 ^ (a + 1) = set_in set a (eqb-true (bit_at set a) 1 in_set) in
    let most : 2 ^ (a + 1) ≤ 2 ^ 64 = pow_mono {i = a + 1} {j = 64} (omega arith) in
    let below : set % 2 ^ (a + 1) < 2 ^ (a + 1) = mod-lt set (pow_pos (a + 1)) in
    let fits : ltb (set % 2 ^ a + 2 ^ a) (2 ^ 64) ≡ true = lt-ltb _ _ (omega arith) in
    rw (low, fits, grown, later) (ap (λ (m : ℕ). Some (set % 2 ^ m)) (omega arith))
set_step set a k false fs out le later =
    let none : bit_at set a ≡ 0 = omega (arith, bit_at-lt set a, eqb-false (bit_at set a) 1 out) in
    rw (set_out set a none, later) (ap (λ (m : ℕ). Some (set % 2 ^ m)) (omega arith))

set_from : (set a k : ℕ) → a + k ≤ 64 → set_of (set % 2 ^ a) (filter (has set) (range_with_len a k)) ≡ Some (set % 2 ^ (a + k))
unfolding set_of
set_from set a zero le = ap (λ (m : ℕ). Some (set % 2 ^ m)) (omega arith)
set_from set a (suc k) le = set_step set a k (has set a) (filter (has set) (range_with_len (a + 1) k)) refl le (set_from set (a + 1) k (omega arith))

set_again : (floors set : ℕ) → floors ≤ 64 → set < 2 ^ floors → set_of 0 (floors_in floors set) ≡ Some set
set_again floors set le fits =
    ap (λ (s : ℕ). set_of s (floors_in floors set)) (sym (mod-one set)) ∙ set_from set 0 floors (omega arith)
    ∙ ap (λ (m : ℕ). Some (set % 2 ^ m)) (omega arith) ∙ ap (λ (s : ℕ). Some s) (mod-eq_of_lt fits)

few_if : (b : Bool) (f high : ℕ) (fs : List ℕ) → f ≤ high → AllByRecursion (IsFrom 0 high) fs → AllByRecursion (IsFrom 0 high) (cond b (f ∷ fs) fs)
few_if true f high fs low later = ((omega arith, low), later)
few_if false f high fs low later = later

pub floors_few : (test : ℕ → Bool) (a k high : ℕ) → a + k ≤ high → AllByRecursion (IsFrom 0 high) (filter test (range_with_len a k))
floors_few test a zero high le = tt
floors_few test a (suc k) high le = few_if (test a) a high (filter test (range_with_len (a + 1) k)) (omega arith) (floors_few test (a + 1) k high (omega arith))

rising_behind : (test : ℕ → Bool) (f a k : ℕ) → f < a → is_rising (f ∷ filter test (range_with_len a k)) ≡ true
rising_behind test f a zero below = refl
rising_behind test f a (suc k) below =
    by_test (test a) (filter test (range_with_len (a + 1) k)) (rising_behind test a (a + 1) k (omega arith)) (rising_behind test f (a + 1) k (omega arith))
  where
    by_test : (here : Bool) (fs : List ℕ) → is_rising (a ∷ fs) ≡ true → is_rising (f ∷ fs) ≡ true → is_rising (f ∷ cond here (a ∷ fs) fs) ≡ true
    by_test true fs next skip = and_from (nat_lt f a) (is_rising (a ∷ fs)) (lt-ltb f a below) next
    by_test false fs next skip = skip

rising_in : (test : ℕ → Bool) (a k : ℕ) → is_rising (filter test (range_with_len a k)) ≡ true
rising_in test a zero = refl
rising_in test a (suc k) = by_test (test a) (filter test (range_with_len (a + 1) k)) (rising_behind test a (a + 1) k (omega arith)) (rising_in test (a + 1) k)
  where
    by_test : (here : Bool) (fs : List ℕ) → is_rising (a ∷ fs) ≡ true → is_rising fs ≡ true → is_rising (cond here (a ∷ fs) fs) ≡ true
    by_test true fs next skip = next
    by_test false fs next skip = skip

length_more : (b : Bool) (n : ℕ) (fs : List ℕ) → length (fs ++ cond b (n ∷ []) []) ≡ length fs + cond b 1 0
length_more true n fs = length-append fs (n ∷ [])
length_more false n fs = length-append fs []

count_in : (test : ℕ → Bool) (n : ℕ) → length (filter test (range_with_len 0 n)) ≡ sum_where n test (λ _. 1)
count_in test zero = refl
count_in test (suc n) = ap (λ k. length (filter test (range_with_len 0 k))) (add-one' n) ∙ ap length (filter_range_more test n)
    ∙ length_more (test n) n (filter test (range_with_len 0 n)) ∙ ap (λ k. k + cond (test n) 1 0) (count_in test n)
  where
    add-one' : (n : ℕ) → suc n ≡ n + 1
    add-one' n = omega arith

few_more : (b : Bool) (f k : ℕ) (fs : List ℕ) → length fs ≤ k → length (cond b (f ∷ fs) fs) ≤ suc k
few_more true f k fs few = omega arith
few_more false f k fs few = omega arith

pub count_few : (test : ℕ → Bool) (a k : ℕ) → length (filter test (range_with_len a k)) ≤ k
count_few test a zero = omega arith
count_few test a (suc k) = few_more (test a) a k (filter test (range_with_len (a + 1) k)) (count_few test (a + 1) k)

abbrev IsNoAll : ℕ → List ℕ → Type 0
IsNoAll n text = (rest : List ℕ) → bytes_eq (text ++ rest) (codes "all") ≡ false

digit_is_no_letter : (d : ℕ) → d < 10 → eqb (48 + d) 97 ≡ false
digit_is_no_letter d low = ne_eqb _ _ (λ e. omega arith)

number_is_no_all : (n : ℕ) → n < 2 ^ 64 → bytes_eq (decimal n) (codes "all") ≡ false
number_is_no_all n fits =
    ap (λ text. bytes_eq text (codes "all")) (sym (append-nil (decimal n)))
    ∙ decimal_by_steps IsNoAll
    (λ d low rest. rw (digit_is_no_letter d low) refl)
    (λ m ds large before rest. ap (λ (x : List ℕ). bytes_eq x (codes "all")) (append_assoc ds ((48 + m % 10) ∷ []) rest) ∙ before ((48 + m % 10) ∷ rest))
    n fits []

-- ---- cars

-- the line of a car with these words for its floors
abbrev car_words : CarSpec → Line → Line
car_words car served = codes "car" ∷ decimal car.id ∷ decimal car.capacity ∷ decimal car.opening ∷ decimal car.closing ∷ decimal car.boarding
    ∷ decimal car.alighting ∷ served

car_numbers_again : (floors : ℕ) (car : CarSpec) (served : Line) → car.id < 2 ^ 32 → IsCarSpec floors car
    → car_numbers (car_words car served) ≡ Ok (record car { serves = 0 })
car_numbers_again floors car served id is =
    let e1 = number_again car.id 0 4294967295 (omega arith) (omega arith) (omega arith) in
    let e2 = number_again car.capacity 1 64 (omega (arith, is.capacity_high)) is.capacity_low is.capacity_high in
    let e3 = number_again car.opening 0 60000 (omega (arith, is.opening)) (omega arith) is.opening in
    let e4 = number_again car.closing 0 60000 (omega (arith, is.closing)) (omega arith) is.closing in
    let e5 = number_again car.boarding 0 60000 (omega (arith, is.boarding)) (omega arith) is.boarding in
    let e6 = number_again car.alighting 0 60000 (omega (arith, is.alighting)) (omega arith) is.alighting in
    rw (e1, e2, e3, e4, e5, e6) refl

-- what is read of a car whose floors are read as its set
car_given : (floors most : ℕ) (before : List CarSpec) (car : CarSpec) (words : Line) → has_car_words words ≡ Ok tt
    → car_numbers words ≡ Ok (record car { serves = 0 }) → served_of floors words ≡ Ok (Some car.serves) → fault_of_spec floors most before car ≡ None
    → car_of_line floors most before words ≡ Ok car
car_given floors most before car words count numbers served clear = rw (count, numbers, served, clear) refl

served_given : (floors : ℕ) (car : CarSpec) (fs : List ℕ) → 2 ≤ length fs → AllByRecursion (IsFrom 0 4294967295) fs → is_rising fs ≡ true
    → set_of 0 fs ≡ Some car.serves
    → (has_car_words (car_words car (map decimal fs)) ≡ Ok tt) × (served_of floors (car_words car (map decimal fs)) ≡ Ok (Some car.serves))
served_given floors car [] two all up set = absurd (omega arith)
served_given floors car (f ∷ []) two all up set = absurd (omega arith)
served_given floors car (f ∷ g ∷ fs) two all up set =
    let no_all = number_is_no_all f (omega (arith, all.0.1)) in
    let words = car_words car (map decimal (f ∷ g ∷ fs)) in
    let enough : nat_lt (length words) 8 ≡ false = le-ltb _ _ (omega arith) in
    let more : nat_lt (length words) 9 ≡ false = le-ltb _ _ (omega arith) in
    let read = numbers_again 0 4294967295 (f ∷ g ∷ fs) (omega arith) all in
    (rw (enough, no_all, more) refl, rw (no_all, read, up, set) refl)

car_again_if : (all : Bool) (floors most : ℕ) (before : List CarSpec) (car : CarSpec) → (car.serves == 2 ^ floors - 1) ≡ all → floors ≤ 64 → car.id < 2 ^ 32
    → IsCarSpec floors car → fault_of_spec floors most before car ≡ None
    → car_of_line floors most before (car_words car (cond all (codes "all" ∷ []) (map decimal (floors_in floors car.serves)))) ≡ Ok car
car_again_if true floors most before car same le id is clear =
    car_given floors most before car (car_words car (codes "all" ∷ [])) refl (car_numbers_again floors car (codes "all" ∷ []) id is)
    (ap (λ (s : ℕ). Ok (Some s)) (sym (eqb-true _ _ same))) clear
car_again_if false floors most before car same le id is clear =
    let fs = floors_in floors car.serves in
    let count = count_in (has car.serves) floors in
    let two = is.serves_two in
    let read = served_given floors car fs (omega arith) (floors_few (has car.serves) 0 floors 4294967295 (omega arith)) (rising_in (has car.serves) 0 floors)
    (set_again floors car.serves le is.serves_floors) in
    car_given floors most before car (car_words car (map decimal fs)) read.0 (car_numbers_again floors car (map decimal fs) id is) read.1 clear

car_again : (floors most : ℕ) (before : List CarSpec) (car : CarSpec) → floors ≤ 64 → car.id < 2 ^ 32 → IsCarSpec floors car
    → fault_of_spec floors most before car ≡ None → car_of_line floors most before (car_line floors car) ≡ Ok car
car_again floors most before car le id is clear = car_again_if (car.serves == 2 ^ floors - 1) floors most before car refl le id is clear

cars_again : (floors most : ℕ) (before cars : List CarSpec) (k : ℕ) → floors ≤ 64 → ((c : ℕ) → c < length cars → (get_or cars c no_car).id < 2 ^ 32)
    → ((c : ℕ) → c < length cars → IsCarSpec floors (get_or cars c no_car)) → first_in (fault_of_spec floors most) before cars k ≡ None
    → AreCarLines floors most before (map (car_line floors) cars) cars
cars_again floors most before [] k le ids each clear = refl
cars_again floors most before (car ∷ cars) k le ids each clear =
    let parts = fault_or-none (fault_of_spec floors most before car) k (first_in (fault_of_spec floors most) (before ++ car ∷ []) cars (k + 1)) clear in (
      car,
      cars,
      refl,
      refl,
      car_again floors most before car le (ids 0 (omega arith)) (each 0 (omega arith)) parts.0,
      cars_again floors most (before ++ car ∷ []) cars (k + 1) le (λ c within. ids (suc c) (omega arith)) (λ c within. each (suc c) (omega arith)) parts.1,
    )

-- ---- the building

travel_again : (stated : Bool) (b : Building) → b.travel.floors ≡ floor_count b → (stated ≡ false → IsTravelFrom false b [])
    → IsTravelFrom stated b (cond stated b.travel.times [])
travel_again true b floors least = ap (λ n. square_of n b.travel.times) floors
travel_again false b floors least = least refl

abbrev pub stated_times : Building → List ℕ
stated_times b = cond (b.version == 3) b.travel.times []

pub lines_again_of : (b : Building) → HasText b → AreBuildingLines (building_lines b) b (stated_times b)
lines_again_of b has_text =
    let is = has_text.building in
    let clear = (fault_or-none (fault_of_frame b) 0 (first_in (fault_of_spec (floor_count b) (most_cars b.version)) [] b.cars 1)
    (IsBuilding-faultless b is)).1 in
    let stated : AreTimesLines (b.version == 3) (floor_count b)
    (cond (b.version == 3) (map (row_line (floor_count b) b.travel) (range_with_len 0 (floor_count b))) []) (stated_times b) =
    subst (λ n. AreTimesLines (b.version == 3) n (cond (b.version == 3) (map (row_line n b.travel) (range_with_len 0 n)) []) (stated_times b)) is.travel_floors
    (times_again (b.version == 3) b.travel is.travel) in
    record {
      version_line = named (codes "building") (b.version ∷ []);
      speed_line = named (codes "speed") (b.speed ∷ []);
      accel_line = named (codes "accel") (b.accel ∷ []);
      weights_line = named (codes "weights") (b.wait_weight ∷ b.travel_weight ∷ []);
      patience_lines = cond (b.version == 1) [] (named (codes "patience") (b.patience ∷ b.patience_weight ∷ []) ∷ []);
      heights_line = named (codes "floors") b.heights;
      times_lines = cond (b.version == 3) (map (row_line (floor_count b) b.travel) (range_with_len 0 (floor_count b))) [];
      car_lines = map (car_line (floor_count b)) b.cars;
      end_line = end_line;
      lines_are = refl;
      version = number_line (codes "building") 1 3 b.version (omega arith) is.version_low is.version_high refl;
      speed = number_line (codes "speed") 100 20000 b.speed (omega arith) is.speed_low is.speed_high refl;
      accel = number_line (codes "accel") 100 5000 b.accel (omega arith) is.accel_low is.accel_high refl;
      weights = pair_line (codes "weights") 1000 1000 b.wait_weight b.travel_weight (omega arith) (omega arith) is.wait_weight is.travel_weight refl;
      patience = patience_again (b.version == 1) b.patience b.patience_weight (λ e. is.patient (eqb-true _ _ e)) is.patience is.patience_weight;
      floors = refl;
      heights = heights_again b.heights is.floors_low is.floors_high (all_low b.heights 1000000 is.heights) (is_rising-to b.heights is.rising);
      stated = stated;
      cars = cars_again (floor_count b) (most_cars b.version) [] b.cars 1 is.floors_high has_text.ids is.cars clear;
      some_car = is.cars_low;
      end = refl;
      end_alone = refl;
    }

pub stands_again : (b : Building) → HasText b → IsBuildingText (building_lines b) b
stands_again b has_text = (stated_times b, lines_again_of b has_text, travel_again (b.version == 3) b has_text.building.travel_floors has_text.travel)
