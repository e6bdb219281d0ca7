-- The lines that are written of a building are lines of words, none over long.
use Rattle.std.proofs.Common.{◌≡◌, ℕ, zero, suc, ◌+◌, ◌-◌, ◌*◌, ◌^◌, ◌<◌, ◌≤◌, Bool, true, false, cond, List, [], ◌∷◌, ◌++◌, length, map, get_or, ap, arith}
use Rattle.std.proofs.Common.{◌∙◌, sym, subst, length-append}
use Rattle.std.specs.Prelude.{codes, decimal, ◌==◌, Option, None, Some, Result}
use Rattle.std.specs.List.{AllByRecursion, range_with_len}
use Rattle.std.proofs.lemmas.Fmt.{length-decimal-le}
use Rattle.std.proofs.lemmas.List.{length-map}
use Rattle.call_sets.specs.Counting.{has}
use Rattle.elevator_model.specs.declared.CarSpec.{CarSpec}
use Rattle.elevator_model.specs.Building.{Building, IsCarSpec, floor_count, no_car}
use Rattle.elevator_model.specs.Travel.{Square, IsTravelSquare, time_between}
use Rattle.lift_text.specs.Reading.{TextState, reading}
use Rattle.lift_text.specs.declared.faults.TextFault.{TextFault}
use Rattle.text_sections.specs.Sections.{Line}
use Rattle.text_sections.specs.Canonical.{IsWord, IsWordByte, IsLineOfWords, lines_text, BeginsWith}
use Rattle.text_sections.proofs.CanonicalLemmas.{decimal_word, lines_again}
use Rattle.building_text.specs.BuildingText.{TakesBuildings}
use Rattle.building_text.specs.Written.{named, row_line, floors_in, served_words, car_line, end_line, building_lines, building_text, HasText, ReadsWritten}
use Rattle.building_text.proofs.SaidLemmas.{IsFrom}
use Rattle.building_text.proofs.WrittenLemmas.{later_words, later_append}
use Rattle.building_text.proofs.AgainLemmas.{all_low, range_within, range_length, floors_few, count_few, stands_again}

-- a number of at most ten digits
abbrev IsTen : ℕ → Type 0
IsTen = IsFrom 0 4294967295

-- words that make at most this many bytes behind a name
record AreShort (words : Line) (most : ℕ) : Type 0 where
  each : AllByRecursion IsWord words
  short : length (later_words words) ≤ most

numbers_short : (ns : List ℕ) → AllByRecursion IsTen ns → AreShort (map decimal ns) (11 * length ns)
numbers_short [] tens = record { each = tt; short = omega arith }
numbers_short (n ∷ ns) tens =
    let later = numbers_short ns tens.1 in
    let more = later.short in
    let long = length-append (32 ∷ decimal n) (later_words (map decimal ns)) in
    let high = tens.0.1 in
    let digits = length-decimal-le 10 n (omega arith) (omega arith) (omega arith) in
    record { each = (decimal_word n (omega arith), later.each); short = omega arith }

all_append : (xs ys : Line) → AllByRecursion IsWord xs → AllByRecursion IsWord ys → AllByRecursion IsWord (xs ++ ys)
all_append [] ys all more = more
all_append (x ∷ xs) ys all more = (all.0, all_append xs ys all.1 more)

short_append : (xs ys : Line) (a b : ℕ) → AreShort xs a → AreShort ys b → AreShort (xs ++ ys) (a + b)
short_append xs ys a b first second =
    let one = first.short in
    let two = second.short in
    let long = ap length (later_append xs ys) ∙ length-append (later_words xs) (later_words ys) in
    record { each = all_append xs ys first.each second.each; short = omega arith }

line_short : (name : List ℕ) (words : Line) (most : ℕ) → IsWord name → length name + most ≤ 4096 → AreShort words most → IsLineOfWords (name ∷ words)
line_short name words most is fits short =
    let few = short.short in
    let long = length-append name (later_words words) in
    record { some = omega arith; each = (is, short.each); short = omega arith }

named_short : (name ns : List ℕ) → IsWord name → length name + 11 * length ns ≤ 4096 → AllByRecursion IsTen ns → IsLineOfWords (named name ns)
named_short name ns is fits tens = line_short name (map decimal ns) (11 * length ns) is fits (numbers_short ns tens)

byte : (b : ℕ) → 97 ≤ b → b ≤ 122 → IsWordByte b
byte b low high = (omega arith, omega arith, λ e. omega arith)

building_word : IsWord (codes "building")
building_word = record {
  some = omega arith;
  bytes = (
    byte 98 (omega arith) (omega arith),
    (
      byte 117 (omega arith) (omega arith),
      (
        byte 105 (omega arith) (omega arith),
        (
          byte 108 (omega arith) (omega arith),
          (
            byte 100 (omega arith) (omega arith),
            (byte 105 (omega arith) (omega arith), (byte 110 (omega arith) (omega arith), (byte 103 (omega arith) (omega arith), tt))),
          ),
        ),
      ),
    ),
  );
}

speed_word : IsWord (codes "speed")
speed_word = record {
  some = omega arith;
  bytes = (
    byte 115 (omega arith) (omega arith),
    (
      byte 112 (omega arith) (omega arith),
      (byte 101 (omega arith) (omega arith), (byte 101 (omega arith) (omega arith), (byte 100 (omega arith) (omega arith), tt))),
    ),
  );
}

accel_word : IsWord (codes "accel")
accel_word = record {
  some = omega arith;
  bytes = (
    byte 97 (omega arith) (omega arith),
    (
      byte 99 (omega arith) (omega arith),
      (byte 99 (omega arith) (omega arith), (byte 101 (omega arith) (omega arith), (byte 108 (omega arith) (omega arith), tt))),
    ),
  );
}

weights_word : IsWord (codes "weights")
weights_word = record {
  some = omega arith;
  bytes = (
    byte 119 (omega arith) (omega arith),
    (
      byte 101 (omega arith) (omega arith),
      (
        byte 105 (omega arith) (omega arith),
        (
          byte 103 (omega arith) (omega arith),
          (byte 104 (omega arith) (omega arith), (byte 116 (omega arith) (omega arith), (byte 115 (omega arith) (omega arith), tt))),
        ),
      ),
    ),
  );
}

patience_word : IsWord (codes "patience")
patience_word = record {
  some = omega arith;
  bytes = (
    byte 112 (omega arith) (omega arith),
    (
      byte 97 (omega arith) (omega arith),
      (
        byte 116 (omega arith) (omega arith),
        (
          byte 105 (omega arith) (omega arith),
          (
            byte 101 (omega arith) (omega arith),
            (byte 110 (omega arith) (omega arith), (byte 99 (omega arith) (omega arith), (byte 101 (omega arith) (omega arith), tt))),
          ),
        ),
      ),
    ),
  );
}

floors_word : IsWord (codes "floors")
floors_word = record {
  some = omega arith;
  bytes = (
    byte 102 (omega arith) (omega arith),
    (
      byte 108 (omega arith) (omega arith),
      (
        byte 111 (omega arith) (omega arith),
        (byte 111 (omega arith) (omega arith), (byte 114 (omega arith) (omega arith), (byte 115 (omega arith) (omega arith), tt))),
      ),
    ),
  );
}

times_word : IsWord (codes "times")
times_word = record {
  some = omega arith;
  bytes = (
    byte 116 (omega arith) (omega arith),
    (
      byte 105 (omega arith) (omega arith),
      (byte 109 (omega arith) (omega arith), (byte 101 (omega arith) (omega arith), (byte 115 (omega arith) (omega arith), tt))),
    ),
  );
}

car_word : IsWord (codes "car")
car_word = record {
  some = omega arith;
  bytes =
      (byte 99 (omega arith) (omega arith), (byte 97 (omega arith) (omega arith), (byte 114 (omega arith) (omega arith), tt)));
}

all_word : IsWord (codes "all")
all_word = record {
  some = omega arith;
  bytes =
      (byte 97 (omega arith) (omega arith), (byte 108 (omega arith) (omega arith), (byte 108 (omega arith) (omega arith), tt)));
}

end_word : IsWord (codes "end")
end_word = record {
  some = omega arith;
  bytes =
      (byte 101 (omega arith) (omega arith), (byte 110 (omega arith) (omega arith), (byte 100 (omega arith) (omega arith), tt)));
}

-- ---- the lines of a building

tens_of : (ns : List ℕ) (high : ℕ) → high ≤ 4294967295 → AllByRecursion (IsFrom 0 high) ns → AllByRecursion IsTen ns
tens_of [] high le all = tt
tens_of (n ∷ ns) high le all = let here = all.0.1 in ((omega arith, omega arith), tens_of ns high le all.1)

patience_short : (one : Bool) (p w : ℕ) → p ≤ 1000000000 → w ≤ 1000 → AllByRecursion IsLineOfWords (cond one [] (named (codes "patience") (p ∷ w ∷ []) ∷ []))
patience_short true p w first second = tt
patience_short false p w first second =
    (named_short (codes "patience") (p ∷ w ∷ []) patience_word (omega arith) ((omega arith, omega arith), ((omega arith, omega arith), tt)), tt)

row_short : (t : Square) (k : ℕ) → IsTravelSquare t → k < t.floors → IsLineOfWords (row_line t.floors t k)
row_short t k is below =
    let row = map (time_between t k) (range_with_len 0 t.floors) in
    let wide = length-map (range_with_len 0 t.floors) (time_between t k) in
    let size = range_length 0 t.floors in
    let few = is.floors_high in
    named_short (codes "times") row times_word (omega arith)
    (tens_of row 20000000 (omega arith) (range_within 0 t.floors (time_between t k) 20000000 (λ g within. is.bounded k g below (omega arith))))

rows_short : (t : Square) (m k : ℕ) → IsTravelSquare t → k + m ≡ t.floors → AllByRecursion IsLineOfWords (map (row_line t.floors t) (range_with_len k m))
rows_short t zero k is at = tt
rows_short t (suc m) k is at = (row_short t k is (omega arith), rows_short t m (k + 1) is (omega arith))

times_short : (stated : Bool) (t : Square) → IsTravelSquare t
    → AllByRecursion IsLineOfWords (cond stated (map (row_line t.floors t) (range_with_len 0 t.floors)) [])
times_short true t is = rows_short t t.floors 0 is (omega arith)
times_short false t is = tt

served_short : (all : Bool) (floors set : ℕ) → floors ≤ 64 → AreShort (cond all (codes "all" ∷ []) (map decimal (floors_in floors set))) 704
served_short true floors set le = record { each = (all_word, tt); short = omega arith }
served_short false floors set le =
    let fs = floors_in floors set in
    let r = numbers_short fs (tens_of fs 64 (omega arith) (floors_few (has set) 0 floors 64 (omega arith))) in
    let few = count_few (has set) 0 floors in
    let short = r.short in
    record { each = r.each; short = omega arith }

car_short : (floors : ℕ) (car : CarSpec) → floors ≤ 64 → car.id < 2 ^ 32 → IsCarSpec floors car → IsLineOfWords (car_line floors car)
car_short floors car le id is =
    let ns = car.id ∷ car.capacity ∷ car.opening ∷ car.closing ∷ car.boarding ∷ car.alighting ∷ [] in
    let e2 = is.capacity_high in
    let e3 = is.opening in
    let e4 = is.closing in
    let e5 = is.boarding in
    let e6 = is.alighting in
    let tens : AllByRecursion IsTen ns = (
      (omega arith, omega arith),
      (
        (omega arith, omega arith),
        ((omega arith, omega arith), ((omega arith, omega arith), ((omega arith, omega arith), ((omega arith, omega arith), tt)))),
      ),
    ) in
    line_short (codes "car") (map decimal ns ++ served_words floors car.serves) 770 car_word (omega arith)
    (short_append (map decimal ns) (served_words floors car.serves) 66 704 (numbers_short ns tens)
    (served_short (car.serves == 2 ^ floors - 1) floors car.serves le))

cars_short : (floors : ℕ) (cars : List CarSpec) → floors ≤ 64 → ((c : ℕ) → c < length cars → (get_or cars c no_car).id < 2 ^ 32)
    → ((c : ℕ) → c < length cars → IsCarSpec floors (get_or cars c no_car)) → AllByRecursion IsLineOfWords (map (car_line floors) cars)
cars_short floors [] le ids each = tt
cars_short floors (car ∷ cars) le ids each = (
  car_short floors car le (ids 0 (omega arith)) (each 0 (omega arith)),
  cars_short floors cars le (λ c within. ids (suc c) (omega arith)) (λ c within. each (suc c) (omega arith)),
)

lines_all : (xs ys : List Line) → AllByRecursion IsLineOfWords xs → AllByRecursion IsLineOfWords ys → AllByRecursion IsLineOfWords (xs ++ ys)
lines_all [] ys all more = more
lines_all (x ∷ xs) ys all more = (all.0, lines_all xs ys all.1 more)

one_short : (name : List ℕ) (n high : ℕ) → IsWord name → length name ≤ 100 → high ≤ 4294967295 → n ≤ high → IsLineOfWords (named name (n ∷ []))
one_short name n high is short le below = named_short name (n ∷ []) is (omega arith) ((omega arith, omega arith), tt)

pub building_short : (b : Building) → HasText b → AllByRecursion IsLineOfWords (building_lines b)
building_short b has_text =
    let is = has_text.building in
    let w = is.wait_weight in
    let r = is.travel_weight in
    let few = is.floors_high in
    let end : IsLineOfWords end_line = named_short (codes "end") [] end_word (omega arith) tt in
    let cars = cars_short (floor_count b) b.cars is.floors_high has_text.ids is.cars in
    let times : AllByRecursion IsLineOfWords (cond (b.version == 3) (map (row_line (floor_count b) b.travel) (range_with_len 0 (floor_count b))) []) =
    subst (λ n. AllByRecursion IsLineOfWords (cond (b.version == 3) (map (row_line n b.travel) (range_with_len 0 n)) [])) is.travel_floors
    (times_short (b.version == 3) b.travel is.travel) in
    let heights = named_short (codes "floors") b.heights floors_word (omega arith)
    (tens_of b.heights 1000000 (omega arith) (all_low b.heights 1000000 is.heights)) in (
      one_short (codes "building") b.version 3 building_word (omega arith) (omega arith) is.version_high,
      (
        one_short (codes "speed") b.speed 20000 speed_word (omega arith) (omega arith) is.speed_high,
        (
          one_short (codes "accel") b.accel 5000 accel_word (omega arith) (omega arith) is.accel_high,
          (
            named_short (codes "weights") (b.wait_weight ∷ b.travel_weight ∷ []) weights_word (omega arith)
                ((omega arith, omega arith), ((omega arith, omega arith), tt)),
            lines_all (cond (b.version == 1) [] (named (codes "patience") (b.patience ∷ b.patience_weight ∷ []) ∷ [])) _
                (patience_short (b.version == 1) b.patience b.patience_weight is.patience is.patience_weight)
                (heights, lines_all _ _ times (lines_all (map (car_line (floor_count b)) b.cars) (end_line ∷ []) cars (end, tt))),
          ),
        ),
      ),
    )

-- ---- what was written is read again

pub written_answer : (before now : Option TextState) (answer : Result Building TextFault) → TakesBuildings before answer now → ReadsWritten before answer now
unfolding building_text
written_answer None now answer takes b tail has_text = tt
written_answer (Some text) now answer takes b tail has_text = λ begins room.
    (let lines = building_lines b in
    let rest = reading (record { line = text.line + length lines; limit = text.limit - length (lines_text lines); bytes = tail }) in
    let front = subst (λ bytes. BeginsWith lines (reading (record { line = text.line; limit = text.limit; bytes = bytes })) rest) (sym begins)
    (lines_again lines text.line text.limit tail (building_short b has_text) room) in
    takes lines b rest front (stands_again b has_text))
