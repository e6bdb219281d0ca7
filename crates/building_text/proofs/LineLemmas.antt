-- From what was read of the lines of a building to the lines themselves.
use Rattle.std.proofs.Common.{◌≡◌, ℕ, zero, suc, ◌+◌, ◌-◌, ◌*◌, ◌/◌, ◌<◌, ◌≤◌, Bool, true, false, cond, List, [], ◌∷◌, ◌++◌, length, Some, Ok, Err, ap, refl}
use Rattle.std.proofs.Common.{arith, ◌∙◌, sym, subst, append_assoc, append-nil, length-append}
use Rattle.std.specs.Prelude.{codes, nat_lt, ◌==◌}
use Rattle.std.proofs.lemmas.Bool.Decides.{nat_tests}
use Rattle.std.proofs.Math.Nat.{mul-div_cancel}
use Rattle.std.proofs.lemmas.Bool.{eqb-true, eqb-false}
use Rattle.call_state.specs.Squares.{square_of}
use Rattle.elevator_model.specs.declared.CarSpec.{CarSpec}
use Rattle.elevator_model.specs.Building.{most_cars}
use Rattle.elevator_model.specs.Travel.{Square}
use Rattle.motion_table.specs.Tables.{rests_at, columns, row_of, row_judged}
use Rattle.lift_text.specs.declared.codes.TextCode.{TextCode}
use Rattle.lift_text.specs.declared.codes.TextCode.TheVariants.{NoTime, Missing, TooMany, ShorterWay, Item}
use Rattle.text_sections.specs.Judging.{Judged, ◌>>=◌}
use Rattle.text_sections.specs.Words.{is_word, exactly, at_least, at_most}
use Rattle.text_sections.specs.NumberLists.{numbers}
use Rattle.text_sections.specs.Sections.{Line, goes_on, is_whole, step_of}
use Rattle.text_sections.proofs.StepLemmas.{then-inv}
use Rattle.building_text.specs.declared.order.Due.{Due}
use Rattle.building_text.specs.declared.order.Due.TheVariants.{Version, Speed, Accel, Weights, Patience, Floors, Times, FirstCar, NextCar}
use Rattle.building_text.specs.Order.{name_of, may_end, after_weights, after_floors, misplaced}
use Rattle.elevator_model.specs.declared.Fault.TheVariants.{NotRising}
use Rattle.elevator_model.specs.Faults.{is_rising}
use Rattle.building_text.specs.Words.{one_number, two_numbers, heights_of, rising, car_of_line}
use Rattle.building_text.specs.Drafts.{Draft, no_draft, has_triple, with_times, with_car, taken}
use Rattle.building_text.specs.BuildingText.{Begins, ArePatienceLines, AreRowLines, AreTimesLines, AreCarLines, AreBuildingLines, building_from}
use Rattle.building_text.proofs.SaidLemmas.{numbers-length}
use Rattle.building_text.proofs.ReadLemmas.{Then, Reads, due_first}

-- a line was taken, which says a value
pub record Saying {X : Type 0} (said : Line → Judged X) (next : X → Draft) (name : List ℕ) (lines : List Line) (end : Draft) : Type 0 where
  pub line : Line
  pub rest : List Line
  pub value : X
  pub lines_are : lines ≡ line ∷ rest
  pub name_is : is_word line 0 name ≡ true
  pub was : said line ≡ Ok value
  pub reads : Reads (next value) rest end

took_saying : {X : Type 0} (d : Draft) (lines : List Line) (end : Draft) (said : Line → Judged X) (next : X → Draft)
    → ((words : Line) → taken d.due d words ≡ (said words >>= λ x. Ok (next x))) → may_end d.due ≡ false → Reads d lines end
    → Saying said next (name_of d.due) lines end
took_saying d lines end said next same early reads =
    let t = due_first d lines end early reads in
    let v = then-inv (said t.line) (λ x. Ok (next x)) t.new (sym (same t.line) ∙ t.was) in
    let is : Ok (next v.0) ≡ Ok t.new = v.2 in
    let new : t.new ≡ next v.0 = cc in
    record {
      line = t.line;
      rest = t.rest;
      value = v.0;
      lines_are = t.lines_are;
      name_is = t.name_is;
      was = v.1;
      reads =
          subst (λ e. Reads e t.rest end) new t.reads;
    }

-- ---- patience

pub record PatienceRead (version_one : Bool) (d : Draft) (lines : List Line) (end : Draft) : Type 0 where
  pub front : List Line
  pub rest : List Line
  pub patience : ℕ
  pub weight : ℕ
  pub lines_are : lines ≡ front ++ rest
  pub are : ArePatienceLines version_one front patience weight
  pub reads : Reads (record d { patience = patience; patience_weight = weight; due = Floors }) rest end

patience_read : (version_one : Bool) (d : Draft) (lines : List Line) (end : Draft)
    → record d { patience = 0; patience_weight = 0; due = Floors } ≡ record d { due = Floors }
    → Reads (record d { due = cond version_one Floors Patience }) lines end
    → PatienceRead version_one d lines end
patience_read true d lines end blank reads =
    record {
      front = [];
      rest = lines;
      patience = 0;
      weight = 0;
      lines_are = refl;
      are = (refl, refl, refl);
      reads =
          subst (λ e. Reads e lines end) (sym blank) reads;
    }
patience_read false d lines end blank reads =
    let t = took_saying (record d { due = Patience }) lines end (λ words. two_numbers words 1000000000 1000)
    (λ p. record d { patience = p.0; patience_weight = p.1; due = Floors }) (λ words. refl) refl reads in
    record {
      front = t.line ∷ [];
      rest = t.rest;
      patience = t.value.0;
      weight = t.value.1;
      lines_are = t.lines_are;
      are =
          (t.line, refl, record { name_is = t.name_is; numbers = t.was });
      reads = t.reads;
    }

-- ---- stated times

abbrev pub nothing : Unit {0}
nothing = tt

pub exactly_ok : (words : Line) (count : ℕ) (done : Unit {0}) → exactly words count ≡ Ok done → length words ≡ count
exactly_ok words count done is = by_test (nat_lt (length words) count) (nat_lt count (length words)) refl refl is
  where
    by_test : (few many : Bool) → nat_lt (length words) count ≡ few → nat_lt count (length words) ≡ many
        → ((cond few (Err Missing) (Ok nothing) >>= λ (_ : Unit {0}). cond many (Err TooMany) (Ok nothing))) ≡ Ok done → length words ≡ count
    by_test true many f m same = absurd cc
    by_test false true f m same = absurd cc
    by_test false false f m same = grind (arith, nat_tests)

if_ok : {A : Type 0} (b : Bool) (x y : A) (code : TextCode) → cond b (Ok x) (Err code) ≡ Ok y → x ≡ y
if_ok true x y code is = cc
if_ok false x y code is = absurd cc

pub row_length : (floor floors : ℕ) (words : Line) (row : List ℕ) → length words ≡ floors + 1 → row_of floor words ≡ Ok row → length row ≡ floors
row_length floor floors words row size is =
    let r = then-inv (numbers words 1 0 20000000) (λ times. cond (rests_at floor 0 times) (Ok times) (Err NoTime)) row is in
    let same : r.0 ≡ row = if_ok (rests_at floor 0 r.0) r.0 row NoTime r.2 in
    let long = numbers-length words 1 0 20000000 r.0 r.1 in
    let e = ap length same in
    omega arith

-- what a line of times says
pub record RowJudged (floors floor : ℕ) (words : Line) (read : ℕ × List ℕ) : Type 0 where
  pub count : exactly words (floors + 1) ≡ Ok tt
  pub row : row_of floor words ≡ Ok read.1
  pub size : length read.1 ≡ floors

row_judged_ok : (floors floor : ℕ) (before : List ℕ) (words : Line) (read : ℕ × List ℕ) → length before / floors ≡ floor
    → row_judged (Some floors) before words ≡ Ok read → RowJudged floors floor words read
row_judged_ok floors floor before words read at is =
    let c = then-inv (columns (Some floors) words) (λ n. row_of (length before / n) words >>= λ row. Ok (n, row)) read is in
    let e = then-inv (exactly words (floors + 1)) (λ _. Ok floors) c.0 c.1 in
    let count : exactly words (floors + 1) ≡ Ok e.0 = e.1 in
    let same_count : Ok floors ≡ Ok c.0 = e.2 in
    let n_is : c.0 ≡ floors = cc in
    let r = then-inv (row_of (length before / c.0) words) (λ row. Ok (c.0, row)) read c.2 in
    let pair : Ok (c.0, r.0) ≡ Ok read = r.2 in
    let second : (c.0, r.0) ≡ read = cc in
    let row_is : r.0 ≡ read.1 = ap (λ (p : ℕ × List ℕ). p.1) second in
    let floor_is : length before / c.0 ≡ floor = ap (λ n. length before / n) n_is ∙ at in
    let row : row_of floor words ≡ Ok read.1 = ap (λ f. row_of f words) (sym floor_is) ∙ r.1 ∙ ap Ok row_is in
    record { count = count; row = row; size = row_length floor floors words read.1 (exactly_ok words (floors + 1) e.0 e.1) row }

-- the lines of times from this floor on
pub record RowsRead (floor : ℕ) (d : Draft) (lines : List Line) (end : Draft) : Type 0 where
  pub front : List Line
  pub rest : List Line
  pub later : List ℕ
  pub lines_are : lines ≡ front ++ rest
  pub rows : AreRowLines (length d.heights) floor front later
  pub direct : has_triple (square_of (length d.heights) (d.times ++ later)) ≡ false
  pub reads : Reads (record d { times = d.times ++ later; due = FirstCar }) rest end

-- what a line makes of the times: they are whole, or more lines are due
last_row : (d new : Draft) (times : List ℕ) → length times ≡ length d.heights * length d.heights → with_times d times ≡ Ok new
    → (has_triple (square_of (length d.heights) times) ≡ false) × (new ≡ record d { times = times; due = FirstCar })
last_row d new times full is = by_test (length times == length d.heights * length d.heights) (has_triple (square_of (length d.heights) times)) refl refl is
  where
    by_test : (whole triple : Bool) → (length times == length d.heights * length d.heights) ≡ whole → has_triple (square_of (length d.heights) times) ≡ triple
        → cond {A = Judged Draft} whole (cond {A = Judged Draft} triple (Err ShorterWay) (Ok (record d { times = times; due = FirstCar })))
        (Ok (record d { times = times; due = Times })) ≡ Ok new
        → (has_triple (square_of (length d.heights) times) ≡ false) × (new ≡ record d { times = times; due = FirstCar })
    by_test true true w t same = absurd cc
    by_test true false w t same = (t, cc)
    by_test false triple w t same = absurd (eqb-false _ _ w full)

more_rows : (d new : Draft) (times : List ℕ) → length times < length d.heights * length d.heights → with_times d times ≡ Ok new
    → new ≡ record d { times = times; due = Times }
more_rows d new times few is = by_test (length times == length d.heights * length d.heights) refl is
  where
    by_test : (whole : Bool) → (length times == length d.heights * length d.heights) ≡ whole
        → cond {A = Judged Draft} whole
        (cond {A = Judged Draft} (has_triple (square_of (length d.heights) times)) (Err ShorterWay) (Ok (record d { times = times; due = FirstCar })))
        (Ok (record d { times = times; due = Times })) ≡ Ok new
        → new ≡ record d { times = times; due = Times }
    by_test true w same = let all = eqb-true _ _ w in absurd (omega arith)
    by_test false w same = cc

pub at_floor : (floor floors : ℕ) (times : List ℕ) → length times ≡ floor * floors → 0 < floors → length times / floors ≡ floor
at_floor floor floors times size some = ap (λ k. k / floors) size ∙ mul-div_cancel floor some

-- what is read where this many floors are left behind this one
rows_read : (left floor : ℕ) (d : Draft) (lines : List Line) (end : Draft) → 0 < length d.heights → floor + suc left ≡ length d.heights
    → length d.times ≡ floor * length d.heights → Reads (record d { due = Times }) lines end
    → RowsRead floor d lines end
rows_read zero floor d lines end some floors size reads =
    let n = length d.heights in
    let t = due_first (record d { due = Times }) lines end refl reads in
    let r = then-inv (row_judged (Some n) d.times t.line) (λ read. with_times (record d { due = Times }) (d.times ++ read.1)) t.new t.was in
    let row = row_judged_ok n floor d.times t.line r.0 (at_floor floor n d.times size some) r.1 in
    let row_size = row.size in
    let long = length-append d.times r.0.1 in
    let full : length (d.times ++ r.0.1) ≡ n * n = grow_last floor n (length d.times) (length r.0.1) (length (d.times ++ r.0.1)) floors size row_size long in
    let last = last_row (record d { due = Times }) t.new (d.times ++ r.0.1) full r.2 in
    record {
      front = t.line ∷ [];
      rest = t.rest;
      later = r.0.1;
      lines_are = t.lines_are;
      rows = (r.0.1, [], sym (append-nil r.0.1), record { name_is = t.name_is; count = row.count; times = row.row }, (floors, refl));
      direct = last.0;
      reads = subst (λ e. Reads e t.rest end) last.1 t.reads;
    }
  where
    grow_last : (f n x r y : ℕ) → f + 1 ≡ n → x ≡ f * n → r ≡ n → y ≡ x + r → y ≡ n * n
    grow_last f n x r y e a b c = omega (arith, ap (λ (k : ℕ). k * n) e)
rows_read (suc left) floor d lines end some floors size reads =
    let n = length d.heights in
    let t = due_first (record d { due = Times }) lines end refl reads in
    let r = then-inv (row_judged (Some n) d.times t.line) (λ read. with_times (record d { due = Times }) (d.times ++ read.1)) t.new t.was in
    let row = row_judged_ok n floor d.times t.line r.0 (at_floor floor n d.times size some) r.1 in
    let row_size = row.size in
    let long = length-append d.times r.0.1 in
    let grown : length (d.times ++ r.0.1) ≡ (floor + 1) * n = grow floor n (length d.times) (length r.0.1) (length (d.times ++ r.0.1)) size row_size long in
    let few : length (d.times ++ r.0.1) < n * n = fewer left floor n (length (d.times ++ r.0.1)) floors grown in
    let new_is = more_rows (record d { due = Times }) t.new (d.times ++ r.0.1) few r.2 in
    let further = rows_read left (floor + 1) (record d { times = d.times ++ r.0.1 }) t.rest end some (omega arith) grown
    (subst (λ e. Reads e t.rest end) new_is t.reads) in
    let joined = append_assoc d.times r.0.1 further.later in
    record {
      front = t.line ∷ further.front;
      rest = further.rest;
      later = r.0.1 ++ further.later;
      lines_are = t.lines_are ∙ ap (λ ls. t.line ∷ ls) further.lines_are;
      rows = (r.0.1, further.later, refl, record { name_is = t.name_is; count = row.count; times = row.row }, further.rows);
      direct = subst (λ times. has_triple (square_of n times) ≡ false) joined further.direct;
      reads = subst (λ times. Reads (record d { times = times; due = FirstCar }) further.rest end) joined further.reads;
    }
  where
    grow : (f n x r y : ℕ) → x ≡ f * n → r ≡ n → y ≡ x + r → y ≡ (f + 1) * n
    grow f n x r y a b c = omega arith

    fewer : (left f n y : ℕ) → f + suc (suc left) ≡ n → y ≡ (f + 1) * n → y < n * n
    fewer left f n y e a = omega (arith, ap (λ (k : ℕ). k * n) e)

-- ---- cars

pub record CarsRead (d : Draft) (lines : List Line) (end : Draft) : Type 0 where
  pub front : List Line
  pub last : Line
  pub later : List CarSpec
  pub lines_are : lines ≡ front ++ last ∷ []
  pub cars : AreCarLines (length d.heights) (most_cars d.version) d.cars front later
  pub named : Begins last (codes "end")
  pub alone : exactly last 1 ≡ Ok tt
  pub end_is : end ≡ record d { cars = d.cars ++ later; due = NextCar }

abbrev CarsFurther : Draft → List Line → Draft → Type 0
CarsFurther d lines end = (car : CarSpec) → Reads (record d { cars = d.cars ++ car ∷ []; due = NextCar }) lines end
    → CarsRead (record d { cars = d.cars ++ car ∷ [] }) lines end

-- one more car before those that were read
car_before : (d : Draft) (words : Line) (lines : List Line) (end : Draft) (car : CarSpec) → Begins words (codes "car")
    → car_of_line (length d.heights) (most_cars d.version) d.cars words ≡ Ok car → CarsRead (record d { cars = d.cars ++ car ∷ [] }) lines end
    → CarsRead d (words ∷ lines) end
car_before d words lines end car named was further = record {
  front = words ∷ further.front;
  last = further.last;
  later = car ∷ further.later;
  lines_are = ap (λ ls. words ∷ ls) further.lines_are;
  cars = (car, further.later, refl, named, was, further.cars);
  named = further.named;
  alone = further.alone;
  end_is = further.end_is ∙ ap (λ cars. record d { cars = cars; due = NextCar }) (append_assoc d.cars (car ∷ []) further.later);
}

cars_step : (d : Draft) (words : Line) (lines : List Line) (end : Draft) (ends due : Bool) (alone : Judged Unit) (said : Judged CarSpec) (bad : TextCode)
    → is_word words 0 (codes "end") ≡ ends → is_word words 0 (codes "car") ≡ due → exactly words 1 ≡ alone
    → car_of_line (length d.heights) (most_cars d.version) d.cars words ≡ said
    → CarsFurther d lines end
    → Then (step_of (cond ends (alone >>= λ _. Ok (is_whole (record d { due = NextCar })))
    (cond due ((said >>= λ car. Ok (with_car d car)) >>= λ new. Ok (goes_on new)) (Err bad)))) lines end (λ new. Reads new lines end)
    → CarsRead d (words ∷ lines) end
cars_step d words lines end true due (Ok done) said bad e f a s further whole = record {
  front = [];
  last = words;
  later = [];
  lines_are = ap (λ ls. words ∷ ls) whole.0;
  cars = refl;
  named = e;
  alone = a;
  end_is = sym whole.1 ∙ ap (λ cars. record d { cars = cars; due = NextCar }) (sym (append-nil d.cars));
}
cars_step d words lines end true due (Err code) said bad e f a s further whole = absurd whole
cars_step d words lines end false true alone (Ok car) bad e f a s further reads = car_before d words lines end car f s (further car reads)
cars_step d words lines end false true alone (Err code) bad e f a s further reads = absurd reads
cars_step d words lines end false false alone said bad e f a s further reads = absurd reads

cars_read : (d : Draft) (lines : List Line) (end : Draft) → Reads (record d { due = NextCar }) lines end → CarsRead d lines end
cars_read d [] end reads = absurd reads
cars_read d (words ∷ lines) end reads =
    cars_step d words lines end (is_word words 0 (codes "end")) (is_word words 0 (codes "car")) (exactly words 1)
    (car_of_line (length d.heights) (most_cars d.version) d.cars words) (misplaced NextCar d.version words) refl refl refl refl
    (λ car more. cars_read (record d { cars = d.cars ++ car ∷ [] }) lines end more)
    reads

longer : (n : ℕ) → 0 < suc n
longer n = omega arith

-- the first car has to come
first_car : (d : Draft) (lines : List Line) (end : Draft) → Reads (record d { due = FirstCar }) lines end → (read : CarsRead d lines end)
    × (0 < length read.later)
unfolding car_before
first_car d lines end reads =
    let t = took_saying (record d { due = FirstCar }) lines end (λ words. car_of_line (length d.heights) (most_cars d.version) d.cars words)
    (λ car. with_car d car) (λ words. refl) refl reads in
    let further = cars_read (record d { cars = d.cars ++ t.value ∷ [] }) t.rest end t.reads in
    let whole = car_before d t.line t.rest end t.value t.name_is t.was further in
    subst (λ ls. (read : CarsRead d ls end) × (0 < length read.later)) (sym t.lines_are) (whole, longer (length further.later))

-- ---- all lines

pub record TimesRead (stated : Bool) (d : Draft) (lines : List Line) (end : Draft) : Type 0 where
  pub front : List Line
  pub rest : List Line
  pub times : List ℕ
  pub lines_are : lines ≡ front ++ rest
  pub are : AreTimesLines stated (length d.heights) front times
  pub reads : Reads (record d { times = times; due = FirstCar }) rest end

times_read : (stated : Bool) (d : Draft) (lines : List Line) (end : Draft) → 0 < length d.heights → d.times ≡ []
    → record d { times = []; due = FirstCar } ≡ record d { due = FirstCar } → Reads (record d { due = cond stated Times FirstCar }) lines end
    → TimesRead stated d lines end
times_read false d lines end some none blank reads =
    record { front = []; rest = lines; times = []; lines_are = refl; are = (refl, refl); reads = subst (λ e. Reads e lines end) (sym blank) reads }
times_read true d lines end some none blank reads =
    let count : 0 + suc (length d.heights - 1) ≡ length d.heights = omega arith in
    let size : length d.times ≡ 0 * length d.heights = omega (arith, ap length none) in
    let r = rows_read (length d.heights - 1) 0 d lines end some count size reads in
    let joined : d.times ++ r.later ≡ r.later = ap (λ ts. ts ++ r.later) none in
    record {
      front = r.front;
      rest = r.rest;
      times = r.later;
      lines_are = r.lines_are;
      are = (r.rows, subst (λ times. has_triple (square_of (length d.heights) times) ≡ false) joined r.direct);
      reads = subst (λ times. Reads (record d { times = times; due = FirstCar }) r.rest end) joined r.reads;
    }

pub at_least_ok : (words : Line) (count : ℕ) (done : Unit {0}) → at_least words count ≡ Ok done → count ≤ length words
at_least_ok words count done is = by_test (nat_lt (length words) count) refl is
  where
    by_test : (few : Bool) → nat_lt (length words) count ≡ few → cond few (Err Missing) (Ok nothing) ≡ Ok done → count ≤ length words
    by_test true f same = absurd cc
    by_test false f same = grind (arith, nat_tests)

pub rising_ok : (ns hs : List ℕ) → rising ns ≡ Ok hs → ns ≡ hs
rising_ok ns hs is = by_test (is_rising ns) is
  where
    by_test : (rises : Bool) → cond {A = Judged (List ℕ)} rises (Ok ns) (Err (Item NotRising)) ≡ Ok hs → ns ≡ hs
    by_test true same = cc
    by_test false same = absurd cc

pub heights_size : (words : Line) (hs : List ℕ) → heights_of words ≡ Ok hs → 0 < length hs
heights_size words hs is =
    let r = then-inv (at_least words 3 >>= λ _. (at_most words 65 >>= λ _. numbers words 1 0 1000000)) rising hs is in
    let read = then-inv (at_least words 3) (λ _. at_most words 65 >>= λ _. numbers words 1 0 1000000) r.0 r.1 in
    let more = then-inv (at_most words 65) (λ _. numbers words 1 0 1000000) r.0 read.2 in
    let size = numbers-length words 1 0 1000000 r.0 more.2 in
    let enough = at_least_ok words 3 read.0 read.1 in
    let same = ap length (rising_ok r.0 hs r.2) in
    omega arith

-- ---- line by line

-- a line that says a value, and what comes of those behind it
pub record Line_then {X : Type 0} (said : Line → Judged X) (name : List ℕ) (lines : List Line) (Rest : X → List Line → Type 0) : Type 0 where
  pub line : Line
  pub rest : List Line
  pub value : X
  pub lines_are : lines ≡ line ∷ rest
  pub name_is : is_word line 0 name ≡ true
  pub was : said line ≡ Ok value
  pub further : Rest value rest

line_then : {X : Type 0} (d : Draft) (lines : List Line) (end : Draft) (said : Line → Judged X) (next : X → Draft) (Rest : X → List Line → Type 0)
    → ((words : Line) → taken d.due d words ≡ (said words >>= λ x. Ok (next x))) → may_end d.due ≡ false
    → ((x : X) (rest : List Line) → Reads (next x) rest end → Rest x rest) → Reads d lines end → Line_then said (name_of d.due) lines Rest
line_then d lines end said next Rest same early further reads =
    let t = took_saying d lines end said next same early reads in
    record {
      line = t.line;
      rest = t.rest;
      value = t.value;
      lines_are = t.lines_are;
      name_is = t.name_is;
      was = t.was;
      further = further t.value t.rest t.reads;
    }

pub record FromTimes (d : Draft) (lines : List Line) (end : Draft) : Type 0 where
  pub front : List Line
  pub rest : List Line
  pub times : List ℕ
  pub lines_are : lines ≡ front ++ rest
  pub are : AreTimesLines (d.version == 3) (length d.heights) front times
  pub cars : CarsRead (record d { times = times }) rest end
  pub some : 0 < length cars.later

from_times : (d : Draft) (lines : List Line) (end : Draft) → 0 < length d.heights → d.times ≡ [] → Reads (record d { due = after_floors d.version }) lines end
    → FromTimes d lines end
from_times d lines end some none reads =
    let t = times_read (d.version == 3) d lines end some none (ap (λ ts. record d { times = ts; due = FirstCar }) (sym none)) reads in
    let c = first_car (record d { times = t.times }) t.rest end t.reads in
    record { front = t.front; rest = t.rest; times = t.times; lines_are = t.lines_are; are = t.are; cars = c.0; some = c.1 }

pub record FromHeights (d : Draft) (lines : List Line) (end : Draft) : Type 0 where
  pub line : Line
  pub rest : List Line
  pub heights : List ℕ
  pub lines_are : lines ≡ line ∷ rest
  pub name_is : is_word line 0 (codes "floors") ≡ true
  pub was : heights_of line ≡ Ok heights
  pub further : FromTimes (record d { heights = heights }) rest end

from_heights : (d : Draft) (lines : List Line) (end : Draft) → d.times ≡ [] → Reads (record d { due = Floors }) lines end → FromHeights d lines end
from_heights d lines end none reads =
    let t = took_saying (record d { due = Floors }) lines end heights_of (λ hs. record d { heights = hs; due = after_floors d.version })
    (λ words. refl) refl reads in
    record {
      line = t.line;
      rest = t.rest;
      heights = t.value;
      lines_are = t.lines_are;
      name_is = t.name_is;
      was = t.was;
      further =
          from_times (record d { heights = t.value }) t.rest end (heights_size t.line t.value t.was) none t.reads;
    }

pub record FromPatience (d : Draft) (lines : List Line) (end : Draft) : Type 0 where
  pub front : List Line
  pub rest : List Line
  pub patience : ℕ
  pub weight : ℕ
  pub lines_are : lines ≡ front ++ rest
  pub are : ArePatienceLines (d.version == 1) front patience weight
  pub further : FromHeights (record d { patience = patience; patience_weight = weight }) rest end

from_patience : (d : Draft) (lines : List Line) (end : Draft) → record d { patience = 0; patience_weight = 0; due = Floors } ≡ record d { due = Floors }
    → d.times ≡ [] → Reads (record d { due = after_weights d.version }) lines end → FromPatience d lines end
from_patience d lines end blank none reads =
    let p = patience_read (d.version == 1) d lines end blank reads in
    record {
      front = p.front;
      rest = p.rest;
      patience = p.patience;
      weight = p.weight;
      lines_are = p.lines_are;
      are = p.are;
      further =
          from_heights (record d { patience = p.patience; patience_weight = p.weight }) p.rest end none p.reads;
    }

-- the numbers of the first lines
abbrev pub numbered : (version speed accel wait travel : ℕ) → Due → Draft
numbered version speed accel wait travel due =
    record no_draft { due = due; version = version; speed = speed; accel = accel; wait_weight = wait; travel_weight = travel }

abbrev pub FromWeights : (version speed accel : ℕ) → List Line → Draft → Type 0
FromWeights v s a lines end =
    Line_then (λ words. two_numbers words 1000 1000) (codes "weights") lines (λ p rest. FromPatience (numbered v s a p.0 p.1 Version) rest end)

from_weights : (v s a : ℕ) (lines : List Line) (end : Draft) → Reads (numbered v s a 0 0 Weights) lines end → FromWeights v s a lines end
from_weights v s a lines end reads =
    line_then (numbered v s a 0 0 Weights) lines end (λ words. two_numbers words 1000 1000) (λ p. numbered v s a p.0 p.1 (after_weights v))
    (λ p rest. FromPatience (numbered v s a p.0 p.1 Version) rest end) (λ words. refl) refl
    (λ p rest further. from_patience (numbered v s a p.0 p.1 Version) rest end refl refl further) reads

abbrev pub FromAccel : (version speed : ℕ) → List Line → Draft → Type 0
FromAccel v s lines end = Line_then (λ words. one_number words 100 5000) (codes "accel") lines (λ a rest. FromWeights v s a rest end)

from_accel : (v s : ℕ) (lines : List Line) (end : Draft) → Reads (numbered v s 0 0 0 Accel) lines end → FromAccel v s lines end
from_accel v s lines end reads =
    line_then (numbered v s 0 0 0 Accel) lines end (λ words. one_number words 100 5000) (λ a. numbered v s a 0 0 Weights)
    (λ a rest. FromWeights v s a rest end) (λ words. refl) refl (λ a rest further. from_weights v s a rest end further) reads

abbrev pub FromSpeed : ℕ → List Line → Draft → Type 0
FromSpeed v lines end = Line_then (λ words. one_number words 100 20000) (codes "speed") lines (λ s rest. FromAccel v s rest end)

from_speed : (v : ℕ) (lines : List Line) (end : Draft) → Reads (numbered v 0 0 0 0 Speed) lines end → FromSpeed v lines end
from_speed v lines end reads =
    line_then (numbered v 0 0 0 0 Speed) lines end (λ words. one_number words 100 20000) (λ s. numbered v s 0 0 0 Accel) (λ s rest. FromAccel v s rest end)
    (λ words. refl) refl (λ s rest further. from_accel v s rest end further) reads

abbrev pub FromVersion : List Line → Draft → Type 0
FromVersion lines end = Line_then (λ words. one_number words 1 3) (codes "building") lines (λ v rest. FromSpeed v rest end)

from_version : (lines : List Line) (end : Draft) → Reads no_draft lines end → FromVersion lines end
from_version lines end reads =
    line_then no_draft lines end (λ words. one_number words 1 3) (λ v. numbered v 0 0 0 0 Speed) (λ v rest. FromSpeed v rest end) (λ words. refl) refl
    (λ v rest further. from_speed v rest end further) reads

-- what was read in the end
abbrev drafted : (lines : List Line) (end : Draft) → FromVersion lines end → Draft
drafted lines end v =
    let p = v.further.further.further.further in
    record (numbered v.value v.further.value v.further.further.value v.further.further.further.value.0 v.further.further.further.value.1 NextCar)
    { patience = p.patience; patience_weight = p.weight; heights = p.further.heights; times = p.further.further.times; cars = p.further.further.cars.later }

in_order : (a b c d : Line) (patience times cars all from_speed from_accel from_weights from_patience from_heights from_times from_cars : List Line)
    (heights last : Line)
    → all ≡ a ∷ from_speed → from_speed ≡ b ∷ from_accel → from_accel ≡ c ∷ from_weights → from_weights ≡ d ∷ from_patience
    → from_patience ≡ patience ++ from_heights → from_heights ≡ heights ∷ from_times → from_times ≡ times ++ from_cars → from_cars ≡ cars ++ last ∷ []
    → all ≡ a ∷ b ∷ c ∷ d ∷ (patience ++ heights ∷ (times ++ (cars ++ last ∷ [])))
in_order a b c d patience times cars all s1 s2 s3 s4 s5 s6 s7 heights last e1 e2 e3 e4 e5 e6 e7 e8 = cc

-- the lines say all but the travel times
shown : (lines : List Line) (end : Draft) (travel : Square) (v : FromVersion lines end)
    → AreBuildingLines lines (building_from (drafted lines end v) travel) (drafted lines end v).times
shown lines end travel v =
    let s = v.further in
    let a = s.further in
    let w = a.further in
    let p = w.further in
    let h = p.further in
    let t = h.further in
    let cars = t.cars in
    record {
      version_line = v.line;
      speed_line = s.line;
      accel_line = a.line;
      weights_line = w.line;
      patience_lines = p.front;
      heights_line = h.line;
      times_lines = t.front;
      car_lines = cars.front;
      end_line = cars.last;
      lines_are = in_order v.line s.line a.line w.line p.front t.front cars.front lines v.rest s.rest a.rest w.rest p.rest h.rest t.rest h.line cars.last
          v.lines_are s.lines_are a.lines_are w.lines_are p.lines_are h.lines_are t.lines_are cars.lines_are;
      version = record { name_is = v.name_is; number = v.was };
      speed = record { name_is = s.name_is; number = s.was };
      accel = record { name_is = a.name_is; number = a.was };
      weights = record { name_is = w.name_is; numbers = w.was };
      patience = p.are;
      floors = h.name_is;
      heights = h.was;
      stated = t.are;
      cars = cars.cars;
      some_car = t.some;
      end = cars.named;
      end_alone = cars.alone;
    }

pub lines_of_reads : (lines : List Line) (end : Draft) (travel : Square) → Reads no_draft lines end
    → AreBuildingLines lines (building_from end travel) end.times × (end.due ≡ NextCar)
lines_of_reads lines end travel reads =
    let v = from_version lines end reads in
    let is : end ≡ drafted lines end v = v.further.further.further.further.further.further.cars.end_is in
    subst (λ e. AreBuildingLines lines (building_from e travel) e.times × (e.due ≡ NextCar)) (sym is) (shown lines end travel v, refl)
