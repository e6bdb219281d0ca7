-- The lines of a building are read as that building.
use Rattle.std.proofs.Common.{◌≡◌, ℕ, ◌+◌, ◌-◌, ◌*◌, ◌/◌, ◌<◌, ◌≤◌, Bool, true, false, cond, List, [], ◌∷◌, ◌++◌, length, Some, Ok, ap, refl, arith, ◌∙◌, sym}
use Rattle.std.proofs.Common.{subst, append_assoc, append-nil, length-append, eq-eqb}
use Rattle.std.specs.Prelude.{codes, ◌==◌}
use Rattle.std.specs.Str.{bytes_eq}
use Rattle.std.proofs.lemmas.Bool.{ne_eqb}
use Rattle.std.proofs.lemmas.Slice.Eq.{bytes_eq-Decides}
use Rattle.call_state.specs.Squares.{square_of}
use Rattle.elevator_model.specs.declared.CarSpec.{CarSpec}
use Rattle.elevator_model.specs.Building.{Building, most_cars}
use Rattle.motion_table.specs.Tables.{row_judged}
use Rattle.text_sections.specs.Words.{is_word, word_at, exactly}
use Rattle.text_sections.specs.Sections.{Line}
use Rattle.building_text.specs.declared.order.Due.TheVariants.{Speed, Accel, Weights, Patience, Floors, Times, FirstCar, NextCar}
use Rattle.building_text.specs.Order.{name_of, may_end, after_weights, after_floors}
use Rattle.text_sections.specs.Judging.{Judged, ◌>>=◌}
use Rattle.building_text.specs.Words.{one_number, two_numbers, heights_of, car_of_line}
use Rattle.building_text.specs.Drafts.{Draft, no_draft, has_triple, with_times, with_car, taken}
use Rattle.building_text.specs.BuildingText.{Begins, IsRowLine, AreRowLines, ArePatienceLines, AreTimesLines, AreCarLines, AreBuildingLines}
use Rattle.building_text.proofs.ReadLemmas.{Reads, due_taken}
use Rattle.building_text.proofs.LineLemmas.{row_length, exactly_ok, at_floor, heights_size}

saying_given : {X : Type 0} (d : Draft) (words : Line) (rest : List Line) (end : Draft) (said : Judged X) (next : X → Draft) (x : X)
    → taken d.due d words ≡ (said >>= λ y. Ok (next y)) → may_end d.due ≡ false → is_word words 0 (name_of d.due) ≡ true → said ≡ Ok x → Reads (next x) rest end
    → Reads d (words ∷ rest) end
saying_given d words rest end said next x same early named is reads =
    due_taken d words rest end (next x) early named (same ∙ ap (λ s. s >>= λ y. Ok (next y)) is) reads

-- ---- cars

car_is_no_end : (words : Line) → Begins words (codes "car") → is_word words 0 (codes "end") ≡ false
car_is_no_end words named = ap (λ word. bytes_eq word (codes "end")) ((bytes_eq-Decides (word_at words 0) (codes "car")).0 named)

cars_given : (d : Draft) (front : List Line) (last : Line) (later : List CarSpec) → AreCarLines (length d.heights) (most_cars d.version) d.cars front later
    → Begins last (codes "end") → exactly last 1 ≡ Ok tt
    → Reads (record d { due = NextCar }) (front ++ last ∷ []) (record d { cars = d.cars ++ later; due = NextCar })
cars_given d [] last later none named alone =
    let same : record d { due = NextCar } ≡ record d { cars = d.cars ++ later; due = NextCar } =
    ap (λ cars. record d { cars = cars; due = NextCar }) (sym (append-nil d.cars) ∙ ap (λ l. d.cars ++ l) (sym none)) in
    rw (named, alone) (refl, same)
cars_given d (words ∷ front) last later are named alone =
    let car = are.0 in
    let further = cars_given (record d { cars = d.cars ++ car ∷ [] }) front last are.1 are.5 named alone in
    let joined : (d.cars ++ car ∷ []) ++ are.1 ≡ d.cars ++ later = append_assoc d.cars (car ∷ []) are.1 ∙ ap (λ l. d.cars ++ l) (sym are.2) in
    let no_end = car_is_no_end words are.3 in
    rw (no_end, are.3, are.4) (subst (λ cars. Reads (with_car d car) (front ++ last ∷ []) (record d { cars = cars; due = NextCar })) joined further)

first_given : (d : Draft) (front : List Line) (last : Line) (later : List CarSpec) → AreCarLines (length d.heights) (most_cars d.version) d.cars front later
    → 0 < length later → Begins last (codes "end") → exactly last 1 ≡ Ok tt
    → Reads (record d { due = FirstCar }) (front ++ last ∷ []) (record d { cars = d.cars ++ later; due = NextCar })
first_given d [] last later none some named alone = let e = ap length none in absurd (omega arith)
first_given d (words ∷ front) last later are some named alone =
    let car = are.0 in
    let further = cars_given (record d { cars = d.cars ++ car ∷ [] }) front last are.1 are.5 named alone in
    let joined : (d.cars ++ car ∷ []) ++ are.1 ≡ d.cars ++ later = append_assoc d.cars (car ∷ []) are.1 ∙ ap (λ l. d.cars ++ l) (sym are.2) in
    saying_given (record d { due = FirstCar }) words (front ++ last ∷ []) (record d { cars = d.cars ++ later; due = NextCar })
    (car_of_line (length d.heights) (most_cars d.version) d.cars words) (λ c. with_car d c) car refl refl are.3 are.4
    (subst (λ cars. Reads (with_car d car) (front ++ last ∷ []) (record d { cars = cars; due = NextCar })) joined further)

-- ---- stated times

rows_few : (floors floor : ℕ) (lines : List Line) (times : List ℕ) → AreRowLines floors floor lines times → floor ≤ floors
rows_few floors floor [] times are = let e = are.0 in omega arith
rows_few floors floor (words ∷ lines) times are = let later = rows_few floors (floor + 1) lines are.1 are.4 in omega arith

row_given : (floors floor : ℕ) (before : List ℕ) (words : Line) (row : List ℕ) → length before / floors ≡ floor → IsRowLine floors floor words row
    → row_judged (Some floors) before words ≡ Ok (floors, row)
row_given floors floor before words row at is =
    let count = is.count in
    let times = is.times in
    rw (count, at, times) refl

whole_times : (d : Draft) (times : List ℕ) → length times ≡ length d.heights * length d.heights → has_triple (square_of (length d.heights) times) ≡ false
    → with_times d times ≡ Ok (record d { times = times; due = FirstCar })
whole_times d times full direct =
    let e : (length times == length d.heights * length d.heights) ≡ true = eq-eqb _ _ full in
    rw (e, direct) refl

more_times : (d : Draft) (times : List ℕ) → length times < length d.heights * length d.heights
    → with_times d times ≡ Ok (record d { times = times; due = Times })
more_times d times few =
    let e : (length times == length d.heights * length d.heights) ≡ false = ne_eqb _ _ (λ same. omega arith) in
    rw e refl

taken_row : (d : Draft) (floor : ℕ) (words : Line) (row : List ℕ) (new : Draft) → 0 < length d.heights → length d.times ≡ floor * length d.heights
    → IsRowLine (length d.heights) floor words row → with_times (record d { due = Times }) (d.times ++ row) ≡ Ok new
    → taken Times (record d { due = Times }) words ≡ Ok new
taken_row d floor words row new some size is whole =
    ap (λ judged. judged >>= λ read. with_times (record d { due = Times }) (d.times ++ read.1))
    (row_given (length d.heights) floor d.times words row (at_floor floor (length d.heights) d.times size some) is) ∙ whole

grown : (f n x r y : ℕ) → x ≡ f * n → r ≡ n → y ≡ x + r → y ≡ (f + 1) * n
grown f n x r y a b c = omega arith

all_grown : (f n y : ℕ) → f + 1 ≡ n → y ≡ (f + 1) * n → y ≡ n * n
all_grown f n y e a = omega (arith, ap (λ (k : ℕ). k * n) e)

some_left : (f n y : ℕ) → f + 1 + 1 ≤ n → y ≡ (f + 1) * n → y < n * n
some_left f n y e a = let left = n - (f + 1 + 1) in let is : f + 1 + 1 + left ≡ n = omega arith in omega (arith, ap (λ (k : ℕ). k * n) is)

rows_given : (d : Draft) (floor : ℕ) (lines : List Line) (times : List ℕ) (rest : List Line) (end : Draft) → 0 < length d.heights → floor < length d.heights
    → length d.times ≡ floor * length d.heights → AreRowLines (length d.heights) floor lines times
    → has_triple (square_of (length d.heights) (d.times ++ times)) ≡ false → Reads (record d { times = d.times ++ times; due = FirstCar }) rest end
    → Reads (record d { due = Times }) (lines ++ rest) end
rows_given d floor [] times rest end some below size are direct reads = let e = are.0 in absurd (omega arith)
rows_given d floor (words ∷ []) times rest end some below size are direct reads =
    let n = length d.heights in
    let row = are.0 in
    let row_is = are.3 in
    let long = row_length floor n words row (exactly_ok words (n + 1) tt row_is.count) row_is.times in
    let times_is : times ≡ row = are.2 ∙ ap (λ l. row ++ l) are.4.1 ∙ append-nil row in
    let full = all_grown floor n (length (d.times ++ row)) are.4.0
    (grown floor n (length d.times) (length row) (length (d.times ++ row)) size long (length-append d.times row)) in
    let new = record d { times = d.times ++ row; due = FirstCar } in
    let whole = whole_times (record d { due = Times }) (d.times ++ row) full (subst (λ ts. has_triple (square_of n (d.times ++ ts)) ≡ false) times_is direct) in
    due_taken (record d { due = Times }) words rest end new refl row_is.name_is (taken_row d floor words row new some size row_is whole)
    (subst (λ ts. Reads (record d { times = d.times ++ ts; due = FirstCar }) rest end) times_is reads)
rows_given d floor (words ∷ next ∷ lines) times rest end some below size are direct reads =
    let n = length d.heights in
    let row = are.0 in
    let row_is = are.3 in
    let long = row_length floor n words row (exactly_ok words (n + 1) tt row_is.count) row_is.times in
    let size_more = grown floor n (length d.times) (length row) (length (d.times ++ row)) size long (length-append d.times row) in
    let few = rows_few n (floor + 1 + 1) lines are.4.1 are.4.4 in
    let new = record d { times = d.times ++ row; due = Times } in
    let more = more_times (record d { due = Times }) (d.times ++ row) (some_left floor n (length (d.times ++ row)) few size_more) in
    let joined : d.times ++ times ≡ (d.times ++ row) ++ are.1 = ap (λ ts. d.times ++ ts) are.2 ∙ sym (append_assoc d.times row are.1) in
    let further = rows_given (record d { times = d.times ++ row }) (floor + 1) (next ∷ lines) are.1 rest end some (omega arith) size_more are.4
    (subst (λ ts. has_triple (square_of n ts) ≡ false) joined direct) (subst (λ ts. Reads (record d { times = ts; due = FirstCar }) rest end) joined reads) in
    due_taken (record d { due = Times }) words ((next ∷ lines) ++ rest) end new refl row_is.name_is
    (taken_row d floor words row new some size row_is more) further

times_given : (stated : Bool) (d : Draft) (lines : List Line) (times : List ℕ) (rest : List Line) (end : Draft) → 0 < length d.heights → d.times ≡ []
    → AreTimesLines stated (length d.heights) lines times → Reads (record d { times = times; due = FirstCar }) rest end
    → Reads (record d { due = cond stated Times FirstCar }) (lines ++ rest) end
times_given false d lines times rest end some none are reads =
    let same : times ≡ d.times = are.1 ∙ sym none in
    subst (λ ls. Reads (record d { due = FirstCar }) (ls ++ rest) end) (sym are.0)
    (subst (λ ts. Reads (record d { times = ts; due = FirstCar }) rest end) same reads)
times_given true d lines times rest end some none are reads =
    let size : length d.times ≡ 0 * length d.heights = omega (arith, ap length none) in
    let joined : times ≡ d.times ++ times = ap (λ ts. ts ++ times) (sym none) in
    rows_given d 0 lines times rest end some some size are.0 (subst (λ ts. has_triple (square_of (length d.heights) ts) ≡ false) joined are.1)
    (subst (λ ts. Reads (record d { times = ts; due = FirstCar }) rest end) joined reads)

-- ---- patience, and all lines

patience_given : (version_one : Bool) (d : Draft) (lines : List Line) (patience weight : ℕ) (rest : List Line) (end : Draft)
    → record d { patience = 0; patience_weight = 0; due = Floors } ≡ record d { due = Floors } → ArePatienceLines version_one lines patience weight
    → Reads (record d { patience = patience; patience_weight = weight; due = Floors }) rest end
    → Reads (record d { due = cond version_one Floors Patience }) (lines ++ rest) end
patience_given true d lines patience weight rest end blank are reads =
    subst (λ ls. Reads (record d { due = Floors }) (ls ++ rest) end) (sym are.0)
    (subst (λ e. Reads e rest end) blank
    (subst (λ w. Reads (record d { patience = 0; patience_weight = w; due = Floors }) rest end) are.2
    (subst (λ p. Reads (record d { patience = p; patience_weight = weight; due = Floors }) rest end) are.1 reads)))
patience_given false d lines patience weight rest end blank are reads =
    subst (λ ls. Reads (record d { due = Patience }) (ls ++ rest) end) (sym are.1)
    (saying_given (record d { due = Patience }) are.0 rest end (two_numbers are.0 1000000000 1000)
    (λ p. record d { patience = p.0; patience_weight = p.1; due = Floors }) (patience, weight) refl refl are.2.name_is are.2.numbers reads)

-- what is read of a building
abbrev pub draft_of : Building → List ℕ → Draft
draft_of b times = record {
  due = NextCar;
  version = b.version;
  speed = b.speed;
  accel = b.accel;
  wait_weight = b.wait_weight;
  travel_weight = b.travel_weight;
  patience =
      b.patience;
  patience_weight = b.patience_weight;
  heights = b.heights;
  times = times;
  cars = b.cars;
}

pub reads_of_lines : (lines : List Line) (b : Building) (times : List ℕ) → AreBuildingLines lines b times → Reads no_draft lines (draft_of b times)
reads_of_lines lines b times is =
    let end = draft_of b times in
    let d1 = record no_draft { version = b.version; due = Speed } in
    let d2 = record d1 { speed = b.speed; due = Accel } in
    let d3 = record d2 { accel = b.accel; due = Weights } in
    let d4 = record d3 { wait_weight = b.wait_weight; travel_weight = b.travel_weight; due = Floors } in
    let d5 = record d4 { patience = b.patience; patience_weight = b.patience_weight; due = Floors } in
    let d6 = record d5 { heights = b.heights } in
    let d7 = record d6 { times = times } in
    let cars = is.car_lines ++ is.end_line ∷ [] in
    let stated = is.times_lines ++ cars in
    let heights = is.heights_line ∷ stated in
    let patience = is.patience_lines ++ heights in
    let from_cars = first_given d7 is.car_lines is.end_line b.cars is.cars is.some_car is.end is.end_alone in
    let from_times = times_given (b.version == 3) d6 is.times_lines times cars end
    (heights_size is.heights_line b.heights is.heights) refl is.stated from_cars in
    let from_heights = saying_given d5 is.heights_line stated end (heights_of is.heights_line)
    (λ hs. record d5 { heights = hs; due = after_floors b.version }) b.heights refl refl is.floors is.heights from_times in
    let from_patience = patience_given (b.version == 1) d4 is.patience_lines b.patience b.patience_weight heights end refl is.patience from_heights in
    let from_weights = saying_given d3 is.weights_line patience end (two_numbers is.weights_line 1000 1000)
    (λ p. record d3 { wait_weight = p.0; travel_weight = p.1; due = after_weights b.version })
    (b.wait_weight, b.travel_weight) refl refl is.weights.name_is is.weights.numbers from_patience in
    let from_accel = saying_given d2 is.accel_line (is.weights_line ∷ patience) end (one_number is.accel_line 100 5000)
    (λ n. record d2 { accel = n; due = Weights }) b.accel refl refl is.accel.name_is is.accel.number from_weights in
    let from_speed = saying_given d1 is.speed_line (is.accel_line ∷ is.weights_line ∷ patience) end (one_number is.speed_line 100 20000)
    (λ n. record d1 { speed = n; due = Accel }) b.speed refl refl is.speed.name_is is.speed.number from_accel in
    let from_version = saying_given no_draft is.version_line (is.speed_line ∷ is.accel_line ∷ is.weights_line ∷ patience) end (one_number is.version_line 1 3)
    (λ n. record no_draft { version = n; due = Speed }) b.version refl refl is.version.name_is is.version.number from_speed in
    subst (λ ls. Reads no_draft ls end) (sym is.lines_are) from_version
