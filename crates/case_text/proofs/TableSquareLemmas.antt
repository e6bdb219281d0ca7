-- What the lines of a table say is a table.
use Rattle.std.proofs.Common.{◌≡◌, ℕ, zero, suc, ◌+◌, ◌-◌, ◌*◌, ◌<◌, Bool, true, false, cond, List, [], ◌∷◌, ◌++◌, length, drop, get_or, Ok, Err, ap, refl}
use Rattle.std.proofs.Common.{arith, ◌∙◌, sym, subst, length-append}
use Rattle.std.specs.Prelude.{nat_lt, ◌==◌}
use Rattle.std.specs.List.{AllByRecursion}
use Rattle.std.proofs.lemmas.Bool.{and_parts, ltb-true, eqb-true, eqb-false}
use Rattle.std.proofs.lemmas.List.{get_or_append_left, get_or-append_right}
use Rattle.call_state.specs.Squares.{IsEntry}
use Rattle.elevator_model.specs.Travel.{Square, time_between}
use Rattle.motion_table.specs.Tables.{rests_at, row_of}
use Rattle.motion_table.specs.Triples.{IsTable}
use Rattle.lift_text.specs.declared.codes.TextCode.TheVariants.{NoTime}
use Rattle.text_sections.specs.NumberLists.{numbers}
use Rattle.text_sections.specs.Sections.{Line}
use Rattle.text_sections.proofs.StepLemmas.{then-inv}
use Rattle.building_text.specs.BuildingText.{IsRowLine, AreRowLines}
use Rattle.building_text.proofs.SaidLemmas.{IsFrom, numbers_of-within}
use Rattle.building_text.proofs.LineLemmas.{row_length, exactly_ok}
use Rattle.building_text.proofs.RowLemmas.{IsTime}
use Rattle.case_text.specs.TableTexts.{AreTableLines}

-- ---- the times of a line

rests : (i k : ℕ) (times : List ℕ) (g : ℕ) → rests_at i k times ≡ true → g < length times → AllByRecursion (IsFrom 0 20000000) times
    → IsTime i (k + g) (get_or times g 0)
rests i k [] g rest below all = absurd (omega arith)
rests i k (time ∷ times) zero rest below all =
    let here = (and_parts (cond (k == i) (time == 0) (nat_lt 0 time)) (rests_at i (k + 1) times) rest).0 in
    by_test (k == i) refl here
  where
    by_test : (same : Bool) → (k == i) ≡ same → cond same (time == 0) (nat_lt 0 time) ≡ true → IsTime i (k + 0) time
    by_test true e here = record { at_rest = λ is. eqb-true _ _ here; positive = λ is. absurd (is (let h = eqb-true _ _ e in omega arith)); bounded = all.0.1 }
    by_test false e here = record { at_rest = λ is. absurd (eqb-false _ _ e (omega arith)); positive = λ is. ltb-true _ _ here; bounded = all.0.1 }
rests i k (time ∷ times) (suc g) rest below all =
    let later = (and_parts (cond (k == i) (time == 0) (nat_lt 0 time)) (rests_at i (k + 1) times) rest).1 in
    let place : (k + 1) + g ≡ k + suc g = omega arith in
    subst (λ m. IsTime i m (get_or times g 0)) place (rests i (k + 1) times g later (omega arith) all.1)

row_times : (floor : ℕ) (words : Line) (row : List ℕ) (g : ℕ) → row_of floor words ≡ Ok row → g < length row → IsTime floor g (get_or row g 0)
row_times floor words row g is below =
    let r = then-inv (numbers words 1 0 20000000) (λ times. cond (rests_at floor 0 times) (Ok times) (Err NoTime)) row is in
    by_test r.0 r.1 (rests_at floor 0 r.0) refl r.2
  where
    by_test : (times : List ℕ) → numbers words 1 0 20000000 ≡ Ok times → (rest : Bool) → rests_at floor 0 times ≡ rest
        → cond rest (Ok times) (Err NoTime) ≡ Ok row → IsTime floor g (get_or row g 0)
    by_test times read true rest same =
        let e : times ≡ row = cc in
        let place : 0 + g ≡ g = omega arith in
        let lt : g < length times = omega (arith, ap length e) in
        subst (λ m. IsTime floor m (get_or row g 0)) place
        (subst (λ ts. IsTime floor (0 + g) (get_or ts g 0)) e (rests floor 0 times g rest lt (numbers_of-within 0 20000000 (drop 1 words) times read)))
    by_test times read false rest same = absurd cc

row_size : (n floor : ℕ) (words : Line) (row : List ℕ) → IsRowLine n floor words row → length row ≡ n
row_size n floor words row is = row_length floor n words row (exactly_ok words (n + 1) tt is.count) is.times

-- ---- the times of all lines

rows_times : (n floor : ℕ) (lines : List Line) (times : List ℕ) (f g : ℕ) → AreRowLines n floor lines times → f + floor < n → g < n
    → IsTime (f + floor) g (get_or times (f * n + g) 0)
rows_times n floor [] times f g are low high = let e = are.0 in absurd (omega arith)
rows_times n floor (words ∷ lines) times zero g are low high =
    let row = are.0 in
    let size = row_size n floor words row are.3 in
    let lt : g < length row = omega arith in
    let at : get_or times (0 * n + g) 0 ≡ get_or row g 0 = ap (λ ts. get_or ts (0 * n + g) 0) are.2 ∙ ap (λ k. get_or (row ++ are.1) k 0) (first_place n g)
    ∙ get_or_append_left row are.1 0 g lt in
    let place : floor ≡ 0 + floor = omega arith in
    subst (λ i. IsTime i g (get_or times (0 * n + g) 0)) place (subst (λ t. IsTime floor g t) (sym at) (row_times floor words row g are.3.times lt))
  where
    first_place : (n g : ℕ) → 0 * n + g ≡ g
    first_place n g = omega arith
rows_times n floor (words ∷ lines) times (suc f) g are low high =
    let row = are.0 in
    let size = row_size n floor words row are.3 in
    let further = rows_times n (floor + 1) lines are.1 f g are.4 (omega arith) high in
    let at : get_or times (suc f * n + g) 0 ≡ get_or are.1 (f * n + g) 0 = ap (λ ts. get_or ts (suc f * n + g) 0) are.2
    ∙ ap (λ k. get_or (row ++ are.1) k 0) (next_place f n g (length row) size) ∙ behind row are.1 (f * n + g) in
    let place : f + (floor + 1) ≡ suc f + floor = omega arith in
    subst (λ i. IsTime i g (get_or times (suc f * n + g) 0)) place (subst (λ t. IsTime (f + (floor + 1)) g t) (sym at) further)
  where
    next_place : (f n g l : ℕ) → l ≡ n → suc f * n + g ≡ l + (f * n + g)
    next_place f n g l e = omega arith

    behind : (xs ys : List ℕ) (k : ℕ) → get_or (xs ++ ys) (length xs + k) 0 ≡ get_or ys k 0
    behind xs ys k = let e : (length xs + k) - length xs ≡ k = omega arith in
        get_or-append_right xs ys (length xs) (length xs + k) 0 refl (omega arith) ∙ ap (λ i. get_or ys i 0) e

rows_size : (n floor : ℕ) (lines : List Line) (times : List ℕ) → AreRowLines n floor lines times → length times + floor * n ≡ n * n
rows_size n floor [] times are = ends floor n (length times) are.0 (ap length are.1)
  where
    ends : (f n l : ℕ) → f ≡ n → l ≡ 0 → l + f * n ≡ n * n
    ends f n l e z = omega (arith, ap (λ (k : ℕ). k * n) e)
rows_size n floor (words ∷ lines) times are =
    next floor n (length times) (length are.0) (length are.1) (ap length are.2 ∙ length-append are.0 are.1) (row_size n floor words are.0 are.3)
    (rows_size n (floor + 1) lines are.1 are.4)
  where
    next : (f n l r m : ℕ) → l ≡ r + m → r ≡ n → m + (f + 1) * n ≡ n * n → l + f * n ≡ n * n
    next f n l r m a b c = omega arith

-- ---- the table

pub table_of : (lines : List Line) (t : Square) → AreTableLines lines t → IsTable t
table_of lines t are =
    let n = t.floors in
    let said = are.rows_are_said in
    let size = rows_size n 0 are.rows t.times said in
    let time : (f g : ℕ) → f < n → g < n
    → IsTime f g (time_between t f g) =
    λ f g f_is g_is. (let place : f + 0 ≡ f = omega arith in
    subst (λ i. IsTime i g (time_between t f g)) place (rows_times n 0 are.rows t.times f g said (omega arith) g_is)) in
    let entry : (f g : ℕ) → f < n → g < n
    → IsEntry t f g = λ f g f_is g_is. (let one = time f g f_is g_is in record { at_rest = one.at_rest; positive = one.positive; bounded = one.bounded }) in
    record { floors_low = are.floors_low; floors_high = are.floors_high; size = omega arith; rows = λ f f_is g g_is. entry f g f_is g_is }
