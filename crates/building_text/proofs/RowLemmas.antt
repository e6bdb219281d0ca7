-- Stated times that were read are travel times.
use Rattle.std.proofs.Common.{◌≡◌, ◌≢◌, ℕ, zero, suc, ◌+◌, ◌-◌, ◌*◌, ◌<◌, ◌≤◌, Bool, true, false, cond, List, [], ◌∷◌, ◌++◌, length, drop, get_or, Ok, Err, ap}
use Rattle.std.proofs.Common.{refl, arith, ◌∙◌, sym, subst, length-append}
use Rattle.std.specs.Prelude.{nat_lt, ◌==◌}
use Rattle.std.specs.List.{AllByRecursion}
use Rattle.std.proofs.lemmas.Bool.{and_parts, ltb-true, ltb-false, eqb-true, eqb-false}
use Rattle.std.proofs.lemmas.List.{get_or_append_left, get_or-append_right}
use Rattle.call_sets.specs.Counting.{any_below}
use Rattle.call_sets.proofs.BelowTests.{any_below-false}
use Rattle.call_state.specs.Squares.{square_of}
use Rattle.elevator_model.specs.Travel.{IsTravelSquare, time_between}
use Rattle.motion_table.specs.Tables.{rests_at, row_of}
use Rattle.lift_text.specs.declared.codes.TextCode.TheVariants.{NoTime}
use Rattle.text_sections.specs.NumberLists.{numbers}
use Rattle.text_sections.specs.Sections.{Line}
use Rattle.text_sections.proofs.StepLemmas.{then-inv}
use Rattle.building_text.specs.BuildingText.{IsRowLine, AreRowLines, AreTimesLines}
use Rattle.building_text.proofs.SaidLemmas.{IsFrom, numbers_of-within}
use Rattle.building_text.proofs.LineLemmas.{row_length, exactly_ok}

-- a time from floor i to floor k is in its range
pub record IsTime (i k time : ℕ) : Type 0 where
  pub at_rest : i ≡ k → time ≡ 0
  pub positive : i ≢ k → 1 ≤ time
  pub bounded : time ≤ 20000000

rests : (i k : ℕ) (times : List ℕ) (g : ℕ) → rests_at i k times ≡ true → g < length times → AllByRecursion (IsFrom 0 20000000) times
    → IsTime i (k + g) (get_or times g 0)
rests i k [] g rest below all = absurd (omega arith)
rests i k (time ∷ times) zero rest below all =
    let here = (and_parts (cond (k == i) (time == 0) (nat_lt 0 time)) (rests_at i (k + 1) times) rest).0 in
    by_test (k == i) refl here
  where
    by_test : (same : Bool) → (k == i) ≡ same → cond same (time == 0) (nat_lt 0 time) ≡ true → IsTime i (k + 0) time
    by_test true e here = record { at_rest = λ is. eqb-true _ _ here; positive = λ is. absurd (is (let h = eqb-true _ _ e in omega arith)); bounded = all.0.1 }
    by_test false e here = record { at_rest = λ is. absurd (eqb-false _ _ e (omega arith)); positive = λ is. ltb-true _ _ here; bounded = all.0.1 }
rests i k (time ∷ times) (suc g) rest below all =
    let later = (and_parts (cond (k == i) (time == 0) (nat_lt 0 time)) (rests_at i (k + 1) times) rest).1 in
    let place : (k + 1) + g ≡ k + suc g = omega arith in
    subst (λ m. IsTime i m (get_or times g 0)) place (rests i (k + 1) times g later (omega arith) all.1)

row_times : (floor floors : ℕ) (words : Line) (row : List ℕ) (g : ℕ) → row_of floor words ≡ Ok row → g < length row → IsTime floor g (get_or row g 0)
row_times floor floors words row g is below =
    let r = then-inv (numbers words 1 0 20000000) (λ times. cond (rests_at floor 0 times) (Ok times) (Err NoTime)) row is in
    by_test r.0 r.1 (rests_at floor 0 r.0) refl r.2
  where
    by_test : (times : List ℕ) → numbers words 1 0 20000000 ≡ Ok times → (rest : Bool) → rests_at floor 0 times ≡ rest
        → cond rest (Ok times) (Err NoTime) ≡ Ok row → IsTime floor g (get_or row g 0)
    by_test times read true rest same =
        let e : times ≡ row = cc in
        let place : 0 + g ≡ g = omega arith in
        let lt : g < length times = omega (arith, ap length e) in
        subst (λ m. IsTime floor m (get_or row g 0)) place
        (subst (λ ts. IsTime floor (0 + g) (get_or ts g 0)) e (rests floor 0 times g rest lt (numbers_of-within 0 20000000 (drop 1 words) times read)))
    by_test times read false rest same = absurd cc

row_size : (floors floor : ℕ) (words : Line) (row : List ℕ) → IsRowLine floors floor words row → length row ≡ floors
row_size floors floor words row is = row_length floor floors words row (exactly_ok words (floors + 1) tt is.count) is.times

rows_times : (floors floor : ℕ) (lines : List Line) (times : List ℕ) (f g : ℕ) → AreRowLines floors floor lines times → f + floor < floors → g < floors
    → IsTime (f + floor) g (get_or times (f * floors + g) 0)
rows_times floors floor [] times f g are low high = let e = are.0 in absurd (omega arith)
rows_times floors floor (words ∷ lines) times zero g are low high =
    let row = are.0 in
    let size = row_size floors floor words row are.3 in
    let lt : g < length row = omega arith in
    let at : get_or times (0 * floors + g) 0 ≡ get_or row g 0 = ap (λ ts. get_or ts (0 * floors + g) 0) are.2
    ∙ ap (λ k. get_or (row ++ are.1) k 0) (first_place floors g) ∙ get_or_append_left row are.1 0 g lt in
    let place : floor ≡ 0 + floor = omega arith in
    subst (λ i. IsTime i g (get_or times (0 * floors + g) 0)) place (subst (λ t. IsTime floor g t) (sym at) (row_times floor floors words row g are.3.times lt))
  where
    first_place : (n g : ℕ) → 0 * n + g ≡ g
    first_place n g = omega arith
rows_times floors floor (words ∷ lines) times (suc f) g are low high =
    let row = are.0 in
    let size = row_size floors floor words row are.3 in
    let further = rows_times floors (floor + 1) lines are.1 f g are.4 (omega arith) high in
    let at : get_or times (suc f * floors + g) 0 ≡ get_or are.1 (f * floors + g) 0 = ap (λ ts. get_or ts (suc f * floors + g) 0) are.2
    ∙ ap (λ k. get_or (row ++ are.1) k 0) (next_place f floors g (length row) size) ∙ behind row are.1 (f * floors + g) in
    let place : f + (floor + 1) ≡ suc f + floor = omega arith in
    subst (λ i. IsTime i g (get_or times (suc f * floors + g) 0)) place (subst (λ t. IsTime (f + (floor + 1)) g t) (sym at) further)
  where
    next_place : (f n g l : ℕ) → l ≡ n → suc f * n + g ≡ l + (f * n + g)
    next_place f n g l e = omega arith

    behind : (xs ys : List ℕ) (k : ℕ) → get_or (xs ++ ys) (length xs + k) 0 ≡ get_or ys k 0
    behind xs ys k = let e : (length xs + k) - length xs ≡ k = omega arith in
        get_or-append_right xs ys (length xs) (length xs + k) 0 refl (omega arith) ∙ ap (λ i. get_or ys i 0) e

rows_size : (floors floor : ℕ) (lines : List Line) (times : List ℕ) → AreRowLines floors floor lines times → length times + floor * floors ≡ floors * floors
rows_size floors floor [] times are = ends floor floors (length times) are.0 (ap length are.1)
  where
    ends : (f n l : ℕ) → f ≡ n → l ≡ 0 → l + f * n ≡ n * n
    ends f n l e z = omega (arith, ap (λ (k : ℕ). k * n) e)
rows_size floors floor (words ∷ lines) times are =
    next floor floors (length times) (length are.0) (length are.1) (ap length are.2 ∙ length-append are.0 are.1) (row_size floors floor words are.0 are.3)
    (rows_size floors (floor + 1) lines are.1 are.4)
  where
    next : (f n l r m : ℕ) → l ≡ r + m → r ≡ n → m + (f + 1) * n ≡ n * n → l + f * n ≡ n * n
    next f n l r m a b c = omega arith

pub stated_travel : (floors : ℕ) (lines : List Line) (times : List ℕ) → 2 ≤ floors → floors ≤ 64 → AreTimesLines true floors lines times
    → IsTravelSquare (square_of floors times)
stated_travel floors lines times low high are =
    let t = square_of floors times in
    let size = rows_size floors 0 lines times are.0 in
    let time : (f g : ℕ) → f < floors → g < floors
    → IsTime f g (time_between t f g) =
    λ f g f_is g_is. (let place : f + 0 ≡ f = omega arith in
    subst (λ i. IsTime i g (time_between t f g)) place (rows_times floors 0 lines times f g are.0 (omega arith) g_is)) in
    record {
      floors_low = low;
      floors_high = high;
      size = omega arith;
      at_rest = λ f f_is. (time f f f_is f_is).at_rest refl;
      positive = λ f g f_is g_is differ. (time f g f_is g_is).positive differ;
      bounded = λ f g f_is g_is. (time f g f_is g_is).bounded;
      triangle = λ f g h f_is g_is h_is. ltb-false _ _ (any_below-false floors (λ k. nat_lt (time_between t f g + time_between t g k) (time_between t f k)) h
          (any_below-false floors (λ j. any_below floors (λ k. nat_lt (time_between t f j + time_between t j k) (time_between t f k))) g
          (any_below-false floors
          (λ i. any_below floors (λ j. any_below floors (λ k. nat_lt (time_between t i j + time_between t j k) (time_between t i k)))) f are.1 f_is) g_is)
          h_is);
    }
