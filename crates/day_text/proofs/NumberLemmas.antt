-- The four numbers of a row in their ranges.
use Rattle.std.proofs.Common.{◌≡◌, ℕ, ◌-◌, ◌≤◌, Bool, true, false, cond, not, ◌&&◌, eqb, ltb, leb, List, length, refl, sym, ap, ◌∙◌, arith, Option, Some, None}
use Rattle.std.proofs.lemmas.Bool.{leb-true, le-leb, lt-ltb, ltb-true, false_from_ne_true, false≢true}
use Rattle.elevator_model.specs.Building.{Building, floor_count}
use Rattle.search_model.specs.Days.{Row}
use Rattle.day_text.specs.Records.{number_said, row_of_fields, row_of_numbers, row_within, at_most, numbers_within, carries_someone, row_as_said}
use Rattle.day_text.proofs.HeaderLemmas.{four-fields}
use Rattle.csv.specs.Records.{field_at}
use Rattle.std.specs.Prelude.{option_map}
use Rattle.std.specs.Bool.{then_some}
use Rattle.day_text.specs.declared.rows.GoodRow.{GoodRow}

-- the row, where somebody goes to another floor
abbrev pub where_someone : Option Row → Option Row
where_someone None = None
where_someone (Some row) = cond {A = Option Row} (carries_someone row) (Some row) None

-- a number up to the last one below the bound is one below it
below-bound : (n bound : ℕ) → 1 ≤ bound → leb n (bound - 1) ≡ ltb n bound
below-bound n bound some = at (leb n (bound - 1)) refl
  where
    at : (x : Bool) → leb n (bound - 1) ≡ x → x ≡ ltb n bound
    at true h = let up = leb-true n (bound - 1) h in sym (lt-ltb n bound (omega (arith, up, some)))
    at false h = sym (false_from_ne_true (ltb n bound)
        (λ k. let low = ltb-true n bound k in false≢true (sym h ∙ le-leb n (bound - 1) (omega (arith, low, some)))))

no-origin : (t d p : Option ℕ) → row_of_numbers t None d p ≡ None
no-origin None d p = refl
no-origin (Some t) d p = refl

no-destination : (t o p : Option ℕ) → row_of_numbers t o None p ≡ None
no-destination None o p = refl
no-destination (Some t) None p = refl
no-destination (Some t) (Some o) p = refl

no-persons : (t o d : Option ℕ) → row_of_numbers t o d None ≡ None
no-persons None o d = refl
no-persons (Some t) None d = refl
no-persons (Some t) (Some o) None = refl
no-persons (Some t) (Some o) (Some d) = refl

abbrev kept : Bool → ℕ → Option ℕ
kept x n = cond {A = Option ℕ} x (Some n) None

-- four tests before, and the two others between them
four-tests : (t o d p : ℕ) (x y z w : Bool)
    → where_someone (row_of_numbers (kept x t) (kept y o) (kept z d) (kept w p))
    ≡ cond {A = Option Row} (x && y && z && not (eqb o d) && leb 1 p && w) (Some (record { time = t; origin = o; destination = d; persons = p })) None
four-tests t o d p true true true true = last (not (eqb o d)) (leb 1 p) (record { time = t; origin = o; destination = d; persons = p })
  where
    last : (v l : Bool) (row : Row)
        → cond {A = Option Row} (v && l) (Some row) None ≡ cond {A = Option Row} (true && true && true && v && l && true) (Some row) None
    last true true row = refl
    last true false row = refl
    last false l row = refl
four-tests t o d p true true true false = last (not (eqb o d)) (leb 1 p) (record { time = t; origin = o; destination = d; persons = p })
  where
    last : (v l : Bool) (row : Row) → None ≡ cond {A = Option Row} (true && true && true && v && l && false) (Some row) None
    last true true row = refl
    last true false row = refl
    last false l row = refl
four-tests t o d p true true false w = refl
four-tests t o d p true false z w = refl
four-tests t o d p false y z w = refl

-- The ranges may be asked of each number before the row is made.
ranges-first : (b : Building) → 1 ≤ floor_count b → (t o d p : Option ℕ)
    → where_someone (row_of_numbers (at_most 1000000000 t) (at_most (floor_count b - 1) o) (at_most (floor_count b - 1) d) (at_most 8 p))
    ≡ row_within b (row_of_numbers t o d p)
ranges-first b some None o d p = refl
ranges-first b some (Some t) None d p = ap where_someone (no-origin (at_most 1000000000 (Some t)) (at_most (floor_count b - 1) d) (at_most 8 p))
ranges-first b some (Some t) (Some o) None p =
    ap where_someone (no-destination (at_most 1000000000 (Some t)) (at_most (floor_count b - 1) (Some o)) (at_most 8 p))
ranges-first b some (Some t) (Some o) (Some d) None =
    ap where_someone (no-persons (at_most 1000000000 (Some t)) (at_most (floor_count b - 1) (Some o)) (at_most (floor_count b - 1) (Some d)))
ranges-first b some (Some t) (Some o) (Some d) (Some p) =
    ap (λ (x : Bool). where_someone (row_of_numbers (kept (leb t 1000000000) t) (kept x o) (kept (leb d (floor_count b - 1)) d) (kept (leb p 8) p)))
    (below-bound o (floor_count b) some)
    ∙ ap (λ (x : Bool). where_someone (row_of_numbers (kept (leb t 1000000000) t) (kept (ltb o (floor_count b)) o) (kept x d) (kept (leb p 8) p)))
    (below-bound d (floor_count b) some)
    ∙ four-tests t o d p (leb t 1000000000) (ltb o (floor_count b)) (ltb d (floor_count b)) (leb p 8)

-- the row that four fields say, in its ranges
pub row-in-ranges : (b : Building) (fields : List (List ℕ)) → 2 ≤ floor_count b → length fields ≡ 4
    → where_someone (numbers_within b fields) ≡ row_within b (row_of_fields fields)
row-in-ranges b fields two four =
    ranges-first b (omega (arith, two)) (number_said (field_at fields 0)) (number_said (field_at fields 1)) (number_said (field_at fields 2))
    (number_said (field_at fields 3)) ∙ ap (row_within b) (sym (four-fields fields four))

-- the same of the row as it is kept
pub kept-row : (row : GoodRow) (answer : Option GoodRow) (x : Bool) → x ≡ carries_someone (row_as_said row) → answer ≡ then_some x row
    → option_map row_as_said answer ≡ where_someone (Some (row_as_said row))
kept-row row answer true is e = ap (option_map row_as_said) e ∙ ap (λ (x : Bool). cond {A = Option Row} x (Some (row_as_said row)) None) is
kept-row row answer false is e = ap (option_map row_as_said) e ∙ ap (λ (x : Bool). cond {A = Option Row} x (Some (row_as_said row)) None) is
