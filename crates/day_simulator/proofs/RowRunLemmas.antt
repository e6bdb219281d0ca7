-- Rows done one after another.
use Rattle.std.proofs.Common.{◌≡◌, ℕ, ◌<◌, ◌≤◌, Bool, false, true≢false, cond, eqb, ltb, List, [], ◌∷◌, ◌++◌, length, refl, sym, ap, ◌∙◌, subst, arith, Option}
use Rattle.std.proofs.Common.{None}
use Rattle.std.proofs.lemmas.Bool.{false_from_ne_true, ltb-true, lt-ltb}
use Rattle.search_model.specs.Days.{Day, Row, day_after_refused}
use Rattle.search_model.specs.declared.RowFault.TheVariants.{NoRow}
use Rattle.search_model.specs.declared.Stated.{Stated}
use Rattle.lift_text.specs.Lines.{line_of}
use Rattle.lift_text.specs.Reading.{line_limit}
use Rattle.day_text.specs.Records.{row_of_line}
use Rattle.day_laws.specs.Standing.{row_number}
use Rattle.day_text.specs.LogTexts.{refused_text}
use Rattle.day_simulator.specs.Rows.{IsRowDone}
use Rattle.day_laws.specs.RowLines.{rows_of, rows_of_line, rows_of_short}
use Rattle.day_simulator.specs.RowRuns.{Right, AreRowsDone}

pub append-nil : {X : Type 0} (xs : List X) → xs ++ [] ≡ xs
append-nil [] = refl
append-nil (x ∷ xs) = ap (λ r. x ∷ r) (append-nil xs)

pub append-assoc : {X : Type 0} (xs ys zs : List X) → (xs ++ ys) ++ zs ≡ xs ++ (ys ++ zs)
append-assoc [] ys zs = refl
append-assoc (x ∷ xs) ys zs = ap (λ r. x ∷ r) (append-assoc xs ys zs)

-- one row
pub one-row : (right : Right) (old : Day) (said : Option Row) (new : Day) (text : List ℕ) → IsRowDone right old said new [] text
    → AreRowsDone right old (said ∷ []) new text
one-row right old said new text done = (new, text, [], done, (refl, refl), sym (append-nil text))

-- and later ones
pub rows-more : (right : Right) (a b c : Day) (xs ys : List (Option Row)) (t u : List ℕ) → AreRowsDone right a xs b t → AreRowsDone right b ys c u
    → AreRowsDone right a (xs ++ ys) c (t ++ u)
rows-more right a b c [] ys t u first later =
    subst (λ (d : Day). AreRowsDone right d ys c (t ++ u)) first.0 (subst (λ (v : List ℕ). AreRowsDone right b ys c (v ++ u)) (sym first.1) later)
rows-more right a b c (x ∷ xs) ys t u first later = (
  first.0,
  first.1,
  first.2 ++ u,
  first.3,
  rows-more right first.0 b c xs ys first.2 u first.4 later,
  ap (λ (v : List ℕ). v ++ u) first.5
      ∙ append-assoc first.1 first.2 u,
)

pub rows-joined : (ps qs : List (List ℕ)) → rows_of (ps ++ qs) ≡ rows_of ps ++ rows_of qs
rows-joined [] qs = refl
rows-joined (p ∷ ps) qs = ap (λ (r : List (Option Row)). rows_of_line (line_of p) ++ r) (rows-joined ps qs)
    ∙ sym (append-assoc (rows_of_line (line_of p)) (rows_of ps) (rows_of qs))

pub rows-of-one : (p : List ℕ) → rows_of (p ∷ []) ≡ rows_of_line (line_of p)
rows-of-one p = append-nil (rows_of_line (line_of p))

-- the rows of one more line
pub line-more : (right : Right) (a b c : Day) (ps : List (List ℕ)) (p : List ℕ) (t u : List ℕ) → AreRowsDone right a (rows_of ps) b t
    → AreRowsDone right b (rows_of_line (line_of p)) c u → AreRowsDone right a (rows_of (ps ++ p ∷ [])) c (t ++ u)
line-more right a b c ps p t u first later =
    subst (λ (r : List (Option Row)). AreRowsDone right a r c (t ++ u))
    (sym (rows-joined ps (p ∷ []) ∙ ap (λ (r : List (Option Row)). rows_of ps ++ r) (rows-of-one p)))
    (rows-more right a b c (rows_of ps) (rows_of_line (line_of p)) t u first later)

-- ---- the rows of a line

pub short-rows : (line : List ℕ) → length line ≤ 4096 → rows_of_line line ≡ rows_of_short line
short-rows line short =
    ap (λ (b : Bool). cond {A = List (Option Row)} b (None ∷ []) (rows_of_short line))
    (false_from_ne_true (ltb line_limit (length line)) (λ k. let more = ltb-true line_limit (length line) k in omega (arith, more, short)))

pub some-bytes : (line : List ℕ) (none_yet : Bool) → none_yet ≡ eqb (length line) 0 → none_yet ≡ false → line ≡ [] → ⊥
some-bytes line none_yet is some none = true≢false (sym (is ∙ ap (λ (l : List ℕ). eqb (length l) 0) none) ∙ some)

-- what a row of some bytes did
pub short-row-done : (right : Right) (old new : Day) (line text : List ℕ) → (line ≡ [] → ⊥)
    → IsRowDone right old (row_of_line line) new [] text → AreRowsDone right old (rows_of_short line) new text
short-row-done right old new [] text full done = absurd (full refl)
short-row-done right old new (b ∷ line) text full done = one-row right old (row_of_line (b ∷ line)) new text done

pub long-rows : (line : List ℕ) → line_limit < length line → rows_of_line line ≡ None ∷ []
long-rows line long = ap (λ (b : Bool). cond {A = List (Option Row)} b (None ∷ []) (rows_of_short line)) (lt-ltb line_limit (length line) long)

-- ---- a row that is refused for its length

-- what would be printed, and is not
pub no_plan : Stated
no_plan = record { plan = []; cost = 0; bound = 0 }

pub long-row-done : (right : Right) (old new : Day) (text : List ℕ) → new ≡ day_after_refused old → text ≡ refused_text (row_number old) NoRow
    → AreRowsDone right old (None ∷ []) new text
long-row-done right old new text day log =
    one-row right old None new text (no_plan, [], record { day = day; text = log; right_plan = tt })
