-- One tour more.
use Rattle.std.proofs.Common.{◌≡◌, ℕ, ◌+◌, ◌-◌, ◌<◌, List, [], ◌∷◌, ◌++◌, length, get_or, drop, map, filter, Bool, true, false, not, refl, sym, ap, ◌∙◌, subst}
use Rattle.std.proofs.Common.{inl, inr, arith, length-append, length-drop}
use Rattle.std.specs.List.{All, AllPairs, remove}
use Rattle.std.proofs.lemmas.Bool.{cases_Bool}
use Rattle.std.proofs.lemmas.List.{drop-map, get_or-drop, length-map, map-append}
use Rattle.std.proofs.lemmas.List.Elements.{All-filter, All-push, All-drop, filter_passes}
use Rattle.std.proofs.lemmas.List.Kept.{AllPairs-filter}
use Rattle.std.proofs.lemmas.List.Quantifiers.{all_pairs_push}
use Rattle.elevator_model.specs.declared.Stop.{Stop}
use Rattle.elevator_model.specs.Snapshot.{Snapshot}
use Rattle.restricted_master.specs.declared.columns.Column.{Column}
use Rattle.restricted_master.specs.Columns.{newest, same_tour, tours_of, with_tour, with_column, IsColumn, AreDistinct}

-- the newest n of a list with one more at its end
pub newest_room : {X : Type 0} (xs : List X) (x : X) → length xs < 32 → newest 32 (xs ++ x ∷ []) ≡ xs ++ x ∷ []
newest_room xs x lt =
    let long = length-append xs (x ∷ []) in
    let none : length (xs ++ x ∷ []) - 32 ≡ 0 = omega (arith, long, lt) in
    ap (λ (n : ℕ). drop n (xs ++ x ∷ [])) none

pub newest_full : {X : Type 0} (xs : List X) (x : X) → length xs ≡ 32 → newest 32 (xs ++ x ∷ []) ≡ remove xs 0 ++ x ∷ []
newest_full [] x e = absurd (omega (arith, e))
newest_full (y ∷ xs) x e =
    let long = length-append (y ∷ xs) (x ∷ []) in
    let one : length (y ∷ xs ++ x ∷ []) - 32 ≡ 1 = omega (arith, long, e) in
    ap (λ (n : ℕ). drop n (y ∷ xs ++ x ∷ [])) one

filter-map : {X Y : Type 0} (f : X → Y) (p : Y → Bool) (xs : List X) → filter p (map f xs) ≡ map f (filter (λ (x : X). p (f x)) xs)
filter-map f p [] = refl
filter-map f p (x ∷ xs) =
    elim (cases_Bool (p (f x))) [ inl e ↦ rw (e, filter-map f p xs) refl | inr e ↦ rw (e, filter-map f p xs) refl ]

-- the tours of the columns with one more
pub tours-with_column : (columns : List Column) (x : Column) → tours_of (with_column columns x) ≡ with_tour (tours_of columns) x.tour
tours-with_column columns x =
    let f : Column → List Stop = λ (y : Column). y.tour in
    let others = filter (λ (other : Column). not (same_tour other.tour x.tour)) columns in
    let kept = sym (filter-map f (λ (other : List Stop). not (same_tour other x.tour)) columns) in
    let joined : map f (others ++ x ∷ []) ≡ filter (λ (other : List Stop). not (same_tour other x.tour)) (map f columns) ++ x.tour ∷ [] =
    map-append f others (x ∷ []) ∙ ap (λ (l : List (List Stop)). l ++ x.tour ∷ []) kept
    in
    sym (drop-map f (length (others ++ x ∷ []) - 32) (others ++ x ∷ []))
    ∙ ap (λ (n : ℕ). drop (n - 32) (map f (others ++ x ∷ []))) (sym (length-map (others ++ x ∷ []) f)) ∙ ap (newest 32) joined

pub columns-with_column : (s : Snapshot) (c : ℕ) (columns : List Column) (x : Column) → All (IsColumn s c) columns → IsColumn s c x
    → All (IsColumn s c) (with_column columns x)
columns-with_column s c columns x all one =
    let p : Column → Bool = λ (other : Column). not (same_tour other.tour x.tour) in
    All-drop (IsColumn s c) (length (filter p columns ++ x ∷ []) - 32) (filter p columns ++ x ∷ [])
    (All-push (IsColumn s c) (filter p columns) x (All-filter p (IsColumn s c) columns all) one)

not_true : (b : Bool) → not b ≡ true → b ≡ false
not_true false h = refl
not_true true h = cc

all_pairs-drop : {X : Type 0} (R : X → X → Type 0) (n : ℕ) (xs : List X) → AllPairs R xs → AllPairs R (drop n xs)
all_pairs-drop R n xs all = λ i j d up lt.
    let long = length-drop n xs in
    subst (R (get_or (drop n xs) i d)) (sym (get_or-drop n xs j d))
    (subst (λ y. R y (get_or xs (n + j) d)) (sym (get_or-drop n xs i d)) (all (n + i) (n + j) d (omega (arith, up)) (omega (arith, lt, long))))

pub distinct-with_column : (columns : List Column) (x : Column) → AreDistinct columns → AreDistinct (with_column columns x)
distinct-with_column columns x all =
    let R : Column → Column → Type 0 = λ (y z : Column). same_tour y.tour z.tour ≡ false in
    let p : Column → Bool = λ (other : Column). not (same_tour other.tour x.tour) in
    let others = filter p columns in
    all_pairs-drop R (length (others ++ x ∷ []) - 32) (others ++ x ∷ [])
    (all_pairs_push R others x (AllPairs-filter R p columns all) (λ k d lt. not_true _ (filter_passes p columns k d lt)))
