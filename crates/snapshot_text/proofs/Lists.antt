-- Lists of the cars that lines name, and of items that were judged.
use Rattle.std.proofs.Common.{◌≡◌, ◌≢◌, ℕ, ◌+◌, ◌<◌, ◌==◌, Bool, cond, List, [], ◌∷◌, ◌++◌, length, map, take, get_or, refl, sym, ap, ◌∙◌, subst, arith, Option}
use Rattle.std.proofs.Common.{None, append_assoc, append-nil, inl, inr}
use Rattle.std.specs.Prelude.{count_by, if◌then◌else◌}
use Rattle.std.proofs.lemmas.Bool.{eq-eqb, cases_lt, cases_eq}
use Rattle.std.proofs.lemmas.List.{length-map, length_push, get_or_push, get_or_append_left, take-append-le, take_at}
use Rattle.std.proofs.lemmas.List.Sums.{sum_by-append}
use Rattle.elevator_model.specs.declared.Fault.{Fault}
use Rattle.text_sections.specs.Sections.{Line}

-- how often a car is among the places
abbrev pub times_in : ℕ → List ℕ → ℕ
times_in c places = count_by (λ place. place == c) places

pub times-push : (c : ℕ) (places : List ℕ) (place : ℕ) → times_in c (places ++ place ∷ []) ≡ times_in c places + (if place == c then 1 else 0)
times-push c places place = let both = sum_by-append (λ (x : ℕ). cond (x == c) 1 0) places (place ∷ []) in omega (arith, both)

pub times-first : (c place : ℕ) (places : List ℕ) → times_in c (place ∷ places) ≡ (if place == c then 1 else 0) + times_in c places
times-first c place places = let both = sum_by-append (λ (x : ℕ). cond (x == c) 1 0) (place ∷ []) places in omega (arith, both)

first_none : (a b : ℕ) → a + b ≡ 0 → a ≡ 0
first_none a b e = omega arith

later_none : (a b : ℕ) → a + b ≡ 0 → b ≡ 0
later_none a b e = omega arith

one_not_none : (n : ℕ) → n ≡ 1 → n ≡ 0 → ⊥
one_not_none n one none = omega arith

-- what holds at one number, and at the others
pub at_each : (c : ℕ) (P : ℕ → Type 0) → P c → ((k : ℕ) → k ≢ c → P k) → (k : ℕ) → P k
at_each c P here other k = elim (cases_eq k c) [ inl same ↦ subst P (sym same) here | inr differs ↦ other k differs ]

-- values of the places other than one that is not among them
pub map-without : {X : Type 0} (f g : ℕ → X) (c : ℕ) (places : List ℕ) → times_in c places ≡ 0 → ((k : ℕ) → k ≢ c → f k ≡ g k) → map f places ≡ map g places
map-without f g c [] none same = refl
map-without {X} f g c (place ∷ places) none same =
    let parts = times-first c place places in
    let first : cond (place == c) 1 0 ≡ 0 = first_none _ _ (sym parts ∙ none) in
    let differs : place ≢ c = λ is. one_not_none (cond (place == c) 1 0) (ap (λ (e : Bool). cond e 1 0) (eq-eqb place c is)) first in
    let later : times_in c places ≡ 0 = later_none _ _ (sym parts ∙ none) in
    ap (λ (x : X). x ∷ map f places) (same place differs) ∙ ap (λ (xs : List X). g place ∷ xs) (map-without f g c places later same)

pub nil_of : {X : Type 0} (xs : List X) → length xs ≡ 0 → xs ≡ []
nil_of [] e = refl
nil_of (x ∷ xs) e = absurd (omega (arith, e))

-- two lists of which the same is said are as long
pub said_long : {X Y Z : Type 0} (f : X → Z) (g : Y → Z) (xs : List X) (ys : List Y) → map f xs ≡ map g ys → length xs ≡ length ys
said_long f g xs ys e = sym (length-map xs f) ∙ ap length e ∙ length-map ys g

-- ---- items judged one after the other

module _ {X : Type 0} (fault_of : List X → X → Option Fault) (d : X) where
  abbrev pub AreClear : List X → Type 0
  AreClear xs = (k : ℕ) → k < length xs → fault_of (take k xs) (get_or xs k d) ≡ None

  pub clear-push : (xs : List X) (x : X) → AreClear xs → fault_of xs x ≡ None → AreClear (xs ++ x ∷ [])
  clear-push xs x clear here k below =
      elim (cases_lt k (length xs)) [
        | inl before ↦
            ap (λ (ys : List X). fault_of ys (get_or (xs ++ x ∷ []) k d)) (take-append-le k xs (x ∷ []) (omega arith))
            ∙ ap (λ (y : X). fault_of (take k xs) y) (get_or_append_left xs (x ∷ []) d k before) ∙ clear k before
        | inr after ↦
            let last : length xs ≡ k = omega (arith, length_push xs x) in
            ap (λ (ys : List X). fault_of ys (get_or (xs ++ x ∷ []) k d)) (take_at xs (x ∷ []) k last)
            ∙ ap (λ (y : X). fault_of xs y) (get_or_push xs x d k last) ∙ here
      ]

pub each-push : {X : Type 0} (P : X → Type 0) (d : X) (xs : List X) (x : X) → ((k : ℕ) → k < length xs → P (get_or xs k d)) → P x → (k : ℕ)
    → k < length (xs ++ x ∷ []) → P (get_or (xs ++ x ∷ []) k d)
each-push P d xs x each here k below =
    elim (cases_lt k (length xs)) [
      | inl before ↦ subst P (sym (get_or_append_left xs (x ∷ []) d k before)) (each k before)
      | inr after ↦ subst P (sym (get_or_push xs x d k (omega (arith, length_push xs x)))) here
    ]

-- ---- one more line among the lines of cars, groups and calls

pub line_of_car : (cars groups calls items : List Line) (words : Line) → items ≡ cars ++ groups ++ calls → length groups ≡ 0 → length calls ≡ 0
    → items ++ words ∷ [] ≡ (cars ++ words ∷ []) ++ groups ++ calls
line_of_car cars [] [] items words e none empty = ap (λ (ls : List Line). ls ++ words ∷ []) (e ∙ append-nil (cars ++ []) ∙ append-nil cars)
    ∙ sym (append-nil ((cars ++ words ∷ []) ++ []) ∙ append-nil (cars ++ words ∷ []))
line_of_car cars [] (x ∷ calls) items words e none empty = absurd (omega (arith, empty))
line_of_car cars (x ∷ groups) calls items words e none empty = absurd (omega (arith, none))

pub line_of_group : (cars groups calls items : List Line) (words : Line) → items ≡ cars ++ groups ++ calls → length calls ≡ 0
    → items ++ words ∷ [] ≡ cars ++ (groups ++ words ∷ []) ++ calls
line_of_group cars groups [] items words e empty = ap (λ (ls : List Line). ls ++ words ∷ []) (e ∙ append-nil (cars ++ groups))
    ∙ append_assoc cars groups (words ∷ []) ∙ sym (append-nil (cars ++ (groups ++ words ∷ [])))
line_of_group cars groups (x ∷ calls) items words e empty = absurd (omega (arith, empty))

pub line_of_call : (cars groups calls items : List Line) (words : Line) → items ≡ cars ++ groups ++ calls
    → items ++ words ∷ [] ≡ cars ++ groups ++ (calls ++ words ∷ [])
line_of_call cars groups calls items words e = ap (λ (ls : List Line). ls ++ words ∷ []) e ∙ append_assoc (cars ++ groups) calls (words ∷ [])
