-- Tests of the elements of a list.
use Rattle.std.proofs.Common.{◌≡◌, ℕ, Bool, true, false, ◌||◌, eqb, List, [], ◌∷◌, ◌++◌, refl, subst, inl, inr, arith}
use Rattle.std.specs.List.{list_any}
use Rattle.std.proofs.lemmas.Bool.{or_parts, or_from, or_cases, or_left, or_right, false≢true, eqb-true, eq-eqb}
use Rattle.call_sets.specs.Counting.{is_among}

pub list_any-at : {X : Type 0} (p : X → Bool) (xs ys : List X) (x : X) → p x ≡ true → list_any p (xs ++ x ∷ ys) ≡ true
list_any-at p [] ys x h = or_left (p x) (list_any p ys) h
list_any-at p (w ∷ xs) ys x h = or_right (p w) (list_any p (xs ++ x ∷ ys)) (list_any-at p xs ys x h)

pub list_any-append : {X : Type 0} (p : X → Bool) (xs ys : List X) → list_any p (xs ++ ys) ≡ (list_any p xs || list_any p ys)
list_any-append p [] ys = refl
list_any-append p (x ∷ xs) ys = grind (arith, list_any-append p xs ys)

-- what fails on the list fails at each of its numbers
pub list_any-false : (p : ℕ → Bool) (xs : List ℕ) (j : ℕ) → list_any p xs ≡ false → is_among j xs ≡ true → p j ≡ false
list_any-false p [] j none among = absurd (false≢true among)
list_any-false p (x ∷ xs) j none among =
    let parts = or_parts (p x) (list_any p xs) none in
    elim (or_cases (eqb x j) (is_among j xs) among) [
      | inl e ↦ subst (λ (y : ℕ). p y ≡ false) (eqb-true x j e) parts.0
      | inr e ↦ list_any-false p xs j parts.1 e
    ]

pub list_any-none : (p : ℕ → Bool) (xs : List ℕ) → ((j : ℕ) → is_among j xs ≡ true → p j ≡ false) → list_any p xs ≡ false
list_any-none p [] h = refl
list_any-none p (x ∷ xs) h =
    or_from (p x) (list_any p xs) (h x (or_left (eqb x x) (is_among x xs) (eq-eqb x x refl)))
    (list_any-none p xs (λ j e. h j (or_right (eqb x j) (is_among j xs) e)))
