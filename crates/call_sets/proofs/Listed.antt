-- The set of the numbers of a list.
use Rattle.std.proofs.Common.{◌≡◌, ℕ, ◌<◌, ◌≤◌, Bool, true, false, ◌&&◌, ltb, List, refl, ◌∙◌, inl, inr, arith}
use Rattle.std.proofs.lemmas.Bool.{cases_lt}
use Rattle.std.proofs.lemmas.Bool.Decides.{nat_tests}
use Rattle.call_sets.specs.Counting.{has, is_among}

-- the set has the numbers of the list that are below 128
abbrev pub HasListed : (set : ℕ) → List ℕ → Type 0
HasListed set xs = (k : ℕ) → has set k ≡ (ltb k 128 && is_among k xs)

pub listed-below : (xs : List ℕ) (set : ℕ) → HasListed set xs → (j : ℕ) → j < 128 → has set j ≡ is_among j xs
listed-below xs set listed j below = listed j ∙ in_range (is_among j xs)
  where
    in_range : (b : Bool) → (ltb j 128 && b) ≡ b
    in_range b = grind (arith, nat_tests)

-- where each number of the list is below 128
pub listed-all : (xs : List ℕ) (set : ℕ) → HasListed set xs → ((j : ℕ) → is_among j xs ≡ true → j < 128) → (j : ℕ) → has set j ≡ is_among j xs
listed-all xs set listed small j =
    elim (cases_lt j 128) [ inl lt ↦ listed-below xs set listed j lt | inr ge ↦ listed j ∙ none (is_among j xs) ge (small j) ]
  where
    none : (b : Bool) → 128 ≤ j → (b ≡ true → j < 128) → (ltb j 128 && b) ≡ b
    none true ge h = absurd (let lt = h refl in omega (arith, ge, lt))
    none false ge h = grind (arith, nat_tests)
