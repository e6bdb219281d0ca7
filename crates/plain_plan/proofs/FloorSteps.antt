-- One more floor of a list of floors.
use Rattle.std.proofs.Common.{◌∙◌, ◌≡◌, ◌+◌, ◌-◌, ◌<◌, ◌++◌, ◌∷◌, [], ℕ, suc, Bool, true, false, cond, List, append_assoc, length, sym, ap, arith}
use Rattle.std.proofs.lemmas.List.{append-nil}
use Rattle.plain_plan.specs.Openings.{rising, falling, or_else}

-- a floor that passes the test, and then the others
choice : (b : Bool) (xs rest : List ℕ) (a : ℕ) → (xs ++ cond b (a ∷ []) []) ++ rest ≡ xs ++ cond b (a ∷ rest) rest
choice true xs rest a = append_assoc xs (a ∷ []) rest
choice false xs rest a = ap (λ (l : List ℕ). l ++ rest) (append-nil xs)

pub rising_step : (t : ℕ → Bool) (a top : ℕ) (xs : List ℕ) → a < top
    → (xs ++ cond (t a) (a ∷ []) []) ++ rising t (a + 1) (top - (a + 1)) ≡ xs ++ rising t a (top - a)
rising_step t a top xs lt =
    let rest = rising t (a + 1) (top - (a + 1)) in
    let e : top - a ≡ suc (top - (a + 1)) = omega arith in
    choice (t a) xs rest a ∙ ap (λ (l : List ℕ). xs ++ l) (sym (ap (rising t a) e))

pub falling_step : (t : ℕ → Bool) (n : ℕ) (xs : List ℕ) → 0 < n → (xs ++ cond (t (n - 1)) ((n - 1) ∷ []) []) ++ falling t (n - 1) ≡ xs ++ falling t n
falling_step t n xs lt =
    let rest = falling t (n - 1) in
    let e : n ≡ suc (n - 1) = omega arith in
    choice (t (n - 1)) xs rest (n - 1) ∙ ap (λ (l : List ℕ). xs ++ l) (sym (ap (falling t) e))

-- a floor is added where there is none
pub else_added : (xs ys : List ℕ) (o : ℕ) → xs ≡ ys → length xs ≡ 0 → xs ++ o ∷ [] ≡ or_else ys (o ∷ [])
else_added xs [] o e none = ap (λ (l : List ℕ). l ++ o ∷ []) e
else_added xs (y ∷ ys) o e none = absurd (let some = ap length e in omega (arith, some, none))

pub else_kept : (xs ys others : List ℕ) → xs ≡ ys → (length xs ≡ 0 → ⊥) → xs ≡ or_else ys others
else_kept xs [] others e some = absurd (some (ap length e))
else_kept xs (y ∷ ys) others e some = e
