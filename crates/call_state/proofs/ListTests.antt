-- Tests of the elements of a list, by their places.
use Rattle.std.proofs.Common.{◌≡◌, ℕ, suc, ◌<◌, Bool, true, false, List, [], ◌∷◌, length, get_or, take, sym, ◌∙◌, ap, refl, arith}
use Rattle.std.specs.List.{list_any}
use Rattle.std.proofs.lemmas.Bool.{false≢true, or_from}
use Rattle.std.proofs.lemmas.List.{get_or-take, length-take-le}
use Rattle.std.proofs.lemmas.List.Folds.{list_any_at}

pub list_any_false : {X : Type 0} (p : X → Bool) (xs : List X) (d : X) → ((k : ℕ) → k < length xs → p (get_or xs k d) ≡ false) → list_any p xs ≡ false
list_any_false p [] d fails = refl
list_any_false p (x ∷ xs) d fails = or_from (p x) (list_any p xs) (fails 0 (omega arith)) (list_any_false p xs d (λ k within. fails (suc k) (omega arith)))

-- where no element passes, each fails
pub list_any_at_false : {X : Type 0} (p : X → Bool) (xs : List X) (d : X) (k : ℕ) → list_any p xs ≡ false → k < length xs → p (get_or xs k d) ≡ false
list_any_at_false p xs d k none within = by (p (get_or xs k d)) refl
  where
    by : (b : Bool) → p (get_or xs k d) ≡ b → b ≡ false
    by false is = refl
    by true is = absurd (false≢true (sym none ∙ list_any_at p xs k d within is))

-- the same of the elements before a place
pub fails_before : {X : Type 0} (p : X → Bool) (xs : List X) (d : X) (i k : ℕ) → list_any p (take i xs) ≡ false → k < i → i < length xs
    → p (get_or xs k d) ≡ false
fails_before p xs d i k none before within =
    ap p (sym (get_or-take i xs k d before)) ∙ list_any_at_false p (take i xs) d k none (let long = length-take-le i xs (omega arith) in omega arith)

pub none_before : {X : Type 0} (p : X → Bool) (xs : List X) (d : X) (i : ℕ) → i < length xs → ((k : ℕ) → k < i → p (get_or xs k d) ≡ false)
    → list_any p (take i xs) ≡ false
none_before p xs d i within fails =
    list_any_false p (take i xs) d
    (λ k inside. let long = length-take-le i xs (omega arith) in let before : k < i = omega arith in ap p (get_or-take i xs k d before) ∙ fails k before)
