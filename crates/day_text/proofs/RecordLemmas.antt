-- Fields without the spaces at their ends, and their numbers.
use Rattle.std.proofs.Common.{◌≡◌, ℕ, zero, suc, ◌+◌, ◌<◌, Bool, cond, ◌&&◌, eqb, List, [], ◌∷◌, ◌++◌, length, get_or, take, drop, refl, ap, ◌∙◌, arith}
use Rattle.std.proofs.lemmas.Bool.{eqb-true, eq-eqb, false_from_ne_true}
use Rattle.std.proofs.lemmas.List.{take_more, length-take-le}
use Rattle.day_text.specs.Records.{without_spaces_before, end_of_field}

-- behind the spaces at its beginning the field says the same
pub space-skipped : (field : List ℕ) (k : ℕ) → k < length field → get_or field k 0 ≡ 32
    → without_spaces_before (drop k field) ≡ without_spaces_before (drop (suc k) field)
unfolding without_spaces_before
space-skipped [] k below is = absurd (omega (arith, below))
space-skipped (b ∷ rest) zero below is = ap (λ (x : Bool). cond {A = List ℕ} x (without_spaces_before rest) (b ∷ rest)) (eq-eqb b 32 is)
space-skipped (b ∷ rest) (suc k) below is = space-skipped rest k (omega (arith, below)) is

pub text-begins : (field : List ℕ) (k : ℕ) → k < length field → (get_or field k 0 ≡ 32 → ⊥) → without_spaces_before (drop k field) ≡ drop k field
unfolding without_spaces_before
text-begins [] k below is = absurd (omega (arith, below))
text-begins (b ∷ rest) zero below is =
    ap (λ (x : Bool). cond {A = List ℕ} x (without_spaces_before rest) (b ∷ rest)) (false_from_ne_true (eqb b 32) (λ h. is (eqb-true b 32 h)))
text-begins (b ∷ rest) (suc k) below is = text-begins rest k (omega (arith, below)) is

-- a space at the end counts for nothing
end-more : (field : List ℕ) (b : ℕ) → b ≡ 32 → end_of_field (field ++ b ∷ []) ≡ end_of_field field
unfolding end_of_field
end-more [] b is = ap (λ (x : Bool). cond {A = ℕ} x 0 1) (eq-eqb b 32 is)
end-more (c ∷ rest) b is = ap (λ (n : ℕ). cond {A = ℕ} (eqb n 0 && eqb c 32) 0 (n + 1)) (end-more rest b is)

-- and the field ends behind the last byte that is no space
end-here : (field : List ℕ) (b : ℕ) → (b ≡ 32 → ⊥) → end_of_field (field ++ b ∷ []) ≡ length field + 1
unfolding end_of_field
end-here [] b is = ap (λ (x : Bool). cond {A = ℕ} x 0 1) (false_from_ne_true (eqb b 32) (λ h. is (eqb-true b 32 h)))
end-here (c ∷ rest) b is =
    let later = end-here rest b is in
    ap (λ (n : ℕ). cond {A = ℕ} (eqb n 0 && eqb c 32) 0 (n + 1)) later ∙ some (length rest) (eqb c 32)
  where
    some : (n : ℕ) (x : Bool) → cond {A = ℕ} (eqb (n + 1) 0 && x) 0 (n + 1 + 1) ≡ suc n + 1
    some n x = ap (λ (y : Bool). cond {A = ℕ} (y && x) 0 (n + 1 + 1))
        (false_from_ne_true (eqb (n + 1) 0) (λ h. let e = eqb-true (n + 1) 0 h in omega (arith, e))) ∙ omega arith

-- over the first bytes of a field
pub end-skipped : (field : List ℕ) (k : ℕ) → k < length field → get_or field k 0 ≡ 32 → end_of_field (take (k + 1) field) ≡ end_of_field (take k field)
end-skipped field k below is = ap end_of_field (take_more field k 0 below) ∙ end-more (take k field) (get_or field k 0) is

pub end-found : (field : List ℕ) (k : ℕ) → k < length field → (get_or field k 0 ≡ 32 → ⊥) → end_of_field (take (k + 1) field) ≡ k + 1
end-found field k below is = ap end_of_field (take_more field k 0 below) ∙ end-here (take k field) (get_or field k 0) is
    ∙ ap (λ (n : ℕ). n + 1) (length-take-le k field (omega (arith, below)))

pub none-left : without_spaces_before [] ≡ []
unfolding without_spaces_before
none-left = refl

pub end-none : end_of_field [] ≡ 0
unfolding end_of_field
end-none = refl
