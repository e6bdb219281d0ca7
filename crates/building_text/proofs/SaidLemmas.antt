-- Steps of which each has to be right.
use Rattle.std.proofs.Common.{◌≡◌, ℕ, suc, ◌-◌, ◌≤◌, List, [], ◌∷◌, length, drop, Ok, Err, ap, refl, ◌∙◌, length-drop, IfOk, subst}
use Rattle.std.specs.List.{AllByRecursion}
use Rattle.lift_text.specs.Numbers.{digits_number}
use Rattle.text_sections.specs.Judging.{Judged, ◌>>=◌}
use Rattle.text_sections.specs.Words.{within}
use Rattle.text_sections.specs.NumberLists.{numbers_of, numbers}
use Rattle.text_sections.proofs.NumberLemmas.{is_within}
use Rattle.text_sections.proofs.StepLemmas.{then-inv}

-- ---- several numbers

pub numbers_of-length : (low high : ℕ) (words : List (List ℕ)) (ns : List ℕ) → numbers_of low high words ≡ Ok ns → length ns ≡ length words
numbers_of-length low high [] ns is = let e : ns ≡ [] = cc in ap length e
numbers_of-length low high (word ∷ words) ns is =
    let first = then-inv (within low high (digits_number word)) (λ n. numbers_of low high words >>= λ ms. Ok (n ∷ ms)) ns is in
    let later = then-inv (numbers_of low high words) (λ ms. Ok (first.0 ∷ ms)) ns first.2 in
    let same : Ok (first.0 ∷ later.0) ≡ Ok ns = later.2 in
    let e : ns ≡ first.0 ∷ later.0 = cc in
    ap length e ∙ ap suc (numbers_of-length low high words later.0 later.1)

pub numbers-length : (words : List (List ℕ)) (from low high : ℕ) (ns : List ℕ) → numbers words from low high ≡ Ok ns → length ns ≡ length words - from
numbers-length words from low high ns is = numbers_of-length low high (drop from words) ns is ∙ length-drop from words

abbrev pub IsFrom : ℕ → ℕ → ℕ → Type 0
IsFrom low high n = (low ≤ n) × (n ≤ high)

pub in_range : (low high n : ℕ) (value : Judged ℕ) → IfOk value (λ m. (low ≤ m) × (m ≤ high)) → value ≡ Ok n → IsFrom low high n
in_range low high n (Ok m) within is = let same : m ≡ n = cc in subst (IsFrom low high) same within
in_range low high n (Err code) within is = absurd cc

pub numbers_of-within : (low high : ℕ) (words : List (List ℕ)) (ns : List ℕ) → numbers_of low high words ≡ Ok ns → AllByRecursion (IsFrom low high) ns
numbers_of-within low high [] ns is = let e : [] ≡ ns = cc in subst (AllByRecursion (IsFrom low high)) e tt
numbers_of-within low high (word ∷ words) ns is =
    let first = then-inv (within low high (digits_number word)) (λ n. numbers_of low high words >>= λ ms. Ok (n ∷ ms)) ns is in
    let later = then-inv (numbers_of low high words) (λ ms. Ok (first.0 ∷ ms)) ns first.2 in
    let same : Ok (first.0 ∷ later.0) ≡ Ok ns = later.2 in
    let e : first.0 ∷ later.0 ≡ ns = cc in
    subst (AllByRecursion (IsFrom low high)) e (
      in_range low high first.0 (within low high (digits_number word)) (is_within low high (digits_number word)) first.1,
      numbers_of-within low high words later.0 later.1,
    )
