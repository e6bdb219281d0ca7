-- Lists of sets, one set longer and read at a place.
use Rattle.std.proofs.Common.{◌≡◌, ℕ, ◌+◌, ◌<◌, ◌≤◌, Bool, List, [], ◌∷◌, ◌++◌, length, get_or, sym, ap, ◌∙◌, inl, inr, arith, length-append}
use Rattle.std.proofs.lemmas.List.{get_or_append_left, get_or_push, get_or_default}
use Rattle.std.proofs.Math.Nat.{eq-or-lt_of_le}
use Rattle.call_sets.specs.Counting.{has}
use Rattle.car_layout.specs.Tables.{IsTable}

pub table_none : (test : ℕ → ℕ → Bool) (sets : List ℕ) → sets ≡ [] → IsTable 0 test sets
table_none test sets e = record { size_is = ap length e; each = λ k j lt. absurd (omega arith) }

pub table_more : (n : ℕ) (test : ℕ → ℕ → Bool) (sets new : List ℕ) (set : ℕ) → IsTable n test sets → new ≡ sets ++ set ∷ [] → ((j : ℕ) → has set j ≡ test n j)
    → IsTable (n + 1) test new
table_more n test sets new set t is here =
    let one = length-append sets (set ∷ []) in
    let all = ap length is in
    let old = t.size_is in
    record {
      size_is = omega (arith, one, all, old);
      each = λ k j lt. elim (eq-or-lt_of_le (at_most k lt)) [
        | inl e ↦ ap (λ (xs : List ℕ). has (get_or xs k 0) j) is ∙ ap (λ (x : ℕ). has x j) (last k e) ∙ here j ∙ ap (λ (x : ℕ). test x j) (sym e)
        | inr less ↦ ap (λ (xs : List ℕ). has (get_or xs k 0) j) is
            ∙ ap (λ (x : ℕ). has x j) (get_or_append_left sets (set ∷ []) 0 k (omega (arith, old, less))) ∙ t.each k j less
      ];
    }
  where
    at_most : (k : ℕ) → k < n + 1 → k ≤ n
    at_most k lt = omega (arith, lt)

    last : (k : ℕ) → k ≡ n → get_or (sets ++ set ∷ []) k 0 ≡ set
    last k e =
        let size = t.size_is in
        get_or_push sets set 0 k (omega (arith, e, size))

pub table_at : (size : ℕ) (test : ℕ → ℕ → Bool) (sets : List ℕ) (k j set : ℕ) → IsTable size test sets → k < size → set ≡ get_or sets k set
    → has set j ≡ test k j
table_at size test sets k j set t lt is =
    let n = t.size_is in
    ap (λ (x : ℕ). has x j) (is ∙ get_or_default sets k set 0 (omega (arith, n, lt))) ∙ t.each k j lt
