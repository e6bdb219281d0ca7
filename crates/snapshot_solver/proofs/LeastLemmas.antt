-- The least of numbers that pass a test.
use Rattle.std.proofs.Common.{◌≡◌, ℕ, zero, suc, ◌+◌, ◌<◌, ◌≤◌, Bool, true, false, refl, sym, ap, ◌∙◌, subst, add-one, inl, inr, arith, Option, Some, None}
use Rattle.std.specs.Prelude.{unwrap_or}
use Rattle.std.proofs.lemmas.Bool.{cases_Bool, cases_eq, cond-true, cond-false, false_from_ne_true}
use Rattle.search_model.specs.Sums.{least_where, lesser_of}

-- there is a number, and it is at most this one
abbrev pub IsAtMost : Option ℕ → ℕ → Type 0
IsAtMost None y = ⊥
IsAtMost (Some x) y = x ≤ y

lesser-new : (o : Option ℕ) (y : ℕ) → lesser_of o y ≤ y
lesser-new None y = omega arith
lesser-new (Some x) y = omega arith

lesser-old : (o : Option ℕ) (y z : ℕ) → IsAtMost o z → lesser_of o y ≤ z
lesser-old None y z h = absurd h
lesser-old (Some x) y z h = omega (arith, h)

pub at_most-number : (o : Option ℕ) (y : ℕ) → IsAtMost o y → unwrap_or o 0 ≤ y
at_most-number None y h = absurd h
at_most-number (Some x) y h = h

-- the least is at most each of them
pub least_where-at_most : (n : ℕ) (t : ℕ → Bool) (f : ℕ → ℕ) (k : ℕ) → k < n → t k ≡ true → IsAtMost (least_where n t f) (f k)
least_where-at_most zero t f k lt e = absurd (omega arith)
least_where-at_most (suc n) t f k lt e =
    elim (cases_eq k n) [
      | inl same ↦ subst (λ (o : Option ℕ). IsAtMost o (f k))
          (sym (cond-true (t n) (Some (lesser_of (least_where n t f) (f n))) (least_where n t f) (subst (λ (i : ℕ). t i ≡ true) same e)))
          (subst (λ (i : ℕ). lesser_of (least_where n t f) (f n) ≤ f i) (sym same) (lesser-new (least_where n t f) (f n)))
      | inr ne ↦ (let before = least_where-at_most n t f k (omega arith) e in elim (cases_Bool (t n)) [
        | inl here ↦ subst (λ (o : Option ℕ). IsAtMost o (f k)) (sym (cond-true (t n) (Some (lesser_of (least_where n t f) (f n))) (least_where n t f) here))
            (lesser-old (least_where n t f) (f n) (f k) before)
        | inr not_here ↦
            subst (λ (o : Option ℕ). IsAtMost o (f k)) (sym (cond-false (t n) (Some (lesser_of (least_where n t f) (f n))) (least_where n t f) not_here)) before
      ])
    ]

least_where-none : (n : ℕ) (t : ℕ → Bool) (f : ℕ → ℕ) → ((k : ℕ) → k < n → t k ≡ false) → least_where n t f ≡ None
least_where-none zero t f none = refl
least_where-none (suc n) t f none =
    cond-false (t n) (Some (lesser_of (least_where n t f) (f n))) (least_where n t f) (none n (omega arith))
    ∙ least_where-none n t f (λ k lt. none k (omega arith))

-- of one number that passes it is that one's
pub least_where-only : (n : ℕ) (t : ℕ → Bool) (f : ℕ → ℕ) (c : ℕ) → c < n → t c ≡ true → ((k : ℕ) → k < n → t k ≡ true → k ≡ c) → least_where n t f ≡ Some (f c)
least_where-only zero t f c lt e only = absurd (omega arith)
least_where-only (suc n) t f c lt e only =
    elim (cases_eq c n) [
      | inl same ↦ (let none =
          least_where-none n t f (λ k b. false_from_ne_true (t k) (λ here. let at = only k (omega arith) here in absurd (omega (arith, at, same, b)))) in
          subst (λ (i : ℕ). least_where (suc n) t f ≡ Some (f i)) (sym same)
          (cond-true (t n) (Some (lesser_of (least_where n t f) (f n))) (least_where n t f) (subst (λ (i : ℕ). t i ≡ true) same e)
          ∙ ap (λ (o : Option ℕ). Some (lesser_of o (f n))) none))
      | inr ne ↦ cond-false (t n) (Some (lesser_of (least_where n t f) (f n))) (least_where n t f)
          (false_from_ne_true (t n) (λ here. ne (sym (only n (omega arith) here)))) ∙ least_where-only n t f c (omega arith) e (λ k b. only k (omega arith))
    ]

-- ---- one number more

pub least-taken : (n : ℕ) (t : ℕ → Bool) (f : ℕ → ℕ) (least : Option ℕ) → least ≡ least_where n t f → t n ≡ true
    → Some (lesser_of least (f n)) ≡ least_where (n + 1) t f
least-taken n t f least so_far here =
    ap (λ (o : Option ℕ). Some (lesser_of o (f n))) so_far ∙ sym (cond-true (t n) (Some (lesser_of (least_where n t f) (f n))) (least_where n t f) here)
    ∙ ap (λ (m : ℕ). least_where m t f) (sym (add-one n))

pub least-skipped : (n : ℕ) (t : ℕ → Bool) (f : ℕ → ℕ) (least : Option ℕ) → least ≡ least_where n t f → t n ≡ false → least ≡ least_where (n + 1) t f
least-skipped n t f least so_far here =
    so_far ∙ sym (cond-false (t n) (Some (lesser_of (least_where n t f) (f n))) (least_where n t f) here) ∙ ap (λ (m : ℕ). least_where m t f) (sym (add-one n))

-- a lesser of two is no more than what bounds both
pub lesser-within : (o : Option ℕ) (y most : ℕ) → unwrap_or o 0 ≤ most → y ≤ most → lesser_of o y ≤ most
lesser-within None y most h b = b
lesser-within (Some x) y most h b = omega (arith, h, b)
