-- The earliest call and the nearest rider that pass a test.
use Rattle.std.proofs.Common.{◌≡◌, ℕ, zero, suc, ◌<◌, ◌≤◌, Bool, true, false, ◌&&◌, sym, ap, subst, inl, inr, arith}
use Rattle.std.proofs.lemmas.Bool.{or_cases, and_parts, and_from, cases_Bool, cases_lt, false≢true, both_ways, false_from_ne_true}
use Rattle.std.proofs.Math.Nat.{eq-or-lt_of_le}
use Rattle.elevator_model.specs.declared.Call.{Call}
use Rattle.call_sets.specs.Counting.{any_below}
use Rattle.call_sets.proofs.BelowTests.{any_below-at}
use Rattle.elevator_model.specs.Tours.{is_later}
use Rattle.tour_extension.proofs.Queues.{later_trans, not_later_itself}

-- ---- the earliest call that passes

pub record IsEarliest (f : ℕ → Call) (n : ℕ) (t : ℕ → Bool) (j : ℕ) : Type 0 where
  pub below : j < n
  pub passes : t j ≡ true
  pub first : (i : ℕ) → i < n → t i ≡ true → is_later (f j) (f i) ≡ false

pub earliest : (f : ℕ → Call) (n : ℕ) (t : ℕ → Bool) → any_below n t ≡ true → (j : ℕ) × IsEarliest f n t j
earliest f zero t h = absurd (false≢true h)
earliest f (suc n) t h = elim (cases_Bool (any_below n t)) [ inl e ↦ with_rest (earliest f n t e) | inr e ↦ (n, alone e) ]
  where
    here : any_below n t ≡ false → t n ≡ true
    here none = elim (or_cases (any_below n t) (t n) h) [ inl e ↦ absurd (both_ways _ none e) | inr e ↦ e ]

    alone : any_below n t ≡ false → IsEarliest f (suc n) t n
    alone none = record {
      below = omega arith;
      passes = here none;
      first = λ i lt e. elim (eq-or-lt_of_le (le_of i lt)) [
        | inl same ↦ subst (λ (x : ℕ). is_later (f n) (f x) ≡ false) (sym same) (not_later_itself (f n))
        | inr less ↦ absurd (both_ways _ none (any_below-at n t i less e))
      ];
    }
      where
        le_of : (i : ℕ) → i < suc n → i ≤ n
        le_of i lt = omega arith

    kept : (j : ℕ) → IsEarliest f n t j → (t n && is_later (f j) (f n)) ≡ false → IsEarliest f (suc n) t j
    kept j r stays = record {
      below = (let lt = r.below in omega arith);
      passes = r.passes;
      first = λ i lt e. elim (eq-or-lt_of_le (le_of i lt)) [
        | inl same ↦ false_from_ne_true _
            (λ later. both_ways _ stays
            (and_from (t n) (is_later (f j) (f n)) (subst (λ (x : ℕ). t x ≡ true) same e) (subst (λ (x : ℕ). is_later (f j) (f x) ≡ true) same later)))
        | inr less ↦ r.first i less e
      ];
    }
      where
        le_of : (i : ℕ) → i < suc n → i ≤ n
        le_of i lt = omega arith

    newer : (j : ℕ) → IsEarliest f n t j → t n ≡ true → is_later (f j) (f n) ≡ true → IsEarliest f (suc n) t n
    newer j r passes before = record {
      below = omega arith;
      passes = passes;
      first = λ i lt e. elim (eq-or-lt_of_le (le_of i lt)) [
        | inl same ↦ subst (λ (x : ℕ). is_later (f n) (f x) ≡ false) (sym same) (not_later_itself (f n))
        | inr less ↦ false_from_ne_true _ (λ later. both_ways _ (r.first i less e) (later_trans (f j) (f n) (f i) before later))
      ];
    }
      where
        le_of : (i : ℕ) → i < suc n → i ≤ n
        le_of i lt = omega arith

    with_rest : (j : ℕ) × IsEarliest f n t j → (j : ℕ) × IsEarliest f (suc n) t j
    with_rest r =
        elim (cases_Bool (t n && is_later (f r.0) (f n))) [
          | inl e ↦ (let parts = and_parts (t n) _ e in (n, newer r.0 r.1 parts.0 parts.1))
          | inr e ↦ (r.0, kept r.0 r.1 e)
        ]

-- ---- the least number that passes, by a measure

pub record IsNearest (m : ℕ → ℕ) (n : ℕ) (t : ℕ → Bool) (r : ℕ) : Type 0 where
  pub below : r < n
  pub passes : t r ≡ true
  pub nearest : (i : ℕ) → i < n → t i ≡ true → m r ≤ m i

pub nearest : (m : ℕ → ℕ) (n : ℕ) (t : ℕ → Bool) → any_below n t ≡ true → (r : ℕ) × IsNearest m n t r
nearest m zero t h = absurd (false≢true h)
nearest m (suc n) t h = elim (cases_Bool (t n)) [
  | inl here ↦ elim (cases_Bool (any_below n t)) [ inl e ↦ with_both here (nearest m n t e) | inr e ↦ (n, alone here e) ]
  | inr gone ↦ kept gone (nearest m n t (before gone))
]
  where
    le_of : (i : ℕ) → i < suc n → i ≤ n
    le_of i lt = omega arith

    before : t n ≡ false → any_below n t ≡ true
    before gone = elim (or_cases (any_below n t) (t n) h) [ inl e ↦ e | inr e ↦ absurd (both_ways _ gone e) ]

    at_n : (i : ℕ) → i ≡ n → m n ≤ m i
    at_n i same = let e = ap m same in omega (arith, e)

    alone : t n ≡ true → any_below n t ≡ false → IsNearest m (suc n) t n
    alone here none = record {
      below = omega arith;
      passes = here;
      nearest = λ i lt e. elim (eq-or-lt_of_le (le_of i lt)) [
        | inl same ↦ at_n i same
        | inr less ↦ absurd (both_ways _ none (any_below-at n t i less e))
      ];
    }

    kept : t n ≡ false → (r : ℕ) × IsNearest m n t r → (r : ℕ) × IsNearest m (suc n) t r
    kept gone r = (
      r.0,
      record {
        below = (let lt = r.1.below in omega arith);
        passes = r.1.passes;
        nearest = λ i lt e. elim (eq-or-lt_of_le (le_of i lt)) [
          | inl same ↦ absurd (both_ways _ gone (subst (λ (x : ℕ). t x ≡ true) same e))
          | inr less ↦ r.1.nearest i less e
        ];
      },
    )

    with_both : t n ≡ true → (r : ℕ) × IsNearest m n t r → (r : ℕ) × IsNearest m (suc n) t r
    with_both here r =
        elim (cases_lt (m n) (m r.0)) [
          | inl less ↦ (
            n,
            record {
              below = omega arith;
              passes = here;
              nearest = λ i lt e. elim (eq-or-lt_of_le (le_of i lt)) [
                | inl same ↦ at_n i same
                | inr lower ↦ (let le = r.1.nearest i lower e in omega arith)
              ];
            },
          )
          | inr more ↦ (
            r.0,
            record {
              below = (let lt = r.1.below in omega arith);
              passes = r.1.passes;
              nearest = λ i lt e. elim (eq-or-lt_of_le (le_of i lt)) [
                | inl same ↦ (let k = at_n i same in omega arith)
                | inr lower ↦ r.1.nearest i lower e
              ];
            },
          )
        ]
