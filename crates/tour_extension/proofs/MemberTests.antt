-- Tests of the members of a set, one after another.
use Rattle.std.proofs.Common.{◌==◌, ◌≡◌, ℕ, zero, suc, ◌+◌, ◌<◌, ◌≤◌, Bool, true, false, cond, ◌&&◌, ◌||◌, List, [], ◌∷◌, filter, refl, sym, ap, ◌∙◌, inl, inr}
use Rattle.std.proofs.Common.{arith}
use Rattle.std.specs.List.{list_any, range_with_len}
use Rattle.std.proofs.lemmas.Bool.{eq-eqb, and_parts, and_from, or_cases, or_left, or_right, cases_Bool, false≢true}
use Rattle.std.proofs.Math.Nat.{eq-or-lt_of_le}
use Rattle.call_sets.specs.Counting.{has, members, any_below, is_among}
use Rattle.call_sets.proofs.BelowTests.{any_below-at, any_below-true}
use Rattle.partial_tours.proofs.Next.{same_bool}

-- a number of the list that passes the test
some_first : (p t : ℕ → Bool) (a : ℕ) (xs : List ℕ) → (list_any t xs ≡ true → (k : ℕ) × ((p k && t k) ≡ true)) → list_any t (cond (p a) (a ∷ xs) xs) ≡ true
    → (k : ℕ) × ((p k && t k) ≡ true)
some_first p t a xs later h =
    elim (cases_Bool (p a)) [
      | inl e ↦ elim (or_cases (t a) (list_any t xs) (sym (ap (λ (b : Bool). list_any t (cond b (a ∷ xs) xs)) e) ∙ h)) [
        | inl here ↦ (a, and_from (p a) (t a) e here)
        | inr rest ↦ later rest
      ]
      | inr e ↦ later (sym (ap (λ (b : Bool). list_any t (cond b (a ∷ xs) xs)) e) ∙ h)
    ]

some_in : (p t : ℕ → Bool) (a m : ℕ) → list_any t (filter p (range_with_len a m)) ≡ true → (k : ℕ) × ((p k && t k) ≡ true)
some_in p t a zero h = absurd (false≢true h)
some_in p t a (suc m) h = some_first p t a (filter p (range_with_len (a + 1) m)) (some_in p t (a + 1) m) h

-- one that passes is in the list
in_some : (p t : ℕ → Bool) (a m k : ℕ) → a ≤ k → k < a + m → p k ≡ true → t k ≡ true → list_any t (filter p (range_with_len a m)) ≡ true
in_some p t a zero k low high on ok = absurd (omega arith)
in_some p t a (suc m) k low high on ok =
    elim (eq-or-lt_of_le low) [
      | inl e ↦ ap (λ (b : Bool). list_any t (cond b (a ∷ rest) rest)) (ap p e ∙ on) ∙ or_left (t a) (list_any t rest) (ap t e ∙ ok)
      | inr lt ↦ skip (p a) (in_some p t (a + 1) m k (omega arith) (omega arith) on ok)
    ]
  where
    rest : List ℕ
    rest = filter p (range_with_len (a + 1) m)

    skip : (b : Bool) → list_any t rest ≡ true → list_any t (cond b (a ∷ rest) rest) ≡ true
    skip true h = or_right (t a) (list_any t rest) h
    skip false h = h

-- each member is in the list
pub among : (bound set k : ℕ) → k < bound → has set k ≡ true → is_among k (members bound set) ≡ true
unfolding members
among bound set k lt on = in_some (has set) (λ j. j == k) 0 bound k (omega arith) (omega (arith, lt)) on (eq-eqb k k refl)

pub members_any : (bound set n : ℕ) (t : ℕ → Bool) → n ≤ bound → ((k : ℕ) → has set k ≡ true → k < n)
    → any_below n (λ k. has set k && t k) ≡ list_any t (members bound set)
unfolding members
members_any bound set n t le below =
    same_bool _ _ (λ h. let r = any_below-true n (λ k. has set k && t k) h in let parts = and_parts (has set r.0) (t r.0) r.2 in let lt = r.1 in
    in_some (has set) t 0 bound r.0 (omega arith) (omega (arith, lt, le)) parts.0 parts.1)
    (λ h. let r = some_in (has set) t 0 bound h in any_below-at n (λ k. has set k && t k) r.0 (below r.0 (and_parts (has set r.0) (t r.0) r.1).0) r.1)

-- the first member passes, or fails and the rest decides
pub first_passes : (t : ℕ → Bool) (any : Bool) (one : ℕ) (left rest : List ℕ) → any ≡ list_any t left → left ≡ one ∷ rest → t one ≡ true → true ≡ any
first_passes t any one left rest told is ok = sym (told ∙ ap (list_any t) is ∙ or_left (t one) (list_any t rest) ok)

pub first_fails : (t : ℕ → Bool) (any : Bool) (one : ℕ) (left rest : List ℕ) → any ≡ list_any t left → left ≡ one ∷ rest → t one ≡ false → any ≡ list_any t rest
first_fails t any one left rest told is fails = told ∙ ap (list_any t) is ∙ ap (λ (b : Bool). b || list_any t rest) fails

pub none_passes : (t : ℕ → Bool) (any : Bool) (left : List ℕ) → any ≡ list_any t left → left ≡ [] → false ≡ any
none_passes t any left told is = sym (told ∙ ap (list_any t) is)
