-- The numbers that pass a test, in order: the number of each among them. Sums along lists without repeats.
use Rattle.std.proofs.Common.{◌==◌, ◌≡◌, ℕ, zero, suc, ◌+◌, ◌-◌, ◌*◌, ◌<◌, ◌≤◌, Bool, true, false, cond, eqb, List, [], ◌∷◌, ◌++◌, length, get_or, All, refl}
use Rattle.std.proofs.Common.{sym, ap, ◌∙◌, subst, inl, inr, arith, length-append, append-nil}
use Rattle.std.proofs.lemmas.List.Concat.{flat_map-append}
use Rattle.std.proofs.lemmas.List.Elements.{filter-append, All-head, All-tail}
use Rattle.std.specs.List.{count_by, filter, range_with_len, flat_map, sum_by}
use Rattle.std.proofs.lemmas.Bool.{cases_lt}
use Rattle.std.proofs.lemmas.List.{get_or_append_left, get_or-append_right}
use Rattle.std.proofs.Math.Nat.{eq-or-lt_of_le}
use Rattle.std.proofs.lemmas.List.Sums.{sum_by-cons}
use Rattle.call_sets.specs.Counting.{sum_below, sum_where}
use Rattle.call_sets.proofs.Sums.{sum_below-le, sum_below-same, sum_below-zero, sum_below-add, sum_where-one}
use Rattle.tour_rules.proofs.Rising.{count-cons, count-append}

-- the numbers below n that pass
abbrev pub passing : (ℕ → Bool) → ℕ → List ℕ
passing t n = filter t (range_with_len 0 n)

-- how many pass below a number
abbrev pub rank : (ℕ → Bool) → ℕ → ℕ
rank t j = sum_where j t (λ _. 1)

pub range-more : (a n : ℕ) → range_with_len a (suc n) ≡ range_with_len a n ++ (a + n) ∷ []
range-more a zero = let e : a ≡ a + 0 = omega arith in ap (λ (x : ℕ). x ∷ []) e
range-more a (suc n) =
    let e : a + 1 + n ≡ a + suc n = omega arith in
    ap (λ (xs : List ℕ). a ∷ xs) (range-more (a + 1) n) ∙ ap (λ (x : ℕ). a ∷ (range_with_len (a + 1) n ++ x ∷ [])) e

pub passing-more : (t : ℕ → Bool) (n : ℕ) → passing t (suc n) ≡ passing t n ++ cond (t n) (n ∷ []) []
passing-more t n =
    let e : 0 + n ≡ n = omega arith in
    ap (filter t) (range-more 0 n) ∙ filter-append t (range_with_len 0 n) ((0 + n) ∷ []) ∙ ap (λ (x : ℕ). passing t n ++ cond (t x) (x ∷ []) []) e

length-cond : (b : Bool) (x : ℕ) → length (cond b (x ∷ []) []) ≡ cond b 1 0
length-cond true x = refl
length-cond false x = refl

pub length-passing : (t : ℕ → Bool) (n : ℕ) → length (passing t n) ≡ rank t n
length-passing t zero = refl
length-passing t (suc n) =
    let joined = length-append (passing t n) (cond (t n) (n ∷ []) []) in
    let last = length-cond (t n) n in
    let before = length-passing t n in
    let e : length (passing t n) + length (cond (t n) (n ∷ []) []) ≡ rank t n + cond (t n) 1 0 = omega (arith, last, before) in
    ap length (passing-more t n) ∙ joined ∙ e

-- the number at a place is the one before which this many pass
pub record IsPassing (t : ℕ → Bool) (n j x : ℕ) : Type 0 where
  pub below : x < n
  pub passes : t x ≡ true
  pub rank : rank t x ≡ j

last-passing : (t : ℕ → Bool) (n j : ℕ) (b : Bool) → t n ≡ b → length (passing t n) ≤ j → j < length (passing t n) + cond b 1 0 → (t n ≡ true)
    × (j ≡ length (passing t n))
last-passing t n j true e low high = (e, omega arith)
last-passing t n j false e low high = absurd (omega arith)

at-end : (t : ℕ → Bool) (n j : ℕ) → t n ≡ true → j ≡ length (passing t n) → get_or (passing t (suc n)) j 0 ≡ n
at-end t n j h e =
    let at_last = get_or-append_right (passing t n) (n ∷ []) (length (passing t n)) j 0 refl (omega arith) in
    let none : j - length (passing t n) ≡ 0 = omega arith in
    ap (λ (xs : List ℕ). get_or xs j 0) (passing-more t n ∙ ap (λ (b : Bool). passing t n ++ cond b (n ∷ []) []) h) ∙ at_last
    ∙ ap (λ (i : ℕ). get_or (n ∷ []) i 0) none

at-front : (t : ℕ → Bool) (n j : ℕ) → j < length (passing t n) → get_or (passing t (suc n)) j 0 ≡ get_or (passing t n) j 0
at-front t n j below = ap (λ (xs : List ℕ). get_or xs j 0) (passing-more t n) ∙ get_or_append_left (passing t n) (cond (t n) (n ∷ []) []) 0 j below

length-more : (t : ℕ → Bool) (n : ℕ) → length (passing t (suc n)) ≡ length (passing t n) + cond (t n) 1 0
length-more t n =
    let all = length-passing t (suc n) in
    let before = length-passing t n in
    let step : rank t (suc n) ≡ rank t n + cond (t n) 1 0 = refl in
    omega (arith, all, before, step)

pub at-passing : (t : ℕ → Bool) (n j : ℕ) → j < length (passing t n) → IsPassing t n j (get_or (passing t n) j 0)
at-passing t zero j below = absurd (omega arith)
at-passing t (suc n) j below =
    elim (cases_lt j (length (passing t n))) [
      | inl front ↦ (let r = at-passing t n j front in let b = r.below in let same = at-front t n j front in
          subst (IsPassing t (suc n) j) (sym same) (record { below = omega arith; passes = r.passes; rank = r.rank }))
      | inr past ↦ (let more = length-more t n in let last = last-passing t n j (t n) refl past (omega (arith, below, more)) in
          subst (IsPassing t (suc n) j) (sym (at-end t n j last.0 last.1))
          (record { below = omega arith; passes = last.0; rank = sym (length-passing t n) ∙ sym last.1 }))
    ]

-- and each that passes is found at its place
pub record IsRanked (t : ℕ → Bool) (n k : ℕ) : Type 0 where
  pub below : rank t k < length (passing t n)
  pub there : get_or (passing t n) (rank t k) 0 ≡ k

pub rank-passing : (t : ℕ → Bool) (n k : ℕ) → k < n → t k ≡ true → IsRanked t n k
rank-passing t zero k below h = absurd (omega arith)
rank-passing t (suc n) k below h =
    let le : k ≤ n = omega arith in
    elim (eq-or-lt_of_le le) [
      | inl e ↦ subst (IsRanked t (suc n)) (sym e)
          (record {
            below = (let all = length-more t n in let size = length-passing t n in
                let here = ap {B = ℕ} (λ (b : Bool). cond b 1 0) (subst (λ (x : ℕ). t x ≡ true) e h) in omega (arith, all, size, here));
            there =
                at-end t n (rank t n) (subst (λ (x : ℕ). t x ≡ true) e h) (sym (length-passing t n));
          })
      | inr lt ↦ (let r = rank-passing t n k lt h in let b = r.below in
          record { below = (let all = length-more t n in omega (arith, all, b)); there = at-front t n (rank t k) r.below ∙ r.there })
    ]

-- ---- sums

-- the sum along a list, by how often each number stands in it
sum-counted : (g : ℕ → ℕ) (n : ℕ) (xs : List ℕ) → All (λ x. x < n) xs → sum_by g xs ≡ sum_below n (λ r. count_by (λ x. x == r) xs * g r)
sum-counted g n [] below = sym (sum_below-same n (λ r. count_by (λ x. x == r) [] * g r) (λ r. 0) (λ r b. omega arith) ∙ sum_below-zero n)
sum-counted g n (x ∷ xs) below =
    let one = sum_where-one n g x (All-head (λ y. y < n) x xs below) in
    let rest = sum-counted g n xs (All-tail (λ y. y < n) x xs below) in
    let both = sum_below-add n (λ r. cond (eqb x r) (g r) 0) (λ r. count_by (λ y. y == r) xs * g r) in
    let each = sum_below-same n (λ r. count_by (λ y. y == r) (x ∷ xs) * g r) (λ r. cond (eqb x r) (g r) 0 + count_by (λ y. y == r) xs * g r)
    (λ r b. split r (eqb x r) (count-cons r x xs)) in
    let first = sum-cons in
    omega (arith, first, one, rest, both, each)
  where
    sum-cons : sum_by g (x ∷ xs) ≡ g x + sum_by g xs
    sum-cons = sum_by-cons g x xs

    split : (r : ℕ) (b : Bool) → count_by (λ y. y == r) (x ∷ xs) ≡ cond b 1 0 + count_by (λ y. y == r) xs
        → count_by (λ y. y == r) (x ∷ xs) * g r ≡ cond b (g r) 0 + count_by (λ y. y == r) xs * g r
    split r true e = ap (λ (m : ℕ). m * g r) e ∙ omega arith
    split r false e = ap (λ (m : ℕ). m * g r) e ∙ omega arith

once-times : (m x : ℕ) → m ≤ 1 → m * x ≤ x
once-times zero x le = omega arith
once-times (suc zero) x le = omega arith
once-times (suc (suc m)) x le = absurd (omega arith)

-- where each stands there once at most, the sum along it is one of numbers below the bound
pub sum-once : (g : ℕ → ℕ) (n : ℕ) (xs : List ℕ) → All (λ x. x < n) xs → ((r : ℕ) → count_by (λ x. x == r) xs ≤ 1) → sum_by g xs ≤ sum_below n g
sum-once g n xs below once =
    let all = sum-counted g n xs below in
    let le = sum_below-le n (λ r. count_by (λ x. x == r) xs * g r) g (λ r b. once-times (count_by (λ x. x == r) xs) (g r) (once r)) in
    omega (arith, all, le)

-- how often a number stands in lists one after another
pub count-ranges : (f : ℕ → List ℕ) (n r : ℕ) → count_by (λ x. x == r) (flat_map f (range_with_len 0 n)) ≡ sum_below n (λ c. count_by (λ x. x == r) (f c))
count-ranges f zero r = refl
count-ranges f (suc n) r =
    let e : 0 + n ≡ n = omega arith in
    let joined = ap (flat_map f) (range-more 0 n) ∙ flat_map-append f (range_with_len 0 n) ((0 + n) ∷ [])
    ∙ ap (λ (x : ℕ). flat_map f (range_with_len 0 n) ++ flat_map f (x ∷ [])) e
    ∙ ap (λ (ys : List ℕ). flat_map f (range_with_len 0 n) ++ ys) (flat-one (f n)) in
    ap (count_by (λ x. x == r)) joined ∙ count-append r (flat_map f (range_with_len 0 n)) (f n)
    ∙ ap (λ (m : ℕ). m + count_by (λ x. x == r) (f n)) (count-ranges f n r)
  where
    flat-one : (ys : List ℕ) → ys ++ [] ≡ ys
    flat-one ys = append-nil ys

-- at most one is not 0
pub one-at-most : (n : ℕ) (f : ℕ → ℕ) → ((c : ℕ) → c < n → f c ≤ 1) → ((c d : ℕ) → c < d → d < n → 1 ≤ f c → 1 ≤ f d → ⊥) → sum_below n f ≤ 1
one-at-most zero f le apart = omega arith
one-at-most (suc n) f le apart =
    let before = one-at-most n f (λ c b. le c (omega arith)) (λ c d low high. apart c d low (omega arith)) in
    let last = le n (omega arith) in
    elim (cases_lt (f n) 1) [
      | inl none ↦ omega (arith, before, none)
      | inr some ↦ (let zero_before = sum_below-same n f (λ c. 0) (λ c b. nothing (f c) (λ h. apart c n b (omega arith) h some)) ∙ sum_below-zero n in
          omega (arith, zero_before, last))
    ]
  where
    nothing : (x : ℕ) → (1 ≤ x → ⊥) → x ≡ 0
    nothing zero h = refl
    nothing (suc x) h = absurd (h (omega arith))
