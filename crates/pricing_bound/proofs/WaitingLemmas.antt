-- What a set of calls that wait adds to a bound, call by call.
use Rattle.std.proofs.Common.{◌≡◌, ◌==◌, ℕ, zero, suc, ◌+◌, ◌-◌, ◌*◌, ◌^◌, ◌<◌, ◌≤◌, Bool, true, false, cond, ◌||◌, List, [], ◌∷◌, length, filter, refl, sym}
use Rattle.std.proofs.Common.{ap, ◌∙◌, subst, inl, inr, arith}
use Rattle.std.specs.Prelude.{ℤ, pos, neg_ℤ, ◌+ℤ◌, ◌≤ℤ◌, int_lt}
use Rattle.std.specs.List.{range_with_len}
use Rattle.std.proofs.lemmas.Int.{ints}
use Rattle.std.proofs.lemmas.Bool.{false≢true, both_ways, or_left, or_right, eqb-true, eq-eqb, false_from_ne_true}
use Rattle.std.proofs.Math.Nat.{eq-or-lt_of_le}
use Rattle.call_sets.specs.Counting.{has, members, is_among}
use Rattle.search_model.specs.Sums.{int_sum_below, int_sum_where, int_sum_by}
use Rattle.search_model.proofs.SumLemmas.{int_sum-same, int_sum-zero}
use Rattle.partial_tours.proofs.Departing.{AreBelow, members_below, below_rest}

-- ---- sums over the members of a set

int_split : (n m : ℕ) (f : ℕ → ℤ) → int_sum_below (n + m) f ≡ int_sum_below n f +ℤ int_sum_below m (λ k. f (n + k))
int_split n zero f =
    let same = ap (λ (k : ℕ). int_sum_below k f) (none_more n) in
    omega (arith, ints, same)
  where
    none_more : (n : ℕ) → n + 0 ≡ n
    none_more n = omega arith
int_split n (suc m) f =
    let same = ap (λ (k : ℕ). int_sum_below k f) (one_more n m) in
    let rest = int_split n m f in
    omega (arith, ints, same, rest)
  where
    one_more : (n m : ℕ) → n + suc m ≡ suc (n + m)
    one_more n m = omega arith

int_front : (n : ℕ) (g : ℕ → ℤ) → int_sum_below (suc n) g ≡ g 0 +ℤ int_sum_below n (λ k. g (1 + k))
int_front n g =
    let split = ap (λ (m : ℕ). int_sum_below m g) (one_more n) ∙ int_split 1 n g in
    let first = only g in
    omega (arith, ints, split, first)
  where
    one_more : (n : ℕ) → suc n ≡ 1 + n
    one_more n = omega arith

    only : (g : ℕ → ℤ) → int_sum_below 1 g ≡ g 0
    only g = let e : int_sum_below (suc 0) g ≡ pos 0 +ℤ g 0 = refl in omega (arith, ints, e)

int_filter : (p : ℕ → Bool) (f : ℕ → ℤ) (a n : ℕ) → int_sum_by f (filter p (range_with_len a n)) ≡ int_sum_below n (λ k. cond (p (a + k)) (f (a + k)) (pos 0))
int_filter p f a zero = refl
int_filter p f a (suc n) =
    let rest = int_filter p f (a + 1) n in
    let front = int_front n (λ k. cond (p (a + k)) (f (a + k)) (pos 0)) in
    let here = ap (λ (k : ℕ). cond (p k) (f k) (pos 0)) (none_more a) in
    let same = int_sum-same n (λ k. cond (p (a + 1 + k)) (f (a + 1 + k)) (pos 0)) (λ k. cond (p (a + (1 + k))) (f (a + (1 + k))) (pos 0))
    (λ k lt. ap (λ (i : ℕ). cond (p i) (f i) (pos 0)) (later a k)) in
    let taken = by_test (p a) (filter p (range_with_len (a + 1) n)) in
    omega (arith, ints, rest, front, here, same, taken)
  where
    none_more : (a : ℕ) → a + 0 ≡ a
    none_more a = omega arith

    later : (a k : ℕ) → a + 1 + k ≡ a + (1 + k)
    later a k = omega arith

    by_test : (b : Bool) (xs : List ℕ) → int_sum_by f (cond b (a ∷ xs) xs) ≡ cond b (f a) (pos 0) +ℤ int_sum_by f xs
    by_test true xs = refl
    by_test false xs = omega (arith, ints)

int_members : (bound set n : ℕ) (f : ℕ → ℤ) → n ≤ bound → ((k : ℕ) → has set k ≡ true → k < n) → int_sum_by f (members bound set) ≡ int_sum_where n (has set) f
unfolding members
int_members bound set n f le below =
    let all = int_filter (has set) f 0 bound in
    let from_zero = int_sum-same bound (λ k. cond (has set (0 + k)) (f (0 + k)) (pos 0)) (λ k. cond (has set k) (f k) (pos 0))
    (λ k lt. ap (λ (i : ℕ). cond (has set i) (f i) (pos 0)) (zero_more k)) in
    let split = ap (λ (m : ℕ). int_sum_below m (λ k. cond (has set k) (f k) (pos 0))) (rest_of n bound le)
    ∙ int_split n (bound - n) (λ k. cond (has set k) (f k) (pos 0)) in
    let none = int_sum-same (bound - n) (λ k. cond (has set (n + k)) (f (n + k)) (pos 0)) (λ _. pos 0)
    (λ k lt. ap (λ (b : Bool). cond b (f (n + k)) (pos 0))
    (false_from_ne_true (has set (n + k)) (λ e. let high = below (n + k) e in omega (arith, high)))) in
    let nothing = int_sum-zero (bound - n) in
    omega (arith, ints, all, from_zero, split, none, nothing)
  where
    zero_more : (k : ℕ) → 0 + k ≡ k
    zero_more k = omega arith

    rest_of : (n bound : ℕ) → n ≤ bound → bound ≡ n + (bound - n)
    rest_of n bound le = omega (arith, le)

filter_few : (p : ℕ → Bool) (a n : ℕ) → length (filter p (range_with_len a n)) ≤ n
filter_few p a zero = omega arith
filter_few p a (suc n) =
    let rest = filter_few p (a + 1) n in
    by_test (p a) (filter p (range_with_len (a + 1) n)) rest
  where
    by_test : (b : Bool) (xs : List ℕ) → length xs ≤ n → length (cond b (a ∷ xs) xs) ≤ suc n
    by_test true xs few = omega (arith, few)
    by_test false xs few = omega (arith, few)

pub members_few : (bound set : ℕ) → length (members bound set) ≤ bound
unfolding members
members_few bound set = filter_few (has set) 0 bound

-- each of the list passes the test
abbrev pub AllPass : (ℕ → Bool) → List ℕ → Type 0
AllPass p [] = Unit {0}
AllPass p (k ∷ ks) = (p k ≡ true) × AllPass p ks

filter_passes : (p : ℕ → Bool) (a n : ℕ) → AllPass p (filter p (range_with_len a n))
filter_passes p a zero = tt
filter_passes p a (suc n) = by_test (p a) refl (filter p (range_with_len (a + 1) n)) (filter_passes p (a + 1) n)
  where
    by_test : (b : Bool) → p a ≡ b → (xs : List ℕ) → AllPass p xs → AllPass p (cond b (a ∷ xs) xs)
    by_test true e xs rest = (e, rest)
    by_test false e xs rest = rest

pub members_pass : (bound set : ℕ) → AllPass (has set) (members bound set)
unfolding members
members_pass bound set = filter_passes (has set) 0 bound

pub passes_first : (p : ℕ → Bool) (left rest : List ℕ) (one : ℕ) → AllPass p left → left ≡ one ∷ rest → (p one ≡ true) × AllPass p rest
passes_first p left rest one all is = subst (AllPass p) is all

-- members are among those of the list
among_filter : (p : ℕ → Bool) (j a n : ℕ) → a ≤ j → j < a + n → p j ≡ true → is_among j (filter p (range_with_len a n)) ≡ true
among_filter p j a zero le less e = absurd (omega (arith, le, less))
among_filter p j a (suc n) le less e = by_place (a == j) refl (λ next. among_filter p j (a + 1) n next (omega (arith, less)) e)
  where
    taken : (b : Bool) (xs : List ℕ) → is_among j xs ≡ true → is_among j (cond b (a ∷ xs) xs) ≡ true
    taken true xs h = or_right (a == j) (is_among j xs) h
    taken false xs h = h

    next : (a == j) ≡ false → a + 1 ≤ j
    next ne = let apart : (a ≡ j → ⊥) = λ s. both_ways (a == j) ne (eq-eqb a j s) in later apart
      where
        later : (a ≡ j → ⊥) → a + 1 ≤ j
        later apart = elim (eq-or-lt_of_le le) [ inl s ↦ absurd (apart s) | inr lt ↦ omega (arith, lt) ]

    by_place : (v : Bool) → (a == j) ≡ v → (a + 1 ≤ j → is_among j (filter p (range_with_len (a + 1) n)) ≡ true)
        → is_among j (filter p (range_with_len a (suc n))) ≡ true
    by_place true at rest =
        let here : p a ≡ true = ap p (eqb-true a j at) ∙ e in
        ap (λ (b : Bool). is_among j (cond b (a ∷ filter p (range_with_len (a + 1) n)) (filter p (range_with_len (a + 1) n)))) here
        ∙ or_left (a == j) (is_among j (filter p (range_with_len (a + 1) n))) at
    by_place false at rest = taken (p a) (filter p (range_with_len (a + 1) n)) (rest (next at))

pub among : (bound set j : ℕ) → j < bound → has set j ≡ true → is_among j (members bound set) ≡ true
unfolding members
among bound set j lt e = among_filter (has set) j 0 bound (omega arith) (omega (arith, lt)) e

-- none is there twice
abbrev pub AreOnce : List ℕ → Type 0
AreOnce [] = Unit {0}
AreOnce (k ∷ ks) = (is_among k ks ≡ false) × AreOnce ks

among_from : (p : ℕ → Bool) (j a n : ℕ) → is_among j (filter p (range_with_len a n)) ≡ true → (a ≤ j) × (p j ≡ true)
among_from p j a zero e = absurd (false≢true e)
among_from p j a (suc n) e = by_test (p a) refl (λ h. let rest = among_from p j (a + 1) n h in (let le = rest.0 in omega (arith, le), rest.1)) e
  where
    by_place : (v : Bool) → (a == j) ≡ v → p a ≡ true → (is_among j (filter p (range_with_len (a + 1) n)) ≡ true → (a ≤ j) × (p j ≡ true))
        → ((a == j) || is_among j (filter p (range_with_len (a + 1) n))) ≡ true → (a ≤ j) × (p j ≡ true)
    by_place true at h later k = (let same = eqb-true a j at in omega (arith, same), sym (ap p (eqb-true a j at)) ∙ h)
    by_place false at h later k = later (sym (ap (λ (b : Bool). b || is_among j (filter p (range_with_len (a + 1) n))) at) ∙ k)

    by_test : (v : Bool) → p a ≡ v → (is_among j (filter p (range_with_len (a + 1) n)) ≡ true → (a ≤ j) × (p j ≡ true))
        → is_among j (cond v (a ∷ filter p (range_with_len (a + 1) n)) (filter p (range_with_len (a + 1) n))) ≡ true → (a ≤ j) × (p j ≡ true)
    by_test true h later k = by_place (a == j) refl h later k
    by_test false h later k = later k

filter_once : (p : ℕ → Bool) (a n : ℕ) → AreOnce (filter p (range_with_len a n))
filter_once p a zero = tt
filter_once p a (suc n) = by_test (p a) (filter_once p (a + 1) n)
  where
    by_test : (v : Bool) → AreOnce (filter p (range_with_len (a + 1) n))
        → AreOnce (cond v (a ∷ filter p (range_with_len (a + 1) n)) (filter p (range_with_len (a + 1) n)))
    by_test true rest =
        (false_from_ne_true (is_among a (filter p (range_with_len (a + 1) n))) (λ e. let le = (among_from p a (a + 1) n e).0 in omega (arith, le)), rest)
    by_test false rest = rest

pub members_once : (bound set : ℕ) → AreOnce (members bound set)
unfolding members
members_once bound set = filter_once (has set) 0 bound

pub among_has : (bound set j : ℕ) → is_among j (members bound set) ≡ true → has set j ≡ true
unfolding members
among_has bound set j e = (among_from (has set) j 0 bound e).1

pub counted_adds : (r : Bool) (t : ℤ) → (r || int_lt t (pos 0)) ≡ true → cond r t (cond (int_lt t (pos 0)) t (pos 0)) ≡ t
counted_adds true t h = refl
counted_adds false t h = ap (λ (b : Bool). cond b t (pos 0)) h

pub dropped_adds : (r : Bool) (t : ℤ) → (r || int_lt t (pos 0)) ≡ false → cond r t (cond (int_lt t (pos 0)) t (pos 0)) ≡ pos 0
dropped_adds true t h = absurd (false≢true (sym h))
dropped_adds false t h = ap (λ (b : Bool). cond b t (pos 0)) h

-- ---- call by call

-- what is left is less by one
one_less : (left rest : List ℕ) (one : ℕ) → length left ≤ 128 → left ≡ one ∷ rest → (length rest + 1 ≤ 128) × (128 - length rest ≡ 128 - length left + 1)
one_less left rest one few is =
    let size : length left ≡ suc (length rest) = ap length is in
    (omega (arith, few, size), omega (arith, few, size))

sum_less : (f : ℕ → ℤ) (left rest : List ℕ) (one : ℕ) → left ≡ one ∷ rest → int_sum_by f left ≡ f one +ℤ int_sum_by f rest
sum_less f left rest one is = ap (int_sum_by f) is

-- so far: what the calls add up to that are not left
pub record AreSoFar (set n : ℕ) (f : ℕ → ℤ) (left : List ℕ) (sum : ℤ) : Type 0 where
  pub below : AreBelow n left
  pub few : length left ≤ 128
  pub total : (sum +ℤ int_sum_by f left) ≡ int_sum_where n (has set) f
  pub low : neg_ℤ (pos (2 * 10 ^ 24 * (128 - length left))) ≤ℤ sum
  pub high : sum ≤ℤ pos (2 * 10 ^ 24 * (128 - length left))

pub none_so_far : (set left n : ℕ) (f : ℕ → ℤ) (sum : ℤ) → n ≤ 128 → ((j : ℕ) → has set j ≡ true → j < n) → left ≡ set → sum ≡ pos 0
    → AreSoFar set n f (members 128 left) sum
none_so_far set left n f sum few within e g =
    let all = int_members 128 set n f few within in
    let same = ap (λ (s : ℕ). int_sum_by f (members 128 s)) e in
    record {
      below = subst (λ (s : ℕ). AreBelow n (members 128 s)) (sym e) (members_below 128 set n within);
      few = members_few 128 left;
      total = omega (arith, ints, all, same, g);
      low = omega (arith, ints, g);
      high = omega (arith, ints, g);
    }

pub one_added : (set n one : ℕ) (f : ℕ → ℤ) (left rest : List ℕ) (sum new : ℤ) → AreSoFar set n f left sum → left ≡ one ∷ rest → new ≡ sum +ℤ f one
    → neg_ℤ (pos (2 * 10 ^ 24)) ≤ℤ f one → f one ≤ℤ pos (2 * 10 ^ 24) → AreSoFar set n f rest new
one_added set n one f left rest sum new h is e term_low term_high =
    let size = one_less left rest one h.few is in
    let less = sum_less f left rest one is in
    let total = h.total in
    let low = h.low in
    let high = h.high in
    let fewer = size.0 in
    let more = ap (λ (k : ℕ). 2 * 10 ^ 24 * k) size.1 in
    record {
      below = below_rest n one left rest h.below is;
      few = omega (arith, fewer);
      total = omega (arith, ints, total, less, e);
      low = omega (arith, ints, low, more, e, term_low);
      high = omega (arith, ints, high, more, e, term_high);
    }

pub all_added : (set n : ℕ) (f : ℕ → ℤ) (left : List ℕ) (sum : ℤ) → AreSoFar set n f left sum → left ≡ [] → (sum ≡ int_sum_where n (has set) f)
    × (neg_ℤ (pos (256 * 10 ^ 24)) ≤ℤ sum) × (sum ≤ℤ pos (256 * 10 ^ 24))
all_added set n f left sum h is =
    let total = h.total in
    let none = ap (int_sum_by f) is in
    let size = ap length is in
    let low = h.low in
    let high = h.high in
    let more = ap (λ (k : ℕ). 2 * 10 ^ 24 * (128 - k)) size in
    (omega (arith, ints, total, none), omega (arith, ints, low, more), omega (arith, ints, high, more))
