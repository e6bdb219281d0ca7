-- Counting along lists by any test.
use Rattle.std.proofs.Common.{◌==◌, ◌≡◌, ℕ, zero, suc, ◌+◌, ◌*◌, ◌<◌, Bool, true, false, cond, not, eqb, List, [], ◌∷◌, ◌++◌, map, All, refl, sym, ap, ◌∙◌}
use Rattle.std.proofs.Common.{arith}
use Rattle.std.specs.List.{count_by, filter, flat_map, range_with_len}
use Rattle.std.proofs.lemmas.List.{append-nil}
use Rattle.std.proofs.lemmas.List.Concat.{flat_map-append}
use Rattle.std.proofs.lemmas.List.Elements.{All-head, All-tail}
use Rattle.std.proofs.lemmas.List.Sums.{sum_by-cons, sum_by-append}
use Rattle.call_sets.specs.Counting.{sum_below}
use Rattle.call_sets.proofs.Sums.{sum_below-same, sum_below-zero, sum_below-add, sum_where-one}
use Rattle.tour_rules.proofs.Rising.{count-cons}
use Rattle.day_state.proofs.Numbering.{range-more}

pub count_of-cons : {X : Type 0} (t : X → Bool) (x : X) (xs : List X) → count_by t (x ∷ xs) ≡ cond (t x) 1 0 + count_by t xs
count_of-cons t x xs = sum_by-cons (λ y. cond (t y) 1 0) x xs

pub count_of-append : {X : Type 0} (t : X → Bool) (xs ys : List X) → count_by t (xs ++ ys) ≡ count_by t xs + count_by t ys
count_of-append t xs ys = sum_by-append (λ y. cond (t y) 1 0) xs ys

pub count_of-map : {X Y : Type 0} (t : Y → Bool) (f : X → Y) (xs : List X) → count_by t (map f xs) ≡ count_by (λ x. t (f x)) xs
count_of-map t f [] = refl
count_of-map t f (x ∷ xs) = count_of-cons t (f x) (map f xs) ∙ ap (λ (n : ℕ). cond (t (f x)) 1 0 + n) (count_of-map t f xs)
    ∙ sym (count_of-cons (λ y. t (f y)) x xs)

pub count_of-same : {X : Type 0} (t u : X → Bool) (xs : List X) → All (λ x. t x ≡ u x) xs → count_by t xs ≡ count_by u xs
count_of-same t u [] all = refl
count_of-same t u (x ∷ xs) all =
    count_of-cons t x xs ∙ ap (λ (b : Bool). cond b 1 0 + count_by t xs) (All-head (λ y. t y ≡ u y) x xs all)
    ∙ ap (λ (n : ℕ). cond (u x) 1 0 + n) (count_of-same t u xs (All-tail (λ y. t y ≡ u y) x xs all)) ∙ sym (count_of-cons u x xs)

pub count_of-none : {X : Type 0} (t : X → Bool) (xs : List X) → ((x : X) → t x ≡ false) → count_by t xs ≡ 0
count_of-none t [] none = refl
count_of-none t (x ∷ xs) none =
    let first = count_of-cons t x xs in
    let here = ap {B = ℕ} (λ (b : Bool). cond b 1 0) (none x) in
    let rest = count_of-none t xs none in
    omega (arith, first, here, rest)

-- in lists one after another
pub count_of-ranges : {X : Type 0} (t : X → Bool) (f : ℕ → List X) (n : ℕ) → count_by t (flat_map f (range_with_len 0 n)) ≡ sum_below n (λ c. count_by t (f c))
count_of-ranges t f zero = refl
count_of-ranges {X} t f (suc n) =
    let e : 0 + n ≡ n = omega arith in
    let joined = ap (flat_map f) (range-more 0 n) ∙ flat_map-append f (range_with_len 0 n) ((0 + n) ∷ [])
    ∙ ap (λ (x : ℕ). flat_map f (range_with_len 0 n) ++ flat_map f (x ∷ [])) e
    ∙ ap (λ (ys : List X). flat_map f (range_with_len 0 n) ++ ys) (append-nil (f n)) in
    ap (count_by t) joined ∙ count_of-append t (flat_map f (range_with_len 0 n)) (f n) ∙ ap (λ (m : ℕ). m + count_by t (f n)) (count_of-ranges t f n)

-- those that pass a test and those that do not
pub count-split : (t : ℕ → Bool) (xs : List ℕ) (r : ℕ)
    → count_by (λ x. x == r) (filter (λ x. not (t x)) xs) + count_by (λ x. x == r) (filter t xs) ≡ count_by (λ x. x == r) xs
count-split t [] r = refl
count-split t (x ∷ xs) r = cut (t x) (count-split t xs r)
  where
    cut : (b : Bool) → count_by (λ y. y == r) (filter (λ y. not (t y)) xs) + count_by (λ y. y == r) (filter t xs) ≡ count_by (λ y. y == r) xs
        → count_by (λ y. y == r) (cond (not b) (x ∷ filter (λ y. not (t y)) xs) (filter (λ y. not (t y)) xs)) + count_by (λ y. y == r)
        (cond b (x ∷ filter t xs) (filter t xs)) ≡ count_by (λ y. y == r) (x ∷ xs)
    cut true e =
        let first = count-cons r x (filter t xs) in
        let all = count-cons r x xs in
        omega (arith, first, all, e)
    cut false e =
        let first = count-cons r x (filter (λ y. not (t y)) xs) in
        let all = count-cons r x xs in
        omega (arith, first, all, e)

-- a count by any test, from how often each number stands in the list
pub count-numbers : (t : ℕ → Bool) (n : ℕ) (xs : List ℕ) → All (λ x. x < n) xs → count_by t xs ≡ sum_below n (λ r. count_by (λ x. x == r) xs * cond (t r) 1 0)
count-numbers t n [] below = sym (sum_below-same n (λ r. count_by (λ x. x == r) [] * cond (t r) 1 0) (λ r. 0) (λ r b. omega arith) ∙ sum_below-zero n)
count-numbers t n (x ∷ xs) below =
    let one = sum_where-one n (λ r. cond (t r) 1 0) x (All-head (λ y. y < n) x xs below) in
    let rest = count-numbers t n xs (All-tail (λ y. y < n) x xs below) in
    let both = sum_below-add n (λ r. cond (eqb x r) (cond (t r) 1 0) 0) (λ r. count_by (λ y. y == r) xs * cond (t r) 1 0) in
    let each = sum_below-same n (λ r. count_by (λ y. y == r) (x ∷ xs) * cond (t r) 1 0)
    (λ r. cond (eqb x r) (cond (t r) 1 0) 0 + count_by (λ y. y == r) xs * cond (t r) 1 0) (λ r b. split r (eqb x r) (count-cons r x xs)) in
    let first = count_of-cons t x xs in
    omega (arith, first, one, rest, both, each)
  where
    split : (r : ℕ) (b : Bool) → count_by (λ y. y == r) (x ∷ xs) ≡ cond b 1 0 + count_by (λ y. y == r) xs
        → count_by (λ y. y == r) (x ∷ xs) * cond (t r) 1 0 ≡ cond b (cond (t r) 1 0) 0 + count_by (λ y. y == r) xs * cond (t r) 1 0
    split r true e = ap (λ (m : ℕ). m * cond (t r) 1 0) e ∙ omega arith
    split r false e = ap (λ (m : ℕ). m * cond (t r) 1 0) e ∙ omega arith
