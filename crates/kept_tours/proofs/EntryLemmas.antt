-- Lists with one entry for each number below a count, and what they state of each.
use Rattle.std.proofs.Common.{◌≡◌, ℕ, zero, suc, ◌+◌, ◌<◌, ◌≤◌, ◌==◌, Bool, true, false, not, ◌||◌, cond, List, [], ◌∷◌, ◌++◌, length, map, take, set, get_or}
use Rattle.std.proofs.Common.{get_or-set_same, get_or-set_other, refl, sym, ap, ◌∙◌, subst, inl, inr, arith, neg_ℤ, negsuc, ◌^◌, ◌*◌, ◌≤ℤ◌, to_z, of_z, SFits}
use Rattle.std.specs.Prelude.{ℤ, pos, ◌+ℤ◌, nat_lt, count_by, sum_by}
use Rattle.std.specs.List.{list_all}
use Rattle.std.proofs.lemmas.Int.{ints, to_z-of_z}
use Rattle.std.proofs.lemmas.Bool.{and_parts, and_from, cases_Bool, cases_eq, cases_lt, eqb-true, eq-eqb, ne_eqb, cond-true, cond-false, lt-ltb, ltb-true}
use Rattle.std.proofs.lemmas.Bool.{not_from_false, not-true}
use Rattle.std.proofs.lemmas.List.{take_more, take_all, get_or_default}
use Rattle.std.specs.Int.{w128}
use Rattle.std.proofs.lemmas.List.Sums.{sum_by-cons}
use Rattle.call_sets.specs.Counting.{any_below, sum_below, is_among}
use Rattle.call_sets.proofs.BelowTests.{any_below-false, any_below-none}
use Rattle.call_sets.proofs.ListTests.{list_any-append}
use Rattle.call_sets.proofs.Sums.{sum_below-same, sum_below-add, sum_below-zero, sum_where-one}
use Rattle.search_model.specs.Sums.{int_sum_by}
use Rattle.search_model.specs.Certificates.{are_each_once}

-- ---- counts of keys

abbrev pub times : ℕ → List ℕ → ℕ
times j keys = count_by (λ x. x == j) keys

times-cons : (j x : ℕ) (keys : List ℕ) → times j (x ∷ keys) ≡ cond (x == j) 1 0 + times j keys
times-cons j x keys = sum_by-cons (λ y. cond (y == j) 1 0) x keys

-- keys below n, counted key by key
times-all : (n : ℕ) (keys : List ℕ) → list_all (λ k. nat_lt k n) keys ≡ true → sum_below n (λ k. times k keys) ≡ length keys
times-all n [] h = sum_below-zero n
times-all n (x ∷ keys) h =
    let both = and_parts (nat_lt x n) (list_all (λ k. nat_lt k n) keys) h in
    let one : sum_below n (λ k. cond (x == k) 1 0) ≡ 1 = sum_where-one n (λ _. 1) x (ltb-true x n both.0) in
    let rest = times-all n keys both.1 in
    let split : sum_below n (λ k. times k (x ∷ keys)) ≡ sum_below n (λ k. cond (x == k) 1 0 + times k keys) =
    sum_below-same n (λ k. times k (x ∷ keys)) (λ k. cond (x == k) 1 0 + times k keys) (λ k b. times-cons k x keys) in
    let added = sum_below-add n (λ k. cond (x == k) 1 0) (λ k. times k keys) in
    omega (arith, one, rest, split, added)

at_least_each : (n : ℕ) (f : ℕ → ℕ) → ((k : ℕ) → k < n → 1 ≤ f k) → n ≤ sum_below n f
at_least_each zero f h = omega arith
at_least_each (suc n) f h =
    let before = at_least_each n f (λ k b. h k (omega (arith, b))) in
    let here = h n (omega arith) in
    omega (arith, before, here)

-- where each is at least 1 and all together are n, each is 1
each_one : (n : ℕ) (f : ℕ → ℕ) → ((k : ℕ) → k < n → 1 ≤ f k) → sum_below n f ≤ n → (k : ℕ) → k < n → f k ≡ 1
each_one zero f h all k b = absurd (omega (arith, b))
each_one (suc n) f h all k b =
    let before = at_least_each n f (λ i c. h i (omega (arith, c))) in
    let last = h n (omega arith) in
    elim (cases_lt k n) [
      | inl lt ↦ each_one n f (λ i c. h i (omega (arith, c))) (omega (arith, all, last)) k lt
      | inr le ↦ (let same : k ≡ n = omega (arith, le, b) in ap f same ∙ (omega (arith, all, before, last)))
    ]

sum_ones : (n : ℕ) (f : ℕ → ℕ) → ((k : ℕ) → k < n → f k ≡ 1) → sum_below n f ≡ n
sum_ones zero f h = refl
sum_ones (suc n) f h =
    let before = sum_ones n f (λ k b. h k (omega (arith, b))) in
    let here = h n (omega arith) in
    omega (arith, before, here)

-- ---- each once

pub record EachOnce (n : ℕ) (keys : List ℕ) : Type 0 where
  pub below : list_all (λ k. nat_lt k n) keys ≡ true
  pub once : (k : ℕ) → k < n → times k keys ≡ 1

pub once-from : (n : ℕ) (keys : List ℕ) → are_each_once n keys ≡ true → EachOnce n keys
once-from n keys h =
    let both = and_parts (list_all (λ k. nat_lt k n) keys) (not (any_below n (λ k. not (times k keys == 1)))) h in
    record {
      below = both.0;
      once = λ k b. eqb-true (times k keys) 1 (not_not (times k keys == 1) (any_below-false n (λ i. not (times i keys == 1)) k (not-true _ both.1) b));
    }
  where
    not_not : (b : Bool) → not b ≡ false → b ≡ true
    not_not true e = refl
    not_not false e = absurd cc

pub once-to : (n : ℕ) (keys : List ℕ) → EachOnce n keys → are_each_once n keys ≡ true
once-to n keys each =
    and_from (list_all (λ k. nat_lt k n) keys) _ each.below
    (not_from_false _ (any_below-none n (λ k. not (times k keys == 1)) (λ k b. ap not (eq-eqb (times k keys) 1 (each.once k b)))))

pub once-length : (n : ℕ) (keys : List ℕ) → are_each_once n keys ≡ true → length keys ≡ n
once-length n keys h =
    let each = once-from n keys h in
    sym (times-all n keys each.below) ∙ sum_ones n (λ k. times k keys) each.once

among_times : (k : ℕ) (keys : List ℕ) → is_among k keys ≡ true → 1 ≤ times k keys
among_times k [] h = absurd cc
among_times k (x ∷ keys) h =
    let step = times-cons k x keys in
    elim (cases_Bool (x == k)) [
      | inl e ↦ (let one = ap {B = ℕ} (λ (b : Bool). cond b 1 0) e in omega (arith, step, one))
      | inr e ↦ (let later = among_times k keys (ap (λ (b : Bool). b || is_among k keys) (sym e) ∙ h) in omega (arith, step, later))
    ]

times_among : (k : ℕ) (keys : List ℕ) → times k keys ≡ 1 → is_among k keys ≡ true
times_among k [] h = absurd cc
times_among k (x ∷ keys) h =
    let step = times-cons k x keys in
    elim (cases_Bool (x == k)) [
      | inl e ↦ ap (λ (b : Bool). b || is_among k keys) e
      | inr e ↦ (let none = ap {B = ℕ} (λ (b : Bool). cond b 1 0) e in let later = times_among k keys (omega (arith, step, none, h)) in
          ap (λ (b : Bool). b || is_among k keys) e ∙ later)
    ]

-- as many keys as numbers, all below, and each number among them
pub once-among : (n : ℕ) (keys : List ℕ) → length keys ≡ n → list_all (λ k. nat_lt k n) keys ≡ true → ((k : ℕ) → k < n → is_among k keys ≡ true)
    → are_each_once n keys ≡ true
once-among n keys len below all =
    let sum = times-all n keys below in
    once-to n keys (record { below = below; once = each_one n (λ k. times k keys) (λ k b. among_times k keys (all k b)) (omega (arith, sum, len)) })

pub among-once : (n : ℕ) (keys : List ℕ) → are_each_once n keys ≡ true → (k : ℕ) → k < n → is_among k keys ≡ true
among-once n keys h k b = times_among k keys ((once-from n keys h).once k b)

-- the test is the answer
pub same_tests : (r b : Bool) → (r ≡ true → b ≡ true) → (b ≡ true → r ≡ true) → r ≡ b
same_tests true b h k = sym (h refl)
same_tests false true h k = k refl
same_tests false false h k = refl

pub is_false : (b : Bool) → (b ≡ true → ⊥) → b ≡ false
is_false true h = absurd (h refl)
is_false false h = refl

pub eqb_other : (a b : ℕ) → (a == b) ≡ (b == a)
eqb_other a b = same_tests (a == b) (b == a) (λ e. eq-eqb b a (sym (eqb-true a b e))) (λ e. eq-eqb a b (sym (eqb-true b a e)))

-- ---- entries

module _ {X : Type 0} where
  pub keys_more : (key : X → ℕ) (xs : List X) (i : ℕ) (d : X) → i < length xs → map key (take (i + 1) xs) ≡ map key (take i xs) ++ key (get_or xs i d) ∷ []
  keys_more key xs i d lt = ap (map key) (take_more xs i d lt) ∙ map_push (take i xs) (get_or xs i d)
    where
      map_push : (ys : List X) (y : X) → map key (ys ++ y ∷ []) ≡ map key ys ++ key y ∷ []
      map_push [] y = refl
      map_push (z ∷ ys) y = ap (λ (l : List ℕ). key z ∷ l) (map_push ys y)

  -- no entry has the key
  sum_none : (key : X → ℕ) (v : X → ℤ) (j : ℕ) (xs : List X) → times j (map key xs) ≡ 0 → int_sum_by (λ x. cond (key x == j) (v x) (pos 0)) xs ≡ pos 0
  sum_none key v j [] h = refl
  sum_none key v j (x ∷ xs) h =
      let step = times-cons j (key x) (map key xs) in
      elim (cases_Bool (key x == j)) [
        | inl e ↦ absurd (let one = ap {B = ℕ} (λ (b : Bool). cond b 1 0) e in omega (arith, step, one, h))
        | inr e ↦ (let rest = sum_none key v j xs (omega (arith, step, h)) in let here = cond-false (key x == j) (v x) (pos 0) e in
            omega (arith, ints, rest, here))
      ]

  claims_none : (key : X → ℕ) (v : X → ℕ) (j : ℕ) (xs : List X) → times j (map key xs) ≡ 0 → sum_by (λ x. cond (key x == j) (v x) 0) xs ≡ 0
  claims_none key v j [] h = refl
  claims_none key v j (x ∷ xs) h =
      let step = times-cons j (key x) (map key xs) in
      let more = sum_by-cons (λ y. cond (key y == j) (v y) 0) x xs in
      elim (cases_Bool (key x == j)) [
        | inl e ↦ absurd (let one = ap {B = ℕ} (λ (b : Bool). cond b 1 0) e in omega (arith, step, one, h))
        | inr e ↦ (let rest = claims_none key v j xs (omega (arith, step, h)) in let here = cond-false (key x == j) (v x) 0 e in
            omega (arith, more, rest, here))
      ]

  times_here : (key : X → ℕ) (j : ℕ) (xs : List X) (i : ℕ) (d : X) → i < length xs → key (get_or xs i d) ≡ j → 1 ≤ times j (map key xs)
  times_here key j [] i d lt e = absurd (omega (arith, lt))
  times_here key j (x ∷ xs) zero d lt e =
      (let step = times-cons j (key x) (map key xs) in let one = ap {B = ℕ} (λ (b : Bool). cond b 1 0) (eq-eqb (key x) j e) in omega (arith, step, one))
  times_here key j (x ∷ xs) (suc i) d lt e =
      (let step = times-cons j (key x) (map key xs) in let later = times_here key j xs i d (omega (arith, lt)) e in omega (arith, step, later))

  -- another entry stands in front of the one of the key
  skip_first : (key : X → ℕ) (v : X → ℤ) (j : ℕ) (x : X) (xs : List X) (z : ℤ) → 1 ≤ times j (map key xs) → times j (map key (x ∷ xs)) ≡ 1
      → (times j (map key xs) ≡ 1 → int_sum_by (λ y. cond (key y == j) (v y) (pos 0)) xs ≡ z) → int_sum_by (λ y. cond (key y == j) (v y) (pos 0)) (x ∷ xs) ≡ z
  skip_first key v j x xs z later h rest = by_key (key x == j) refl
    where
      step : times j (map key (x ∷ xs)) ≡ cond (key x == j) 1 0 + times j (map key xs)
      step = times-cons j (key x) (map key xs)

      by_key : (b : Bool) → (key x == j) ≡ b → int_sum_by (λ y. cond (key y == j) (v y) (pos 0)) (x ∷ xs) ≡ z
      by_key true t = absurd (let one = ap {B = ℕ} (λ (b : Bool). cond b 1 0) t in omega (arith, step, one, later, h))
      by_key false t = (let none = ap {B = ℕ} (λ (b : Bool). cond b 1 0) t in let more = rest (omega (arith, step, none, h)) in
          let here = cond-false (key x == j) (v x) (pos 0) t in omega (arith, ints, more, here))

  skip_claim : (key : X → ℕ) (v : X → ℕ) (j : ℕ) (x : X) (xs : List X) (z : ℕ) → 1 ≤ times j (map key xs) → times j (map key (x ∷ xs)) ≡ 1
      → (times j (map key xs) ≡ 1 → sum_by (λ y. cond (key y == j) (v y) 0) xs ≡ z) → sum_by (λ y. cond (key y == j) (v y) 0) (x ∷ xs) ≡ z
  skip_claim key v j x xs z later h rest = by_key (key x == j) refl
    where
      step : times j (map key (x ∷ xs)) ≡ cond (key x == j) 1 0 + times j (map key xs)
      step = times-cons j (key x) (map key xs)

      all : sum_by (λ y. cond (key y == j) (v y) 0) (x ∷ xs) ≡ cond (key x == j) (v x) 0 + sum_by (λ y. cond (key y == j) (v y) 0) xs
      all = sum_by-cons (λ y. cond (key y == j) (v y) 0) x xs

      by_key : (b : Bool) → (key x == j) ≡ b → sum_by (λ y. cond (key y == j) (v y) 0) (x ∷ xs) ≡ z
      by_key true t = absurd (let one = ap {B = ℕ} (λ (b : Bool). cond b 1 0) t in omega (arith, step, one, later, h))
      by_key false t = (let none = ap {B = ℕ} (λ (b : Bool). cond b 1 0) t in let more = rest (omega (arith, step, none, h)) in
          let here = cond-false (key x == j) (v x) 0 t in omega (arith, all, more, here))

  -- the one entry of a key
  pub sum_once : (key : X → ℕ) (v : X → ℤ) (j : ℕ) (xs : List X) (i : ℕ) (d : X) → i < length xs → key (get_or xs i d) ≡ j → times j (map key xs) ≡ 1
      → int_sum_by (λ x. cond (key x == j) (v x) (pos 0)) xs ≡ v (get_or xs i d)
  sum_once key v j [] i d lt e h = absurd (omega (arith, lt))
  sum_once key v j (x ∷ xs) zero d lt e h =
      let step = times-cons j (key x) (map key xs) in
      let one = ap {B = ℕ} (λ (b : Bool). cond b 1 0) (eq-eqb (key x) j e) in
      let rest = sum_none key v j xs (omega (arith, step, one, h)) in
      let here = cond-true (key x == j) (v x) (pos 0) (eq-eqb (key x) j e) in
      omega (arith, ints, rest, here)
  sum_once key v j (x ∷ xs) (suc i) d lt e h =
      skip_first key v j x xs (v (get_or xs i d)) (times_here key j xs i d (omega (arith, lt)) e) h (λ one. sum_once key v j xs i d (omega (arith, lt)) e one)

  pub claims_once : (key : X → ℕ) (v : X → ℕ) (j : ℕ) (xs : List X) (i : ℕ) (d : X) → i < length xs → key (get_or xs i d) ≡ j → times j (map key xs) ≡ 1
      → sum_by (λ x. cond (key x == j) (v x) 0) xs ≡ v (get_or xs i d)
  claims_once key v j [] i d lt e h = absurd (omega (arith, lt))
  claims_once key v j (x ∷ xs) zero d lt e h =
      let step = times-cons j (key x) (map key xs) in
      let more = sum_by-cons (λ y. cond (key y == j) (v y) 0) x xs in
      let one = ap {B = ℕ} (λ (b : Bool). cond b 1 0) (eq-eqb (key x) j e) in
      let rest = claims_none key v j xs (omega (arith, step, one, h)) in
      let here = cond-true (key x == j) (v x) 0 (eq-eqb (key x) j e) in
      omega (arith, more, rest, here)
  claims_once key v j (x ∷ xs) (suc i) d lt e h =
      skip_claim key v j x xs (v (get_or xs i d)) (times_here key j xs i d (omega (arith, lt)) e) h
      (λ one. claims_once key v j xs i d (omega (arith, lt)) e one)

  -- the entry of a key that is among them
  pub place_of : (key : X → ℕ) (j : ℕ) (xs : List X) (d : X) → is_among j (map key xs) ≡ true → (i : ℕ) × (i < length xs) × (key (get_or xs i d) ≡ j)
  place_of key j [] d h = absurd cc
  place_of key j (x ∷ xs) d h =
      elim (cases_Bool (key x == j)) [
        | inl e ↦ (0, omega arith, eqb-true (key x) j e)
        | inr e ↦ (let later = place_of key j xs d (ap (λ (b : Bool). b || is_among j (map key xs)) (sym e) ∙ h) in let lt = later.1 in
            (suc later.0, omega (arith, lt), later.2))
      ]

  -- a test that all pass is passed at each place
  pub all_at : (key : X → ℕ) (n : ℕ) (xs : List X) (i : ℕ) (d : X) → list_all (λ k. nat_lt k n) (map key xs) ≡ true → i < length xs → key (get_or xs i d) < n
  all_at key n [] i d h lt = absurd (omega (arith, lt))
  all_at key n (x ∷ xs) zero d h lt = ltb-true (key x) n (and_parts (nat_lt (key x) n) (list_all (λ k. nat_lt k n) (map key xs)) h).0
  all_at key n (x ∷ xs) (suc i) d h lt = all_at key n xs i d (and_parts (nat_lt (key x) n) (list_all (λ k. nat_lt k n) (map key xs)) h).1 (omega (arith, lt))

pub all_push : (n : ℕ) (keys : List ℕ) (k : ℕ) → list_all (λ x. nat_lt x n) keys ≡ true → k < n → list_all (λ x. nat_lt x n) (keys ++ k ∷ []) ≡ true
all_push n [] k h lt = and_from (nat_lt k n) true (lt-ltb k n lt) refl
all_push n (x ∷ keys) k h lt =
    let both = and_parts (nat_lt x n) (list_all (λ y. nat_lt y n) keys) h in
    and_from (nat_lt x n) (list_all (λ y. nat_lt y n) (keys ++ k ∷ [])) both.0 (all_push n keys k both.1 lt)

pub among_push : (j : ℕ) (keys : List ℕ) (k : ℕ) → is_among j (keys ++ k ∷ []) ≡ (is_among j keys || (k == j))
among_push j keys k = list_any-append (λ x. x == j) keys (k ∷ []) ∙ ap (λ (b : Bool). is_among j keys || b) (or_false (k == j))
  where
    or_false : (b : Bool) → (b || false) ≡ b
    or_false true = refl
    or_false false = refl

-- no key is past the count
times_past : (n j : ℕ) (keys : List ℕ) → list_all (λ k. nat_lt k n) keys ≡ true → n ≤ j → times j keys ≡ 0
times_past n j [] h past = refl
times_past n j (x ∷ keys) h past =
    let both = and_parts (nat_lt x n) (list_all (λ k. nat_lt k n) keys) h in
    let step = times-cons j x keys in
    let lt = ltb-true x n both.0 in
    let none = ap {B = ℕ} (λ (b : Bool). cond b 1 0) (ne_eqb x j (λ e. absurd (omega (arith, lt, past, e)))) in
    let rest = times_past n j keys both.1 past in
    omega (arith, step, none, rest)

module _ {X : Type 0} where
  pub sum_past : (key : X → ℕ) (v : X → ℤ) (n j : ℕ) (xs : List X) → list_all (λ k. nat_lt k n) (map key xs) ≡ true → n ≤ j
      → int_sum_by (λ x. cond (key x == j) (v x) (pos 0)) xs ≡ pos 0
  sum_past key v n j xs h past = sum_none key v j xs (times_past n j (map key xs) h past)

  pub claims_past : (key : X → ℕ) (v : X → ℕ) (n j : ℕ) (xs : List X) → list_all (λ k. nat_lt k n) (map key xs) ≡ true → n ≤ j
      → sum_by (λ x. cond (key x == j) (v x) 0) xs ≡ 0
  claims_past key v n j xs h past = claims_none key v j xs (times_past n j (map key xs) h past)

-- ---- tables by key

module _ {X V : Type 0} where
  -- What the first entries state stands in their places.
  abbrev pub Written : (key : X → ℕ) → (is_right : ℕ → V → Type 0) → List X → List V → (dv : V) → ℕ → Type 0
  Written key is_right xs table dv i = (k : ℕ) (d : X) → k < i → is_right (key (get_or xs k d)) (get_or table (key (get_or xs k d)) dv)

  pub write_more : (key : X → ℕ) (is_right : ℕ → V → Type 0) (xs : List X) (table : List V) (dv v : V) (i j : ℕ) (d : X) → j ≡ key (get_or xs i d)
      → j < length table → i < length xs → is_right j v → Written key is_right xs table dv i → Written key is_right xs (set table j v) dv (i + 1)
  write_more key is_right xs table dv v i j d at lt within right before k e b =
      elim (cases_eq (key (get_or xs k e)) j) [
        | inl same ↦ subst (λ (n : ℕ). is_right n (get_or (set table j v) n dv)) (sym same) (subst (is_right j) (sym (get_or-set_same table j v dv lt)) right)
        | inr other ↦ subst (is_right (key (get_or xs k e))) (sym (get_or-set_other table j (key (get_or xs k e)) v dv other)) (before k e (earlier other))
      ]
    where
      earlier : (key (get_or xs k e) ≡ j → ⊥) → k < i
      earlier other = elim (cases_lt k i) [
        | inl less ↦ less
        | inr le ↦ absurd
            (other (let same : k ≡ i = omega (arith, le, b) in ap (λ (n : ℕ). key (get_or xs n e)) same ∙ ap key (get_or_default xs i e d within) ∙ sym at))
      ]

  pub written_all : (key : X → ℕ) (is_right : ℕ → V → Type 0) (xs : List X) (table : List V) (dv : V) (n i j : ℕ) → are_each_once n (map key xs) ≡ true
      → length xs ≤ i → Written key is_right xs table dv i → j < n → X → is_right j (get_or table j dv)
  written_all key is_right xs table dv n i j once le written lt d =
      let at = place_of key j xs d (among-once n (map key xs) once j lt) in
      let within = at.1 in
      subst (λ (m : ℕ). is_right m (get_or table m dv)) at.2 (written at.0 d (omega (arith, within, le)))

-- ---- sums

pub int_sum_by-append : {X : Type 0} (f : X → ℤ) (xs ys : List X) → int_sum_by f (xs ++ ys) ≡ int_sum_by f xs +ℤ int_sum_by f ys
int_sum_by-append f [] ys = omega (arith, ints)
int_sum_by-append f (x ∷ xs) ys = omega (arith, ints, int_sum_by-append f xs ys)

-- one more item, for a loop's step
pub int_sum_by-more : {X : Type 0} (f : X → ℤ) (xs : List X) (i : ℕ) (d : X) → i < length xs
    → int_sum_by f (take (i + 1) xs) ≡ int_sum_by f (take i xs) +ℤ f (get_or xs i d)
int_sum_by-more f xs i d h =
    ap (int_sum_by f) (take_more xs i d h) ∙ omega (arith, ints, int_sum_by-append f (take i xs) (get_or xs i d ∷ []))

fits_128 : (z : ℤ) → neg_ℤ (pos (10 ^ 30)) ≤ℤ z → z ≤ℤ pos (10 ^ 30) → SFits w128 z
fits_128 (pos n) low high = record { sfits = omega (arith, ints, high) }
fits_128 (negsuc n) low high = record { sfits = omega (arith, ints, low) }

-- a number that is stored in 128 bits and read again
pub stored : (z : ℤ) → neg_ℤ (pos (10 ^ 30)) ≤ℤ z → z ≤ℤ pos (10 ^ 30) → to_z w128 (of_z w128 z) ≡ z
stored z low high = to_z-of_z w128 z (fits_128 z low high)

-- the sum of the first k items, each of an absolute value of at most this
pub record SumsTo {X : Type 0} (f : X → ℤ) (xs : List X) (most k : ℕ) (sum : ℤ) : Type 0 where
  pub sum_is : sum ≡ int_sum_by f (take k xs)
  pub low : neg_ℤ (pos (most * k)) ≤ℤ sum
  pub high : sum ≤ℤ pos (most * k)

-- a sum that is stored
stored_more : (sum v : ℤ) → neg_ℤ (pos (10 ^ 29)) ≤ℤ sum → sum ≤ℤ pos (10 ^ 29) → neg_ℤ (pos (10 ^ 29)) ≤ℤ v → v ≤ℤ pos (10 ^ 29)
    → to_z w128 (of_z w128 (sum +ℤ to_z w128 (of_z w128 v))) ≡ sum +ℤ v
stored_more sum v low high low' high' =
    let one = stored v (omega (arith, ints, low')) (omega (arith, ints, high')) in
    ap (λ (z : ℤ). to_z w128 (of_z w128 (sum +ℤ z))) one ∙ stored (sum +ℤ v) (omega (arith, ints, low, low')) (omega (arith, ints, high, high'))

pub stored_both : (a b : ℤ) → neg_ℤ (pos (10 ^ 29)) ≤ℤ a → a ≤ℤ pos (10 ^ 29) → neg_ℤ (pos (10 ^ 29)) ≤ℤ b → b ≤ℤ pos (10 ^ 29)
    → to_z w128 (of_z w128 (to_z w128 (of_z w128 a) +ℤ to_z w128 (of_z w128 b))) ≡ a +ℤ b
stored_both a b low high low' high' =
    let one = stored a (omega (arith, ints, low)) (omega (arith, ints, high)) in
    ap (λ (z : ℤ). to_z w128 (of_z w128 (z +ℤ to_z w128 (of_z w128 b)))) one ∙ stored_more a b low high low' high'

-- a loop's step
pub sums_more : {X : Type 0} (f : X → ℤ) (xs : List X) (most k : ℕ) (sum v : ℤ) (d : X) → k < length xs → most ≤ 10 ^ 27 → k < 128 → most * k + most ≤ 10 ^ 29
    → v ≡ f (get_or xs k d) → neg_ℤ (pos most) ≤ℤ v → v ≤ℤ pos most → SumsTo f xs most k sum
    → SumsTo f xs most (k + 1) (to_z w128 (of_z w128 (sum +ℤ to_z w128 (of_z w128 v))))
sums_more f xs most k sum v d lt small few fits e low high so =
    let l = so.low in
    let h = so.high in
    let is = stored_more sum v (omega (arith, ints, l, fits)) (omega (arith, ints, h, fits)) (omega (arith, ints, low, small))
    (omega (arith, ints, high, small)) in
    let step : most * (k + 1) ≡ most * k + most = omega arith in
    record {
      sum_is = is ∙ ap (λ (z : ℤ). z +ℤ v) so.sum_is ∙ ap (λ (z : ℤ). int_sum_by f (take k xs) +ℤ z) e ∙ sym (int_sum_by-more f xs k d lt);
      low = omega (arith, ints, is, l, low, step);
      high = omega (arith, ints, is, h, high, step);
    }

pub sums_to_all : {X : Type 0} (f : X → ℤ) (xs : List X) (most k : ℕ) (sum : ℤ) → SumsTo f xs most k sum → length xs ≤ k → sum ≡ int_sum_by f xs
sums_to_all f xs most k sum so h = so.sum_is ∙ ap (int_sum_by f) (take_all k xs h)
