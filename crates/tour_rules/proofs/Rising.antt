-- The boards of a stop by rising index: the same calls, each once.
use Rattle.std.proofs.Common.{◌==◌, ◌≡◌, ℕ, zero, suc, ◌+◌, ◌<◌, ◌≤◌, Bool, true, false, cond, ◌&&◌, eqb, ltb, List, [], ◌∷◌, ◌++◌, refl, sym, ap, ◌∙◌, subst}
use Rattle.std.proofs.Common.{inl, inr, arith}
use Rattle.std.specs.List.{list_all, filter, range_with_len, count_by}
use Rattle.std.proofs.lemmas.Bool.{or_parts, or_cases, or_left, or_right, and_parts, and_from, and_left, false≢true, false_from_ne_true, both_ways, ltb-true}
use Rattle.std.proofs.lemmas.Bool.{lt-ltb, eqb-true, eq-eqb, leb-true, le-leb, cases_Bool}
use Rattle.std.proofs.Math.Nat.{eq-or-lt_of_le}
use Rattle.std.proofs.lemmas.List.Sums.{sum_by-cons, sum_by-append}
use Rattle.call_sets.specs.Counting.{is_among}
use Rattle.elevator_model.specs.Snapshot.{Snapshot, call_count}
use Rattle.elevator_model.specs.Tours.{boards_at}
use Rattle.elevator_model.specs.Partial.{rising_boards}
use Rattle.call_sets.proofs.ListTests.{list_any-append}
use Rattle.tour_rules.proofs.BoundedTests.{same_function}
use Rattle.tour_rules.proofs.Stands.{ArePart}

abbrev chosen : (ℕ → Bool) → (a m : ℕ) → List ℕ
chosen t a m = filter t (range_with_len a m)

-- what a filter of a range has
pub among_chosen : (t : ℕ → Bool) (a m j : ℕ) → is_among j (chosen t a m) ≡ true → (a ≤ j) × (j < a + m) × (t j ≡ true)
among_chosen t a zero j h = absurd (false≢true h)
among_chosen t a (suc m) j h = among_cases (t a) refl (among_chosen t (a + 1) m j) h
  where
    among_cases : (b : Bool) → t a ≡ b → (is_among j (chosen t (a + 1) m) ≡ true → (a + 1 ≤ j) × (j < a + 1 + m) × (t j ≡ true))
        → is_among j (cond b (a ∷ chosen t (a + 1) m) (chosen t (a + 1) m)) ≡ true → (a ≤ j) × (j < a + suc m) × (t j ≡ true)
    among_cases false e later h = let r = later h in (omega arith, omega arith, r.2)
    among_cases true e later h =
        elim (or_cases (eqb a j) (is_among j (chosen t (a + 1) m)) h) [
          | inl k ↦ let same = eqb-true a j k in (omega arith, omega arith, subst (λ (x : ℕ). t x ≡ true) same e)
          | inr k ↦ let r = later k in (omega arith, omega arith, r.2)
        ]

in_cond : (b : Bool) (a j : ℕ) (xs : List ℕ) → is_among j xs ≡ true → is_among j (cond b (a ∷ xs) xs) ≡ true
in_cond false a j xs h = h
in_cond true a j xs h = or_right (eqb a j) (is_among j xs) h

first_in_cond : (b : Bool) (a j : ℕ) (xs : List ℕ) → b ≡ true → a ≡ j → is_among j (cond b (a ∷ xs) xs) ≡ true
first_in_cond false a j xs e same = absurd (false≢true e)
first_in_cond true a j xs e same = or_left (eqb a j) (is_among j xs) (eq-eqb a j same)

pub chosen_has : (t : ℕ → Bool) (a m j : ℕ) → a ≤ j → j < a + m → t j ≡ true → is_among j (chosen t a m) ≡ true
chosen_has t a zero j low high h = absurd (omega arith)
chosen_has t a (suc m) j low high h =
    elim (eq-or-lt_of_le low) [
      | inl e ↦ first_in_cond (t a) a j (chosen t (a + 1) m) (subst (λ (x : ℕ). t x ≡ true) (sym e) h) e
      | inr lt ↦ in_cond (t a) a j (chosen t (a + 1) m) (chosen_has t (a + 1) m j (omega arith) (omega arith) h)
    ]

pub count-cons : (j x : ℕ) (xs : List ℕ) → count_by (λ y. y == j) (x ∷ xs) ≡ cond (eqb x j) 1 0 + count_by (λ y. y == j) xs
count-cons j x xs = sum_by-cons (λ y. cond (eqb y j) 1 0) x xs

-- a number that is not among the list stands in it no time
pub count-none : (j : ℕ) (xs : List ℕ) → is_among j xs ≡ false → count_by (λ y. y == j) xs ≡ 0
count-none j [] h = refl
count-none j (x ∷ xs) h =
    let parts = or_parts (eqb x j) (is_among j xs) h in
    let c = count-cons j x xs in let d = ap {B = ℕ} (λ (b : Bool). cond b 1 0) parts.0 in let r = count-none j xs parts.1 in omega (arith, c, d, r)

count-cond : (b : Bool) (j a : ℕ) (xs : List ℕ) → count_by (λ y. y == j) xs ≤ 1 → (a ≡ j → is_among j xs ≡ false)
    → count_by (λ y. y == j) (cond b (a ∷ xs) xs) ≤ 1
count-cond false j a xs le apart = le
count-cond true j a xs le apart =
    elim (cases_Bool (eqb a j)) [
      | inl e ↦ let zero_times = count-none j xs (apart (eqb-true a j e)) in let c = count-cons j a xs in let d = ap {B = ℕ} (λ (b : Bool). cond b 1 0) e in
          omega (arith, c, d, zero_times)
      | inr e ↦ let c = count-cons j a xs in let d = ap {B = ℕ} (λ (b : Bool). cond b 1 0) e in omega (arith, c, d)
    ]

-- each number stands in it once at most
pub count-chosen : (t : ℕ → Bool) (a m j : ℕ) → count_by (λ y. y == j) (chosen t a m) ≤ 1
count-chosen t a zero j = omega arith
count-chosen t a (suc m) j =
    count-cond (t a) j a (chosen t (a + 1) m) (count-chosen t (a + 1) m j)
    (λ e. false_from_ne_true _ (λ h. let r = among_chosen t (a + 1) m j h in omega arith))

pub rising_same : (s : Snapshot) (g : ℕ) (boards : List ℕ)
    → boards_at s (record { floor = g; boards = rising_boards s boards }) ≡ boards_at s (record { floor = g; boards = boards })
rising_same s g boards = same_function _ _ (λ j. same_at j)
  where
    same_at : (j : ℕ) → (ltb j (call_count s) && is_among j (rising_boards s boards)) ≡ (ltb j (call_count s) && is_among j boards)
    same_at j =
        elim (cases_Bool (ltb j (call_count s))) [
          | inl below ↦ elim (cases_Bool (is_among j boards)) [
            | inl e ↦ ap (λ b. ltb j (call_count s) && b)
                (chosen_has (λ k. is_among k boards) 0 (call_count s) j (omega arith) (let lt = ltb-true j (call_count s) below in omega arith) e ∙ sym e)
            | inr e ↦ ap (λ b. ltb j (call_count s) && b)
                (false_from_ne_true _ (λ h. both_ways _ e (among_chosen (λ k. is_among k boards) 0 (call_count s) j h).2) ∙ sym e)
          ]
          | inr not_below ↦ and_left (ltb j (call_count s)) _ not_below ∙ sym (and_left (ltb j (call_count s)) _ not_below)
        ]

pub rising_part : (s : Snapshot) (boards : List ℕ) → ArePart (rising_boards s boards) boards
rising_part s boards = record {
  among = λ j h. (among_chosen (λ k. is_among k boards) 0 (call_count s) j h).2;
  twice = λ j h. let le = count-chosen (λ k. is_among k boards) 0 (call_count s) j in
      let two = leb-true 2 (count_by (λ y. y == j) (rising_boards s boards)) h in absurd (omega arith);
}

pub count-append : (j : ℕ) (xs ys : List ℕ) → count_by (λ y. y == j) (xs ++ ys) ≡ count_by (λ y. y == j) xs + count_by (λ y. y == j) ys
count-append j xs ys = sum_by-append (λ y. cond (eqb y j) 1 0) xs ys

-- the beginning of a list is a part of it
pub front_part : (front back : List ℕ) → ArePart front (front ++ back)
front_part front back = record {
  among = λ j h. list_any-append (λ x. eqb x j) front back ∙ or_left (is_among j front) (is_among j back) h;
  twice = λ j h. let two = leb-true 2 (count_by (λ y. y == j) front) h in let c = count-append j front back in le-leb 2 _ (omega arith);
}

-- each number of the second list is above those of the first and those before it
abbrev pub Follows : List ℕ → List ℕ → Type 0
Follows before [] = Unit {0}
Follows before (j ∷ js) = (list_all (λ i. ltb i j) before ≡ true) × Follows (before ++ j ∷ []) js

all_more : (a : ℕ) (xs : List ℕ) → list_all (λ i. ltb i a) xs ≡ true → list_all (λ i. ltb i (a + 1)) xs ≡ true
all_more a [] h = refl
all_more a (x ∷ xs) h =
    let parts = and_parts (ltb x a) (list_all (λ i. ltb i a) xs) h in
    and_from (ltb x (a + 1)) (list_all (λ i. ltb i (a + 1)) xs) (let lt = ltb-true x a parts.0 in lt-ltb x (a + 1) (omega arith)) (all_more a xs parts.1)

all_push : (a : ℕ) (xs : List ℕ) → list_all (λ i. ltb i a) xs ≡ true → list_all (λ i. ltb i (a + 1)) (xs ++ a ∷ []) ≡ true
all_push a [] h = and_from (ltb a (a + 1)) true (lt-ltb a (a + 1) (omega arith)) refl
all_push a (x ∷ xs) h =
    let parts = and_parts (ltb x a) (list_all (λ i. ltb i a) xs) h in
    and_from (ltb x (a + 1)) (list_all (λ i. ltb i (a + 1)) (xs ++ a ∷ [])) (let lt = ltb-true x a parts.0 in lt-ltb x (a + 1) (omega arith))
    (all_push a xs parts.1)

follows_cond : (b : Bool) (before : List ℕ) (a : ℕ) (js : List ℕ) → list_all (λ i. ltb i a) before ≡ true → Follows before js → Follows (before ++ a ∷ []) js
    → Follows before (cond b (a ∷ js) js)
follows_cond false before a js h same more = same
follows_cond true before a js h same more = (h, more)

pub chosen_follows : (t : ℕ → Bool) (before : List ℕ) (a m : ℕ) → list_all (λ i. ltb i a) before ≡ true → Follows before (chosen t a m)
chosen_follows t before a zero h = tt
chosen_follows t before a (suc m) h =
    follows_cond (t a) before a (chosen t (a + 1) m) h (chosen_follows t before (a + 1) m (all_more a before h))
    (chosen_follows t (before ++ a ∷ []) (a + 1) m (all_push a before h))
