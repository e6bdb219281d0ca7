-- The boards of a stop by rising index.
use Rattle.std.proofs.Common.{◌≡◌, ℕ, zero, suc, ◌+◌, ◌<◌, ◌≤◌, ◌==◌, ◌&&◌, Bool, true, false, cond, List, [], ◌∷◌, ◌++◌, filter, refl, sym, ap, ◌∙◌, subst}
use Rattle.std.proofs.Common.{arith, append_assoc, ◌⊎◌, inl, inr}
use Rattle.std.specs.Prelude.{◌||◌, nat_lt, All}
use Rattle.std.specs.List.{flat_map, range_with_len, AllByRecursion}
use Rattle.std.proofs.lemmas.Bool.{cases_Bool, eqb-true, false≢true, lt-ltb}
use Rattle.std.proofs.lemmas.Grind.{flat_map-append}
use Rattle.call_sets.specs.Counting.{has, is_among, members}
use Rattle.elevator_model.specs.Snapshot.{Snapshot, IsAccepted, call_count, call_of}
use Rattle.lift_text.specs.Text.{word}
use Rattle.answer_text.specs.Plans.{AreCalls, by_index}

-- ---- lists

pub flat_map-flat_map : {X Y Z : Type 0} (f : Y → List Z) (g : X → List Y) (xs : List X) → flat_map f (flat_map g xs) ≡ flat_map (λ x. flat_map f (g x)) xs
flat_map-flat_map f g [] = refl
flat_map-flat_map {X} {Y} {Z} f g (x ∷ xs) = flat_map-append f (g x) (flat_map g xs)
    ∙ ap (λ (rest : List Z). flat_map f (g x) ++ rest) (flat_map-flat_map f g xs)

-- what passes a test only at the first numbers of a range
module _ {Y : Type 0} (p : ℕ → Bool) (f : ℕ → List Y) (nothing : (j : ℕ) → p j ≡ false → f j ≡ []) where
  passing_first : (m k a : ℕ) → k ≤ m → ((j : ℕ) → p j ≡ true → j < a + k) → flat_map f (filter p (range_with_len a m)) ≡ flat_map f (range_with_len a k)
  passing_first zero zero a few below = refl
  passing_first zero (suc k) a few below = absurd (omega (arith, few))
  passing_first (suc m) zero a few below =
      let later = filter p (range_with_len (a + 1) m) in
      elim (cases_Bool (p a)) [
        | inl is ↦ let low = below a is in absurd (omega (arith, low))
        | inr not ↦ ap (λ (e : Bool). flat_map f (cond e (a ∷ later) later)) not
            ∙ passing_first m zero (a + 1) (omega arith) (λ j is. (let low = below j is in omega (arith, low)))
      ]
  passing_first (suc m) (suc k) a few below =
      let later = filter p (range_with_len (a + 1) m) in
      let rest = passing_first m k (a + 1) (omega (arith, few)) (λ j is. (let low = below j is in omega (arith, low))) in
      elim (cases_Bool (p a)) [
        | inl is ↦ ap (λ (e : Bool). flat_map f (cond e (a ∷ later) later)) is ∙ ap (λ (ys : List Y). f a ++ ys) rest
        | inr not ↦ ap (λ (e : Bool). flat_map f (cond e (a ∷ later) later)) not ∙ rest
            ∙ ap (λ (ys : List Y). ys ++ flat_map f (range_with_len (a + 1) k)) (sym (nothing a not))
      ]

pub each_kept : (p : ℕ → Bool) (P : ℕ → Type 0) (xs : List ℕ) → ((j : ℕ) → p j ≡ true → P j) → AllByRecursion P (filter p xs)
each_kept p P [] holds = tt
each_kept p P (x ∷ xs) holds =
    let later = each_kept p P xs holds in
    elim (cases_Bool (p x)) [
      | inl is ↦ subst (λ (e : Bool). AllByRecursion P (cond e (x ∷ filter p xs) (filter p xs))) (sym is) (holds x is, later)
      | inr not ↦ subst (λ (e : Bool). AllByRecursion P (cond e (x ∷ filter p xs) (filter p xs))) (sym not) later
    ]

-- ---- the boards that are one call

or_none : (a b : Bool) → (a || b) ≡ false → (a ≡ false) × (b ≡ false)
or_none true b e = absurd (false≢true (sym e))
or_none false b e = (refl, e)

or_cases : (a b : Bool) → (a || b) ≡ true → (a ≡ true) ⊎ (b ≡ true)
or_cases true b e = inl refl
or_cases false b e = inr e

none_among : (j : ℕ) (boards : List ℕ) → is_among j boards ≡ false → filter (λ x. x == j) boards ≡ []
none_among j [] none = refl
none_among j (x ∷ boards) none =
    let parts = or_none (x == j) (is_among j boards) none in
    let later = filter (λ y. y == j) boards in
    ap (λ (e : Bool). cond e (x ∷ later) later) parts.0 ∙ none_among j boards parts.1

among_below : (n : ℕ) (boards : List ℕ) (j : ℕ) → All (λ x. x < n) boards → is_among j boards ≡ true → j < n
among_below n [] j calls among = absurd (false≢true among)
among_below n (x ∷ boards) j calls among =
    elim (or_cases (x == j) (is_among j boards) among) [
      | inl here ↦ subst (λ (k : ℕ). k < n) (eqb-true x j here) (calls 0 0 (omega arith))
      | inr later ↦ among_below n boards j (λ k d below. calls (suc k) d (omega arith)) later
    ]

same_words : (s : Snapshot) (j : ℕ) (boards : List ℕ)
    → flat_map (λ x. word (call_of s j).id) (filter (λ x. x == j) boards) ≡ flat_map (λ i. word (call_of s i).id) (filter (λ x. x == j) boards)
same_words s j [] = refl
same_words s j (x ∷ boards) =
    let later = filter (λ y. y == j) boards in
    let rest = same_words s j boards in
    elim (cases_Bool (x == j)) [
      | inl is ↦
          ap (λ (e : Bool). flat_map (λ y. word (call_of s j).id) (cond e (x ∷ later) later)) is
          ∙ ap (λ (ys : List ℕ). word (call_of s j).id ++ ys) rest
          ∙ ap (λ (i : ℕ). word (call_of s i).id ++ flat_map (λ y. word (call_of s y).id) later) (sym (eqb-true x j is))
          ∙ ap (λ (e : Bool). flat_map (λ y. word (call_of s y).id) (cond e (x ∷ later) later)) (sym is)
      | inr not ↦
          ap (λ (e : Bool). flat_map (λ y. word (call_of s j).id) (cond e (x ∷ later) later)) not ∙ rest
          ∙ ap (λ (e : Bool). flat_map (λ y. word (call_of s y).id) (cond e (x ∷ later) later)) (sym not)
    ]

-- ---- the set of the boards

module _ (s : Snapshot) (boards : List ℕ) (set : ℕ) (is_set : (k : ℕ) → has set k ≡ (nat_lt k 128 && is_among k boards)) (calls : AreCalls s boards) where
  abbrev pub words_at : ℕ → List ℕ
  words_at j = flat_map (λ i. word (call_of s i).id) (filter (λ x. x == j) boards)

  and_right : (a b : Bool) → (a && b) ≡ true → b ≡ true
  and_right true b e = e
  and_right false b e = absurd (false≢true e)

  low : (j : ℕ) → has set j ≡ true → j < call_count s
  low j is = among_below (call_count s) boards j calls (and_right (nat_lt j 128) (is_among j boards) (sym (is_set j) ∙ is))

  nothing_at : call_count s ≤ 128 → (j : ℕ) → has set j ≡ false → words_at j ≡ []
  nothing_at few j none =
      elim (cases_Bool (is_among j boards)) [
        | inl among ↦
            let small = among_below (call_count s) boards j calls among in
            let within : nat_lt j 128 ≡ true = lt-ltb j 128 (omega (arith, small, few)) in
            let both : (nat_lt j 128 && is_among j boards) ≡ true = ap (λ (e : Bool). e && is_among j boards) within ∙ among in
            absurd (false≢true (sym none ∙ is_set j ∙ both))
        | inr apart ↦ ap (flat_map (λ i. word (call_of s i).id)) (none_among j boards apart)
      ]

  pub members_written : call_count s ≤ 128 → flat_map words_at (members 128 set) ≡ flat_map (λ i. word (call_of s i).id) (by_index s boards)
  unfolding members
  members_written few =
      passing_first (has set) words_at (nothing_at few) 128 (call_count s) 0 few (λ j is. (let small = low j is in omega (arith, small)))
      ∙ sym (flat_map-flat_map (λ i. word (call_of s i).id) (λ j. filter (λ x. x == j) boards) (range_with_len 0 (call_count s)))

  pub members_calls : AllByRecursion (λ j. j < call_count s) (members 128 set)
  unfolding members
  members_calls = each_kept (has set) (λ j. j < call_count s) (range_with_len 0 128) low

-- ---- one call more

pub next_written : (s : Snapshot) (boards out new whole later left : List ℕ) (j : ℕ)
    → out ++ flat_map (λ k. flat_map (λ i. word (call_of s i).id) (filter (λ x. x == k) boards)) left ≡ whole → left ≡ j ∷ later
    → new ≡ out ++ flat_map (λ x. word (call_of s j).id) (filter (λ x. x == j) boards)
    → new ++ flat_map (λ k. flat_map (λ i. word (call_of s i).id) (filter (λ x. x == k) boards)) later ≡ whole
next_written s boards out new whole later left j so_far first put =
    let words : ℕ → List ℕ = λ k. flat_map (λ i. word (call_of s i).id) (filter (λ x. x == k) boards) in
    ap (λ (xs : List ℕ). xs ++ flat_map words later) (put ∙ ap (λ (xs : List ℕ). out ++ xs) (same_words s j boards))
    ∙ append_assoc out (words j) (flat_map words later)
    ∙ ap (λ (js : List ℕ). out ++ flat_map words js) (sym first) ∙ so_far

-- ---- few calls

pub calls_few : (s : Snapshot) → IsAccepted s → call_count s ≤ 128
calls_few s accepted = at_most (s.building.version == 1) accepted.calls_high
  where
    at_most : (is : Bool) → call_count s ≤ cond {A = ℕ} is 64 128 → call_count s ≤ 128
    at_most true few = omega (arith, few)
    at_most false few = few
