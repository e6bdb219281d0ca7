-- Loops over words.
use Rattle.std.proofs.Common.{◌≡◌, ◌∙◌, ◌<◌, ◌≤◌, ◌+◌, ◌-◌, ◌⊎◌, ℕ, Bool, false, List, [], map, length, take, drop, slice_index_or, subst, sym, ap, inl, inr}
use Rattle.std.proofs.Common.{arith, IsTrue, true≢false}
use Rattle.std.specs.List.{Contains}
use Rattle.std.proofs.lemmas.List.{get_or-map, get_or-drop, drop-map, take_rest, length-drop, length-map}
use Rattle.std.proofs.lemmas.Bool.{cases_lt}
use Rattle.clap.specs.Walk.{Text}
use Rattle.option_words.specs.Repeats.{IsRepeated, Repeats, RepeatsOneOf}

-- what holds below n and at n holds below n + 1
pub below_more : (P : ℕ → Type 0) (n : ℕ) → ((k : ℕ) → k < n → P k → ⊥) → (P n → ⊥) → (k : ℕ) → k < n + 1 → P k → ⊥
below_more P n before here k lt = by_case (cases_lt k n)
  where
    by_case : (k < n) ⊎ (n ≤ k) → P k → ⊥
    by_case (inl less) p = before k less p
    by_case (inr more) p = let same : k ≡ n = omega arith in here (subst P same p)

-- a test that fails, of what it is to tell
pub refuted : (b : Bool) {P : Type 0} → b ≡ false → (P → IsTrue b) → P → ⊥
refuted b is h p = absurd (true≢false (sym (h p) ∙ is))

pub never : {P : Type 0} → IsTrue false → P
never e = absurd (true≢false (sym e))

module _ {X : Type 0} (f : X → Text) (xs : List X) (k : ℕ) (x : X) (lt : k < length xs) (at : x ≡ slice_index_or xs k x) where
  pub inside : k < length (map f xs)
  inside = omega (arith, length-map xs f)

  pub word_is : (d : Text) → slice_index_or (map f xs) k d ≡ f x
  word_is d = get_or-map f xs k x d lt ∙ ap f (sym at)

  pub found : (t : Text) → f x ≡ t → Contains (map f xs) t
  found t is = (k, inside, word_is t ∙ is)

  pub found_repeat : (word : Text) → Repeats word (f x) → RepeatsOneOf word (map f xs)
  found_repeat word r = (k, inside, subst (Repeats word) (sym (word_is [])) r)

  -- the words behind this one
  rest_is : map f (take (length xs - (k + 1)) (drop (k + 1) xs)) ≡ drop (k + 1) (map f xs)
  rest_is = ap (map f) (take_rest xs (k + 1)) ∙ sym (drop-map f (k + 1) xs)

  pub from_rest : RepeatsOneOf (f x) (map f (take (length xs - (k + 1)) (drop (k + 1) xs)))
      → RepeatsOneOf (slice_index_or (map f xs) k []) (drop (k + 1) (map f xs))
  from_rest r = subst (λ w. RepeatsOneOf w (drop (k + 1) (map f xs))) (sym (word_is [])) (subst (RepeatsOneOf (f x)) rest_is r)

  pub to_rest : RepeatsOneOf (slice_index_or (map f xs) k []) (drop (k + 1) (map f xs))
      → RepeatsOneOf (f x) (map f (take (length xs - (k + 1)) (drop (k + 1) xs)))
  to_rest r = subst (RepeatsOneOf (f x)) (sym rest_is) (subst (λ w. RepeatsOneOf w (drop (k + 1) (map f xs))) (word_is []) r)

-- a word that repeats an earlier one stands behind it
pub repeated : (words : List Text) (k : ℕ) → RepeatsOneOf (slice_index_or words k []) (drop (k + 1) words) → IsRepeated words
repeated words k r = record {
  first = k;
  second = (k + 1) + r.0;
  order = omega arith;
  within = behind r.1;
  repeats = subst (Repeats (slice_index_or words k [])) (get_or-drop (k + 1) words r.0 []) r.2;
}
  where
    behind : r.0 < length (drop (k + 1) words) → (k + 1) + r.0 < length words
    behind lt = omega (arith, length-drop (k + 1) words)

pub repeated_at : (words : List Text) (r : IsRepeated words) → RepeatsOneOf (slice_index_or words r.first []) (drop (r.first + 1) words)
repeated_at words r =
    let place : (r.first + 1) + (r.second - (r.first + 1)) ≡ r.second = omega (arith, r.order) in
    let word : slice_index_or (drop (r.first + 1) words) (r.second - (r.first + 1)) [] ≡ slice_index_or words r.second [] =
    get_or-drop (r.first + 1) words (r.second - (r.first + 1)) [] ∙ ap (λ k. slice_index_or words k []) place in
    (r.second - (r.first + 1), inside_rest r.order r.within, subst (Repeats (slice_index_or words r.first [])) (sym word) r.repeats)
  where
    inside_rest : r.first < r.second → r.second < length words → r.second - (r.first + 1) < length (drop (r.first + 1) words)
    inside_rest order within = omega (arith, length-drop (r.first + 1) words)

-- none of the words up to n, which is their end, is repeated behind it
pub none_repeated : {X : Type 0} (f : X → Text) (xs : List X) (n : ℕ) → length xs ≤ n
    → ((k : ℕ) → k < n → RepeatsOneOf (slice_index_or (map f xs) k []) (drop (k + 1) (map f xs)) → ⊥) → IsRepeated (map f xs) → ⊥
none_repeated f xs n all none r = none r.first (omega (arith, r.order, r.within, length-map xs f)) (repeated_at (map f xs) r)
