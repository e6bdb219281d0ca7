-- Sums over all shares, and numbers counted in lists.
use Rattle.std.proofs.Common.{◌≡◌, ℕ, zero, suc, ◌+◌, ◌<◌, ◌≤◌, cond, eqb, leb, List, [], ◌∷◌, set, sum_by, sym, refl, ap, arith}
use Rattle.std.specs.List.{All, Any}
use Rattle.std.proofs.lemmas.List.Sums.{sum_by-cons, get_or-le-sum_by}
use Rattle.std.proofs.lemmas.List.Elements.{All-nil, All-cons, All-head, All-tail}
use Rattle.std.proofs.lemmas.Bool.Decides.{nat_tests}
use mathlib.Core.Option.{some, some-injective, some-ne-none}
use lib.ListN.{get_elem?}
use Rattle.work_fan.specs.Line.{times, past}

module _ {A : Type 0} (f : A → ℕ) where
  -- the sum after one element has changed
  pub sum_set : (xs : List A) (i : ℕ) (v w : A) → get_elem? xs i ≡ some v → sum_by f (set xs i w) + f v ≡ sum_by f xs + f w
  sum_set [] i v w at = absurd (some-ne-none v (sym at))
  sum_set (x ∷ xs) zero v w at = omega (arith, sum_by-cons f w xs, sum_by-cons f x xs, ap f (some-injective x v at))
  sum_set (x ∷ xs) (suc i) v w at = omega (arith, sum_by-cons f x (set xs i w), sum_by-cons f x xs, sum_set xs i v w at)

  -- one element is within the sum
  pub le_sum : (xs : List A) (i : ℕ) (v : A) → get_elem? xs i ≡ some v → f v ≤ sum_by f xs
  le_sum [] i v at = absurd (some-ne-none v (sym at))
  le_sum (x ∷ xs) zero v at = omega (arith, sum_by-cons f x xs, ap f (some-injective x v at))
  le_sum (x ∷ xs) (suc i) v at = omega (arith, sum_by-cons f x xs, le_sum xs i v at)

  pub sum_le : (g : A → ℕ) (xs : List A) → ((i : ℕ) (v : A) → get_elem? xs i ≡ some v → f v ≤ g v) → sum_by f xs ≤ sum_by g xs
  sum_le g [] each = omega arith
  sum_le g (x ∷ xs) each =
      omega (arith, sum_by-cons f x xs, sum_by-cons g x xs, each 0 x refl, sum_le g xs (λ i v at. each (suc i) v at))

  -- where f is 0 wherever g is, and g sums to 0, so does f
  sum_none : (g : A → ℕ) (xs : List A) → ((j : ℕ) (u : A) → get_elem? xs j ≡ some u → g u ≡ 0 → f u ≡ 0) → sum_by g xs ≡ 0 → sum_by f xs ≡ 0
  sum_none g [] idle none = refl
  sum_none g (x ∷ xs) idle none =
      let split = sum_by-cons g x xs in
      let here : g x ≡ 0 = omega arith in
      let rest : sum_by g xs ≡ 0 = omega arith in
      omega (arith, sum_by-cons f x xs, idle 0 x refl here, sum_none g xs (λ j u at. idle (suc j) u at) rest)

-- where f is 0 wherever g is, and one element has the whole sum of g, it has the whole sum of f
pub sum_alone : {A : Type 0} (f g : A → ℕ) (xs : List A) (i : ℕ) (v : A) → ((j : ℕ) (u : A) → get_elem? xs j ≡ some u → g u ≡ 0 → f u ≡ 0)
    → get_elem? xs i ≡ some v → sum_by g xs ≡ g v → sum_by f xs ≡ f v
sum_alone f g [] i v idle at whole = absurd (some-ne-none v (sym at))
sum_alone f g (x ∷ xs) zero v idle at whole =
    let split = sum_by-cons g x xs in
    let same : g x ≡ g v = ap g (some-injective x v at) in
    let rest : sum_by g xs ≡ 0 = omega arith in
    omega (arith, sum_by-cons f x xs, ap f (some-injective x v at), sum_none f g xs (λ j u at. idle (suc j) u at) rest)
sum_alone f g (x ∷ xs) (suc i) v idle at whole =
    let split = sum_by-cons g x xs in
    let within = le_sum g xs i v at in
    let here : g x ≡ 0 = omega arith in
    let rest : sum_by g xs ≡ g v = omega arith in
    omega (arith, sum_by-cons f x xs, idle 0 x refl here, sum_alone f g xs i v (λ j u at. idle (suc j) u at) at rest)

hit : (x y : ℕ) → x ≡ y → ◌≡◌ {A = ℕ} (cond (eqb x y) 1 0) 1
hit x y same = grind (arith, nat_tests)

miss : (count x : ℕ) → x < count → ◌≡◌ {A = ℕ} (cond (leb count x) 1 0) 0
miss count x below = grind (arith, nat_tests)

-- what is counted in a list holds of all its elements
pub all_from_times : (P : ℕ → Type 0) (xs : List ℕ) → ((k : ℕ) → 0 < times k xs → P k) → All P xs
all_from_times P [] each = All-nil P
all_from_times P (x ∷ xs) each =
    All-cons P x xs (each x (omega (arith, sum_by-cons (λ y. cond (eqb y x) 1 0) x xs, hit x x refl)))
    (all_from_times P xs (λ k h. each k (omega (arith, sum_by-cons (λ y. cond (eqb y k) 1 0) x xs))))

-- no number of the list is at or past the count
pub past-none : (count : ℕ) (xs : List ℕ) → All (λ n. n < count) xs → past count xs ≡ 0
past-none count [] below = refl
past-none count (x ∷ xs) below =
    omega (
      arith,
      sum_by-cons (λ y. cond (leb count y) 1 0) x xs,
      miss count x (All-head (λ n. n < count) x xs below),
      past-none count xs (All-tail (λ n. n < count) x xs below),
    )

-- some number of the list is counted in it
pub times_from_any : (P : ℕ → Type 0) (xs : List ℕ) → Any P xs → (k : ℕ) × P k × (0 < times k xs)
times_from_any P xs any =
    (any.1, any.4, omega (arith, get_or-le-sum_by (λ y. cond (eqb y any.1) 1 0) xs any.0 any.1 any.2, hit _ _ any.3))
