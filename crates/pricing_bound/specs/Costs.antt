-- What a rider costs grows with the moments, and sums that differ at one number.
use Rattle.std.proofs.Common.{◌≡◌, ℕ, zero, suc, ◌+◌, ◌-◌, ◌<◌, ◌≤◌, Bool, true, false, cond, ltb, subst, inl, inr, arith}
use Rattle.std.specs.Prelude.{ℤ, pos, ◌+ℤ◌, ◌≤ℤ◌, int_lt}
use Rattle.std.proofs.lemmas.Int.{ints}
use Rattle.std.proofs.Math.Nat.{eq-or-lt_of_le, mul-le-mul_left}
use Rattle.call_sets.specs.Counting.{sum_below}
use Rattle.call_sets.proofs.Sums.{sum_below-same}
use Rattle.elevator_model.specs.Building.{Building}
use Rattle.elevator_model.specs.Snapshot.{Snapshot, call_count, call_of}
use Rattle.elevator_model.specs.Tours.{persons_of}
use Rattle.elevator_model.specs.Costs.{cost_of_wait, cost_of_rider}
use Rattle.search_model.specs.Sums.{int_sum_below}
use Rattle.search_model.proofs.SumLemmas.{int_sum-same}

wait-le : (b : Building) (x y : ℕ) → x ≤ y → cost_of_wait b x ≤ cost_of_wait b y
wait-le b x y h =
    let all = mul-le-mul_left b.wait_weight h in
    let longer : x - b.patience ≤ y - b.patience = omega (arith, h) in
    let past = mul-le-mul_left b.patience_weight longer in
    omega (arith, all, past)

wait_or_none-le : (t : Bool) (x y : ℕ) → x ≤ y → cond t x 0 ≤ cond t y 0
wait_or_none-le true x y h = h
wait_or_none-le false x y h = omega arith

-- who boards no earlier and rides no shorter costs no less
pub rider-later : (s : Snapshot) (r b d b' d' : ℕ) → b ≤ b' → d - b ≤ d' - b' → cost_of_rider s r b d ≤ cost_of_rider s r b' d'
rider-later s r b d b' d' later longer =
    let wait : b - (call_of s r).released ≤ b' - (call_of s r).released = omega (arith, later) in
    let waits = wait_or_none-le (ltb r (call_count s)) _ _ (wait-le s.building (b - (call_of s r).released) (b' - (call_of s r).released) wait) in
    let rides = mul-le-mul_left s.building.travel_weight longer in
    mul-le-mul_left (persons_of s r) (omega (arith, waits, rides))

-- ---- two sums that differ at one number

pub sum_one_off : (n j : ℕ) (f g : ℕ → ℕ) (more : ℕ) → j < n → g j ≡ f j + more → ((k : ℕ) → (k ≡ j → ⊥) → g k ≡ f k) → sum_below n g ≡ sum_below n f + more
sum_one_off zero j f g more b here same = absurd (omega arith)
sum_one_off (suc n) j f g more b here same =
    let le : j ≤ n = omega arith in
    elim (eq-or-lt_of_le le) [
      | inl e ↦ (let below = sum_below-same n g f (λ k lt. same k (λ eq. omega arith)) in let last = subst (λ (x : ℕ). g x ≡ f x + more) e here in
          omega (arith, below, last))
      | inr lt ↦ (let rest = sum_one_off n j f g more lt here same in let last = same n (λ eq. omega arith) in omega (arith, rest, last))
    ]

pub int_sum_one_off : (n j : ℕ) (f g : ℕ → ℤ) (more : ℤ) → j < n → g j ≡ f j +ℤ more → ((k : ℕ) → (k ≡ j → ⊥) → g k ≡ f k)
    → int_sum_below n g ≡ int_sum_below n f +ℤ more
int_sum_one_off zero j f g more b here same = absurd (omega arith)
int_sum_one_off (suc n) j f g more b here same =
    let le : j ≤ n = omega arith in
    elim (eq-or-lt_of_le le) [
      | inl e ↦ (let below = int_sum-same n g f (λ k lt. same k (λ eq. omega arith)) in let last = subst (λ (x : ℕ). g x ≡ f x +ℤ more) e here in
          omega (arith, ints, below, last))
      | inr lt ↦ (let rest = int_sum_one_off n j f g more lt here same in let last = same n (λ eq. omega arith) in omega (arith, ints, rest, last))
    ]

-- ---- what a waiting call adds

pub low : (t : ℤ) → cond (int_lt t (pos 0)) t (pos 0) ≤ℤ t
low t = grind (arith, ints)

pub low_zero : (t : ℤ) → cond (int_lt t (pos 0)) t (pos 0) ≤ℤ pos 0
low_zero t = grind (arith, ints)

low-le : (t u : ℤ) → t ≤ℤ u → cond (int_lt t (pos 0)) t (pos 0) ≤ℤ cond (int_lt u (pos 0)) u (pos 0)
low-le t u h = grind (arith, ints)

-- required or not, a greater term adds no less
pub term-le : (r : Bool) (t u : ℤ) → t ≤ℤ u → cond r t (cond (int_lt t (pos 0)) t (pos 0)) ≤ℤ cond r u (cond (int_lt u (pos 0)) u (pos 0))
term-le true t u h = h
term-le false t u h = low-le t u h

pub term-most : (r : Bool) (t : ℤ) → cond r t (cond (int_lt t (pos 0)) t (pos 0)) ≤ℤ t
term-most true t = omega (arith, ints)
term-most false t = low t
