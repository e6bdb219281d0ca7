-- The least time, by a root where the greatest speed is not kept, and by a quotient where it is.
use Rattle.std.proofs.Common.{◌≡◌, ℕ, ◌+◌, ◌-◌, ◌*◌, ◌<◌, ◌≤◌, IsTrue, inl, inr, arith}
use Rattle.std.specs.Int.{div_ceil}
use Rattle.std.proofs.Math.Nat.{mul-le-mul_left, mul-le-mul, le_of_mul-le-mul_left, lt_of_mul-lt-mul_left}
use Rattle.std.proofs.lemmas.Grind.{div_ceil_times}
use Rattle.std.proofs.lemmas.Bool.{cases_lt}
use Rattle.elevator_model.specs.Travel.{covers, IsLeastTime}
use Rattle.car_motion.proofs.Covers.{CanCover, CanCover-from, covers-from, covers-less, covers-sum, past_top}

-- n is the quotient of m by k, rounded up
record IsQuotientUp (m k n : ℕ) : Type 0 where
  enough : m ≤ n * k
  close : n * k < m + k

quotient_up : (m k : ℕ) → 0 < k → IsQuotientUp m k (div_ceil m k)
quotient_up m k positive = let bounds = div_ceil_times m k positive in record { enough = bounds.0; close = bounds.1 }

-- no less number does
quotient_up-least : (m k n u : ℕ) → IsQuotientUp m k n → m ≤ u * k → n ≤ u
quotient_up-least m k n u quotient enough =
    let below : k * n < k * (u + 1) = omega (arith, quotient.close, enough) in
    let next : n < u + 1 = lt_of_mul-lt-mul_left k below in
    omega arith

-- where the greatest speed is not kept
square_of_top : (v a d : ℕ) → 0 < a → a * d ≤ v * v → (t : ℕ) → 2000 * v < a * t → 4000000 * d ≤ a * t * t
square_of_top v a d positive short t long =
    let lower : 2000 * v ≤ a * t = omega arith in
    let squares : 2000 * v * (2000 * v) ≤ a * t * (a * t) = mul-le-mul lower lower in
    let scaled : a * (4000000 * d) ≤ a * (a * t * t) = omega (arith, squares, short) in
    le_of_mul-le-mul_left scaled positive

short-enough : (v a d n : ℕ) → a * d ≤ v * v → 4000000 * d ≤ a * n * n → CanCover v a n d
short-enough v a d n short enough =
    elim (cases_lt (2000 * v) (a * n)) [
      | inl long ↦ inr (long, omega (arith, short, past_top v a n long))
      | inr within ↦ inl (within, enough)
    ]

short-square : (v a d u : ℕ) → 0 < a → a * d ≤ v * v → CanCover v a u d → 4000000 * d ≤ a * u * u
short-square v a d u positive short (inl w) = w.1
short-square v a d u positive short (inr w) = square_of_top v a d positive short u w.0

pub least-short : (v a d n : ℕ) → 0 < a → a * d ≤ v * v → div_ceil (4000000 * d) a ≤ n * n → ((r : ℕ) → div_ceil (4000000 * d) a ≤ r * r → n ≤ r)
    → IsLeastTime v a d n
least-short v a d n positive short root least =
    let quotient = quotient_up (4000000 * d) a positive in
    let scaled : a * div_ceil (4000000 * d) a ≤ a * (n * n) = mul-le-mul_left a root in
    record {
      enough = covers-from v a n d (short-enough v a d n short (omega (arith, quotient.enough, scaled)));
      least = λ u h. least u
          (quotient_up-least (4000000 * d) a (div_ceil (4000000 * d) a) (u * u) quotient
          (let square : 4000000 * d ≤ a * u * u = short-square v a d u positive short (CanCover-from v a u d h) in omega arith));
    }

-- where the greatest speed is kept
long-enough : (v a d n : ℕ) → v * v < a * d → 1000 * a * d + 1000 * v * v ≤ n * (a * v) → CanCover v a n d
long-enough v a d n long enough =
    let below : v * (2000 * v) < v * (a * n) = omega (arith, long, enough) in
    inr (lt_of_mul-lt-mul_left v below, omega (arith, enough))

long-quotient : (v a d u : ℕ) → v * v < a * d → CanCover v a u d → 1000 * a * d + 1000 * v * v ≤ u * (a * v)
long-quotient v a d u long (inl w) =
    let scaled : a * (4000000 * d) ≤ a * (a * u * u) = mul-le-mul_left a w.1 in
    let squares : a * u * (a * u) ≤ 2000 * v * (2000 * v) = mul-le-mul w.0 w.0 in
    absurd (omega (arith, scaled, squares, long))
long-quotient v a d u long (inr w) = omega (arith, w.1, past_top v a u w.0)

pub least-long : (v a d : ℕ) → 0 < a * v → v * v < a * d → IsLeastTime v a d (div_ceil (1000 * a * d + 1000 * v * v) (a * v))
least-long v a d positive long =
    let quotient = quotient_up (1000 * a * d + 1000 * v * v) (a * v) positive in
    record {
      enough = covers-from v a _ d (long-enough v a d _ long quotient.enough);
      least = λ u h. quotient_up-least (1000 * a * d + 1000 * v * v) (a * v) _ u quotient (long-quotient v a d u long (CanCover-from v a u d h));
    }

-- bounds and the triangle inequality
far : (p q : ℕ) → p ≤ 19900 → 1000000000 * (100 + q) + 1000 * (100 + p) * (100 + p) ≤ 10001000 * (100 + q) * (100 + p)
far p q small =
    let square : p * p ≤ 19900 * p = omega (arith, mul-le-mul_left p small) in
    omega (arith, square)

far_at : (v a p q : ℕ) → v ≡ 100 + p → a ≡ 100 + q → p ≤ 19900 → 1000000000 * a + 1000 * v * v ≤ 10001000 * a * v
far_at v a p q e f small = rw (e, f) (far p q small)

pub covers-farthest : (v a d : ℕ) → 100 ≤ v → v ≤ 20000 → 100 ≤ a → d ≤ 1000000 → IsTrue (covers v a 10001000 d)
covers-farthest v a d slow fast gentle near =
    let room = far_at v a (v - 100) (a - 100) (omega arith) (omega arith) (omega arith) in
    let distance : a * d ≤ a * 1000000 = mul-le-mul_left a near in
    covers-from v a 10001000 d (inr (omega arith, omega (arith, room, distance)))

pub IsLeastTime-le : (v a d t : ℕ) → 100 ≤ v → v ≤ 20000 → 100 ≤ a → d ≤ 1000000 → IsLeastTime v a d t → t ≤ 10001000
IsLeastTime-le v a d t slow fast gentle near time = time.least 10001000 (covers-farthest v a d slow fast gentle near)

pub IsLeastTime-triangle : (v a x y z r s t : ℕ) → 0 < a → z ≤ x + y → IsLeastTime v a x r → IsLeastTime v a y s → IsLeastTime v a z t → t ≤ r + s
IsLeastTime-triangle v a x y z r s t positive shorter first second direct =
    direct.least (r + s) (covers-less v a (r + s) z (x + y) shorter (covers-sum v a r s x y positive first.enough second.enough))
