-- Which distances can be covered in a time. With V = 2000 v and w = a t, the distance d can be covered
-- exactly where 4000000 a d is at most the reach: w² as long as w is at most V, and 2 V w - V² from there
-- on. The reach is convex and 0 at 0, so the reach of a sum is at least the sum of the reaches.
use Rattle.std.proofs.Common.{◌≡◌, ℕ, ◌+◌, ◌-◌, ◌*◌, ◌<◌, ◌≤◌, IsTrue, ◌⊎◌, inl, inr, arith}
use Rattle.std.proofs.Math.Nat.{mul-le-mul_left, le_of_mul-le-mul_left}
use Rattle.std.proofs.lemmas.Bool.Decides.{leb_tells}
use Rattle.std.proofs.lemmas.Bool.{leb-true, le-leb, cases_lt}
use Rattle.elevator_model.specs.Travel.{covers}

-- a time is so short that the greatest speed is not kept, or longer
abbrev pub CanCover : (v a t d : ℕ) → Type 0
CanCover v a t d =
    ((a * t ≤ 2000 * v) × (4000000 * d ≤ a * t * t)) ⊎ ((2000 * v < a * t) × (1000 * a * d ≤ a * v * t - 1000 * v * v))

pub CanCover-from : (v a t d : ℕ) → IsTrue (covers v a t d) → CanCover v a t d
CanCover-from v a t d h =
    elim (leb_tells (a * t) (2000 * v)) [
      | inl w ↦ inl (w.1, leb-true _ _ (rw w.0 at h))
      | inr w ↦ inr (w.1, leb-true _ _ (rw w.0 at h))
    ]

pub covers-short : (v a t d : ℕ) → a * t ≤ 2000 * v → 4000000 * d ≤ a * t * t → IsTrue (covers v a t d)
covers-short v a t d short enough = rw (le-leb (a * t) (2000 * v) short) (le-leb _ _ enough)

pub covers-long : (v a t d : ℕ) → 2000 * v < a * t → 1000 * a * d ≤ a * v * t - 1000 * v * v → IsTrue (covers v a t d)
covers-long v a t d long enough =
    elim (leb_tells (a * t) (2000 * v)) [
      | inl w ↦ absurd (omega arith)
      | inr w ↦ rw w.0 (le-leb _ _ enough)
    ]

pub covers-from : (v a t d : ℕ) → CanCover v a t d → IsTrue (covers v a t d)
covers-from v a t d (inl w) = covers-short v a t d w.0 w.1
covers-from v a t d (inr w) = covers-long v a t d w.0 w.1

-- what is within reach
abbrev pub Reaches : (V w distance : ℕ) → Type 0
Reaches V w distance = ((w ≤ V) × (distance ≤ w * w)) ⊎ ((V < w) × (distance + V * V ≤ 2 * V * w))

-- at more than the greatest speed, the reach is past 1000 v²
pub past_top : (v a t : ℕ) → 2000 * v < a * t → 2000 * v * v ≤ a * v * t
past_top v a t long =
    let lower : 2000 * v ≤ a * t = omega arith in
    omega (arith, mul-le-mul_left v lower)

pub Reaches-from : (v a t d : ℕ) → CanCover v a t d → Reaches (2000 * v) (a * t) (4000000 * a * d)
Reaches-from v a t d (inl w) = inl (w.0, omega (arith, mul-le-mul_left a w.1))
Reaches-from v a t d (inr w) = inr (w.0, omega (arith, w.1, past_top v a t w.0))

pub CanCover-reached : (v a t d : ℕ) → 0 < a → Reaches (2000 * v) (a * t) (4000000 * a * d) → CanCover v a t d
CanCover-reached v a t d positive (inl w) =
    let scaled : a * (4000000 * d) ≤ a * (a * t * t) = omega (arith, w.1) in
    inl (w.0, le_of_mul-le-mul_left scaled positive)
CanCover-reached v a t d positive (inr w) = inr (w.0, omega (arith, w.1, past_top v a t w.0))

hump : (p q r : ℕ) → (p + r) * (p + r) + (q + r) * (q + r) + (p + q + r) * (p + q + r) ≤ 2 * (p + q + r) * ((p + r) + (q + r))
hump p q r = omega arith

hump_at : (V w u p q r : ℕ) → w ≡ p + r → u ≡ q + r → V ≡ p + q + r → w * w + u * u + V * V ≤ 2 * V * (w + u)
hump_at V w u p q r e f g = rw (e, f, g) (hump p q r)

over_hump : (V w u : ℕ) → w ≤ V → u ≤ V → V < w + u → w * w + u * u + V * V ≤ 2 * V * (w + u)
over_hump V w u low high over = hump_at V w u (V - u) (V - w) (w + u - V) (omega arith) (omega arith) (omega arith)

pub Reaches-sum : (V w u x y : ℕ) → Reaches V w x → Reaches V u y → Reaches V (w + u) (x + y)
Reaches-sum V w u x y (inl k) (inl m) =
    elim (cases_lt V (w + u)) [
      | inl over ↦ inr (over, omega (arith, over_hump V w u k.0 m.0 over, k.1, m.1))
      | inr within ↦ inl (within, omega (arith, k.1, m.1))
    ]
Reaches-sum V w u x y (inl k) (inr m) = inr (omega (arith, k.0, m.0), omega (arith, k.1, m.1, mul-le-mul_left w k.0))
Reaches-sum V w u x y (inr k) (inl m) = inr (omega (arith, k.0, m.0), omega (arith, k.1, m.1, mul-le-mul_left u m.0))
Reaches-sum V w u x y (inr k) (inr m) = inr (omega (arith, k.0, m.0), omega (arith, k.1, m.1))

Reaches-like : (V w u x y : ℕ) → w ≡ u → x ≡ y → Reaches V w x → Reaches V u y
Reaches-like V w u x y e f h = rw (e, f) at h

pub covers-sum : (v a t u x y : ℕ) → 0 < a → IsTrue (covers v a t x) → IsTrue (covers v a u y) → IsTrue (covers v a (t + u) (x + y))
covers-sum v a t u x y positive first second =
    let near = Reaches-from v a t x (CanCover-from v a t x first) in
    let far = Reaches-from v a u y (CanCover-from v a u y second) in
    let both = Reaches-sum (2000 * v) (a * t) (a * u) (4000000 * a * x) (4000000 * a * y) near far in
    covers-from v a (t + u) (x + y)
    (CanCover-reached v a (t + u) (x + y) positive
    (Reaches-like (2000 * v) (a * t + a * u) (a * (t + u)) (4000000 * a * x + 4000000 * a * y) (4000000 * a * (x + y)) (omega arith) (omega arith) both))

less-covered : (v a t d e : ℕ) → d ≤ e → CanCover v a t e → CanCover v a t d
less-covered v a t d e less (inl w) = inl (w.0, omega (arith, w.1))
less-covered v a t d e less (inr w) = inr (w.0, omega (arith, w.1, mul-le-mul_left a less))

pub covers-less : (v a t d e : ℕ) → d ≤ e → IsTrue (covers v a t e) → IsTrue (covers v a t d)
covers-less v a t d e less h = covers-from v a t d (less-covered v a t d e less (CanCover-from v a t e h))
