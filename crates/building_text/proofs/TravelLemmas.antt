-- The travel times of heights, speed and acceleration are one square.
use Rattle.std.proofs.Common.{◌≡◌, ℕ, zero, suc, ◌+◌, ◌*◌, ◌/◌, ◌%◌, ◌<◌, List, length, get_or, sym, ap, ◌∙◌, arith}
use Rattle.std.specs.Prelude.{slice_index}
use Rattle.std.proofs.lemmas.List.{ext_get_or}
use Rattle.std.proofs.Math.Nat.{mod-lt, div-lt_iff_lt-mul, mod-add-div'}
use Rattle.elevator_model.specs.Travel.{Square, time_between, IsLeastTime, IsTravelOf}

same_least : (speed accel distance t u : ℕ) → IsLeastTime speed accel distance t → IsLeastTime speed accel distance u → t ≡ u
same_least speed accel distance t u p q = omega (arith, p.least u q.enough, q.least t p.enough)

is_some : (k n : ℕ) → k < n * n → 0 < n
is_some k zero lt = absurd (omega arith)
is_some k (suc n) lt = omega arith

abbrev square : ℕ → List ℕ → Square
square floors times = record { floors = floors; times = times }

same_times : (heights : List ℕ) (speed accel : ℕ) (t u : Square) → IsTravelOf heights speed accel t → IsTravelOf heights speed accel u → t.times ≡ u.times
same_times heights speed accel t u p q =
    ext_get_or 0 t.times u.times (p.size ∙ sym q.size)
    (λ k lt.
    let n = length heights in
    let some : 0 < n = is_some k n (omega (arith, p.size)) in
    let low : k % n < n = mod-lt k some in
    let high : k / n < n = (div-lt_iff_lt-mul some).1 (omega (arith, p.size)) in
    let place : k / n * n + k % n ≡ k = omega (arith, mod-add-div' k n) in
    let same : time_between t (k / n) (k % n) ≡ time_between u (k / n) (k % n) =
    same_least speed accel _ _ _ (p.least (k / n) (k % n) high low) (q.least (k / n) (k % n) high low) in
    let at_t : time_between t (k / n) (k % n) ≡ get_or t.times k 0 = ap (λ (m : ℕ). slice_index t.times (k / n * m + k % n)) p.floors
    ∙ ap (slice_index t.times) place in
    let at_u : time_between u (k / n) (k % n) ≡ get_or u.times k 0 = ap (λ (m : ℕ). slice_index u.times (k / n * m + k % n)) q.floors
    ∙ ap (slice_index u.times) place in
    sym at_t ∙ same ∙ at_u)

pub same_travel : (heights : List ℕ) (speed accel : ℕ) (t u : Square) → IsTravelOf heights speed accel t → IsTravelOf heights speed accel u → t ≡ u
same_travel heights speed accel t u p q = ap (λ (n : ℕ). square n t.times) (p.floors ∙ sym q.floors)
    ∙ ap (square u.floors) (same_times heights speed accel t u p q)
