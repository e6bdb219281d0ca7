-- The greatest common divisor, and means in lowest terms.
use Rattle.std.proofs.Common.{◌≡◌, ℕ, zero, suc, ◌<◌, ◌≤◌, ◌%◌, ◌/◌, ◌&&◌, Bool, true, false, cond, refl, ap, arith, eqb}
use Rattle.std.specs.Prelude.{max}
use Rattle.std.specs.Int.{IsGcd}
use Rattle.std.proofs.lemmas.Bool.{eq-eqb, eqb-true, ne_eqb, and_parts, and_from}
use Rattle.std.proofs.lemmas.Nat.Gcd.{le_of_dvd, dvd_of_mod-eq-zero, mod-eq-zero_of_dvd}
use Rattle.search_model.specs.Reports.{common_up_to, mean_over, mean_under}

step : (n a b g : ℕ) (t : Bool) → (eqb (a % suc n) 0 && eqb (b % suc n) 0) ≡ t → IsGcd a b g → 0 < g → g ≤ suc n → (g ≤ n → common_up_to n a b ≡ g)
    → cond t (suc n) (common_up_to n a b) ≡ g
step n a b g true e is some le later =
    let both = and_parts (eqb (a % suc n) 0) (eqb (b % suc n) 0) e in
    let divides = is.2 (suc n) (dvd_of_mod-eq-zero (suc n) (eqb-true _ _ both.0)) (dvd_of_mod-eq-zero (suc n) (eqb-true _ _ both.1)) in
    let low : suc n ≤ g = le_of_dvd some divides in
    omega arith
step n a b g false e is some le later =
    let other : g ≡ suc n → ⊥ = λ same.
    let first = eq-eqb (a % suc n) 0 (mod-eq-zero_of_dvd (suc n) (rw same at is.0)) in
    let second = eq-eqb (b % suc n) 0 (mod-eq-zero_of_dvd (suc n) (rw same at is.1)) in
    let both = and_from (eqb (a % suc n) 0) (eqb (b % suc n) 0) first second in
    cc (both, e)
    in
    later (omega (arith, other))

pub common_is : (n a b g : ℕ) → IsGcd a b g → 0 < g → g ≤ n → common_up_to n a b ≡ g
common_is zero a b g is some le = absurd (omega arith)
common_is (suc n) a b g is some le = step n a b g (eqb (a % suc n) 0 && eqb (b % suc n) 0) refl is some le (λ less. common_is n a b g is some less)

-- ---- means, where no number counts as one

common_of_one : (sum : ℕ) → common_up_to 1 sum 1 ≡ 1
common_of_one sum = elim (eqb (sum % 1) 0 && eqb (1 % 1) 0) as (λ b. ◌≡◌ {A = ℕ} (cond b 1 1) 1) [ true ↦ refl | false ↦ refl ]

pub over_is : (sum count : ℕ) → sum / common_up_to (max count 1) sum (max count 1) ≡ mean_over sum count
over_is sum zero = ap (λ common. sum / common) (common_of_one sum)
over_is sum (suc n) = let e : max (suc n) 1 ≡ suc n = omega arith in rw e

pub under_is : (sum count : ℕ) → max count 1 / common_up_to (max count 1) sum (max count 1) ≡ mean_under sum count
under_is sum zero = ap (λ common. 1 / common) (common_of_one sum)
under_is sum (suc n) =
    let e : max (suc n) 1 ≡ suc n = omega arith in
    let some : eqb (suc n) 0 ≡ false = ne_eqb (suc n) 0 (λ is. omega (arith, is)) in
    rw (e, some)
