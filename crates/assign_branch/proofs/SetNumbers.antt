-- Sets as the numbers that have their members as ones.
use Rattle.std.proofs.Common.{◌≡◌, ℕ, ◌*◌, ◌%◌, ◌^◌, ◌<◌, ◌≤◌, eqb, Bool, false, not, ◌&&◌, ap, ◌∙◌, sym, inl, inr, arith}
use Rattle.std.specs.Int.{bit_at}
use Rattle.std.proofs.lemmas.Bool.{cases_lt}
use Rattle.std.proofs.lemmas.Bool.Decides.{nat_tests}
use Rattle.std.proofs.lemmas.Nat.Bits.{same_from_bits, bit_at-lt}
use Rattle.std.proofs.Math.Nat.{mod-eq_of_lt}
use Rattle.std.proofs.Math.Pow.{pow-lt}
use Rattle.call_sets.specs.Counting.{has}
use Rattle.call_sets.proofs.Bits.{has_none_above}
use Rattle.search_model.specs.Nodes.{set_where, rest_of}
use Rattle.search_model.proofs.SetLemmas.{has-set_where, set_where-below}

same_bit : (x y : ℕ) → x < 2 → y < 2 → eqb x 1 ≡ eqb y 1 → x ≡ y
same_bit x y p q e = grind (arith, nat_tests, e)

-- a set that has the numbers below n that pass the test, and no others
pub set_where-is : (n set : ℕ) (t : ℕ → Bool) → ((k : ℕ) → k < n → has set k ≡ t k) → ((k : ℕ) → n ≤ k → has set k ≡ false) → set ≡ set_where n t
set_where-is n set t members none =
    same_from_bits set (set_where n t)
    (λ k. same_bit (bit_at set k) (bit_at (set_where n t) k) (bit_at-lt set k) (bit_at-lt (set_where n t) k) (elim (cases_lt k n) [
      | inl lt ↦ members k lt ∙ sym (has-set_where n t k lt)
      | inr past ↦ none k past ∙ sym (has_none_above n (set_where n t) k (set_where-below n t) past)
    ]))

pub rest_of-is : (set part rest : ℕ) → rest < 2 ^ 16 → ((k : ℕ) → has rest k ≡ (has set k && not (has part k))) → rest ≡ rest_of set part
rest_of-is set part rest small is =
    set_where-is 16 rest (λ k. has set k && not (has part k)) (λ k lt. is k) (λ k past. has_none_above 16 rest k small past)

-- the number of a set of one car, as it is computed
pub single_number : (car : ℕ) → car < 16 → 1 * 2 ^ car % 65536 ≡ 2 ^ car
single_number car lt =
    let small : 2 ^ car < 2 ^ 16 = pow-lt lt in
    let one : 1 * 2 ^ car ≡ 2 ^ car = omega arith in
    ap (λ (x : ℕ). x % 65536) one ∙ mod-eq_of_lt small
