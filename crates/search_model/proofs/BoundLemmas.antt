-- Completion bounds with fewer allowed and more required calls.
use Rattle.std.proofs.Common.{◌≡◌, ℕ, Bool, true, false, not, ◌&&◌, cond, refl, arith}
use Rattle.std.specs.Prelude.{ℤ, pos, ◌+ℤ◌, ◌-ℤ◌, ◌≤ℤ◌, int_lt}
use Rattle.std.proofs.lemmas.Int.{ints}
use Rattle.std.proofs.lemmas.Bool.{cond_both, both_ways}
use Rattle.elevator_model.specs.Snapshot.{call_count}
use Rattle.elevator_model.specs.Tours.{Progress}
use Rattle.elevator_model.specs.Partial.{progress_after}
use Rattle.search_model.specs.Prices.{scaled}
use Rattle.search_model.specs.Bounds.{cost_if_alone, waiting_term, positive_part, NarrowLaw, LeastLaw}
use Rattle.search_model.proofs.SumLemmas.{int_sum-le, int_sum-add, int_sum-zero}

-- a call that is not required counts only where it lowers the bound
low : (t : ℤ) → cond (int_lt t (pos 0)) t (pos 0) ≤ℤ t
low t = grind (arith, ints)

low_zero : (t : ℤ) → cond (int_lt t (pos 0)) t (pos 0) ≤ℤ pos 0
low_zero t = grind (arith, ints)

over : (z : ℤ) → z ≤ℤ positive_part z
over z = grind (arith, ints)

over_zero : (z : ℤ) → pos 0 ≤ℤ (pos 0 +ℤ positive_part z)
over_zero z = grind (arith, ints)

at_call : (boarded allowed required allowed' required' : Bool) (t : ℤ) → (allowed' ≡ true → allowed ≡ true) → (required ≡ true → required' ≡ true)
    → (required' ≡ true → allowed' ≡ true)
    → cond (allowed && not boarded) (cond required t (cond (int_lt t (pos 0)) t (pos 0))) (pos 0) ≤ℤ cond (allowed' && not boarded)
    (cond required' t (cond (int_lt t (pos 0)) t (pos 0))) (pos 0)
at_call true true r true r' t a b c = omega (arith, ints)
at_call true true r false r' t a b c = omega (arith, ints)
at_call true false r true r' t a b c = omega (arith, ints)
at_call true false r false r' t a b c = omega (arith, ints)
at_call false false r true r' t a b c = absurd (both_ways false refl (a refl))
at_call false false r false r' t a b c = omega (arith, ints)
at_call false true true true true t a b c = omega (arith, ints)
at_call false true true true false t a b c = absurd (both_ways false refl (b refl))
at_call false true false true true t a b c = low t
at_call false true false true false t a b c = omega (arith, ints)
at_call false true true false true t a b c = absurd (both_ways false refl (c refl))
at_call false true true false false t a b c = absurd (both_ways false refl (b refl))
at_call false true false false r' t a b c = low_zero t

pub bound_narrows : NarrowLaw
bound_narrows s c price allowed required allowed' required' x fewer more inside =
    let p : Progress = progress_after s c x.before x.present in
    let term : ℕ → ℤ = λ j. scaled (cost_if_alone s j p.opened) -ℤ price j in
    let sums = int_sum-le (call_count s) (λ j. cond (allowed j && not (p.boarded j)) (waiting_term s price required p j) (pos 0))
    (λ j. cond (allowed' j && not (p.boarded j)) (waiting_term s price required' p j) (pos 0))
    (λ j lt. at_call (p.boarded j) (allowed j) (required j) (allowed' j) (required' j) (term j) (fewer j) (more j) (inside j)) in
    omega (arith, ints, sums)

-- what a call adds is at least the negative of its price, or of 0 where that is negative
at_least : (allowed boarded required : Bool) (cost : ℕ) (price : ℤ)
    → pos 0 ≤ℤ (cond (allowed && not boarded)
    (cond required (scaled cost -ℤ price) (cond (int_lt (scaled cost -ℤ price) (pos 0)) (scaled cost -ℤ price) (pos 0))) (pos 0) +ℤ cond
    (allowed && not boarded) (positive_part price) (pos 0))
at_least true true required cost price = omega (arith, ints)
at_least false true required cost price = omega (arith, ints)
at_least false false required cost price = omega (arith, ints)
at_least true false true cost price = let own = over price in omega (arith, ints, own)
at_least true false false cost price =
    let own = over price in
    cond_both (int_lt (scaled cost -ℤ price) (pos 0)) (scaled cost -ℤ price) (pos 0) (λ (z : ℤ). pos 0 ≤ℤ (z +ℤ positive_part price))
    (λ e. omega (arith, ints, own)) (λ e. over_zero price)

pub bound_is_at_least : LeastLaw
bound_is_at_least s c price allowed required moves x accepted lt are leads =
    let p : Progress = progress_after s c x.before x.present in
    let each = int_sum-le (call_count s) (λ _. pos 0)
    (λ j. cond (allowed j && not (p.boarded j)) (waiting_term s price required p j) (pos 0) +ℤ cond (allowed j && not (p.boarded j))
    (positive_part (price j)) (pos 0)) (λ j b. at_least (allowed j) (p.boarded j) (required j) (cost_if_alone s j p.opened) (price j)) in
    let none = int_sum-zero (call_count s) in
    let both = int_sum-add (call_count s) (λ j. cond (allowed j && not (p.boarded j)) (waiting_term s price required p j) (pos 0))
    (λ j. cond (allowed j && not (p.boarded j)) (positive_part (price j)) (pos 0)) in
    omega (arith, ints, each, none, both)
