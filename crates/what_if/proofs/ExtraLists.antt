-- What is said of each car, one car more, and of all of them.
use Rattle.std.proofs.Common.{◌≡◌, ℕ, ◌+◌, ◌<◌, ◌≤◌, true, List, [], ◌∷◌, ◌++◌, length, refl, sym, ap, ◌∙◌, subst, inl, inr, arith}
use Rattle.std.proofs.lemmas.Int.{ints}
use Rattle.std.proofs.lemmas.Bool.{cases_lt}
use Rattle.std.proofs.lemmas.List.{get_or_append_left, get_or_at, get_or_past, length-append}
use Rattle.std.proofs.Math.Nat.{eq-or-lt_of_le}
use Rattle.elevator_model.specs.Snapshot.{Snapshot, car_count}
use Rattle.what_if.specs.declared.extras.Extra.{Extra}
use Rattle.what_if.specs.declared.extras.Searched.{Searched}
use Rattle.what_if.specs.WhatIf.{AreEnough, AreExtras, AreSettled, IsExtraOf, IsNearest, IsSearched, extra_at, has_extra, no_extra, without_last}
use Rattle.what_if.specs.Ends.{AreExtrasBelow, IsRanged}
use Rattle.what_if.proofs.ExtraLaws.{enough-settled, takes-has}

pub extras-none : (s : Snapshot) (rounds most_tours : ℕ) (before : Searched) → AreExtrasBelow s rounds most_tours before 0 []
extras-none s rounds most_tours before =
    record { count = refl; each = λ c below. absurd (omega (arith, below)); ranged = λ c below. absurd (omega (arith, below)) }

-- what holds of each car so far, and of the next one
one-more : (P : ℕ → Extra → Type 0) (n : ℕ) (extras : List Extra) (x : Extra) → length extras ≡ n → ((c : ℕ) → c < n → P c (extra_at extras c)) → P n x
    → (c : ℕ) → c < n + 1 → P c (extra_at (extras ++ x ∷ []) c)
one-more P n extras x count each here c below =
    let le : c ≤ n = omega (arith, below) in
    elim (eq-or-lt_of_le le) [
      | inl e ↦ subst (λ (k : ℕ). P k (extra_at (extras ++ x ∷ []) k)) (sym e) (subst (P n) (sym (get_or_at extras x [] no_extra n count)) here)
      | inr lt ↦ subst (P c) (sym (get_or_append_left extras (x ∷ []) no_extra c (omega (arith, lt, count)))) (each c lt)
    ]

pub extras-more : (s : Snapshot) (rounds most_tours : ℕ) (before : Searched) (n : ℕ) (extras : List Extra) (x : Extra)
    → AreExtrasBelow s rounds most_tours before n extras → IsExtraOf s rounds most_tours before n x → IsRanged x
    → AreExtrasBelow s rounds most_tours before (n + 1) (extras ++ x ∷ [])
extras-more s rounds most_tours before n extras x are of ranged =
    record {
      count = length-append extras (x ∷ []) ∙ ap (λ (k : ℕ). k + 1) are.count;
      each = one-more (IsExtraOf s rounds most_tours before) n extras x are.count are.each of;
      ranged = one-more (λ c y. IsRanged y) n extras x are.count are.ranged ranged;
    }

pub all-ranged : (s : Snapshot) (rounds most_tours : ℕ) (before : Searched) (n : ℕ) (extras : List Extra) → AreExtrasBelow s rounds most_tours before n extras
    → (c : ℕ)
    → IsRanged (extra_at extras c)
all-ranged s rounds most_tours before n extras are c =
    let count = are.count in
    elim (cases_lt c n) [ inl below ↦ are.ranged c below | inr past ↦ subst IsRanged (sym (get_or_past extras c no_extra (omega (arith, past, count)))) none ]
  where
    none : IsRanged no_extra
    none = record {
      low = record { low = omega (arith, ints); high = omega (arith, ints) };
      high =
          record { low = omega (arith, ints); high = omega (arith, ints) };
    }

pub extras-of : (s : Snapshot) (rounds most_tours : ℕ) (before : Searched) (extras : List Extra) → IsSearched (without_last s) rounds most_tours before
    → AreExtrasBelow s rounds most_tours before (car_count s) extras → AreExtras s rounds most_tours extras
extras-of s rounds most_tours before extras searched are = record { before = before; searched = searched; count = are.count; each = are.each }

pub nearest-has : (s : Snapshot) (rounds most_tours : ℕ) (before : Searched) (extras : List Extra) (c : ℕ)
    → AreExtrasBelow s rounds most_tours before (car_count s) extras → IsNearest s c → has_extra (extra_at extras c) ≡ true
nearest-has s rounds most_tours before extras c are nearest =
    let takes = nearest.takes in
    sym (takes-has s rounds most_tours before c (extra_at extras c) (are.each c takes.is_car)) ∙ takes.possible

pub all-settled : (s : Snapshot) (rounds most_tours : ℕ) (before : Searched) (extras : List Extra) → IsSearched (without_last s) rounds most_tours before
    → AreExtrasBelow s rounds most_tours before (car_count s) extras → AreEnough s rounds most_tours → AreSettled extras
all-settled s rounds most_tours before extras searched are enough c below =
    let count = are.count in
    let car : c < car_count s = omega (arith, below, count) in
    enough-settled s rounds most_tours before c (extra_at extras c) car enough searched (are.each c car)
