-- The nearest of the cars that can take the call.
use Rattle.std.proofs.Common.{◌≡◌, ℕ, ◌<◌, ◌≤◌, false, true, Bool, arith}
use Rattle.std.specs.Prelude.{pos, ◌≤ℤ◌, ◌<ℤ◌}
use Rattle.std.proofs.lemmas.Int.{ints}
use Rattle.call_sets.proofs.BelowTests.{any_below-true}
use Rattle.elevator_model.specs.Snapshot.{Snapshot, IsAccepted, call_count, car_count}
use Rattle.what_if.specs.WhatIf.{IsNearest, asked, distance, takes_asked}
use Rattle.what_if.specs.Ends.{IsFirstLeastAt, distance_key}

-- some car can take the call
pub some-takes : (s : Snapshot) → 1 ≤ call_count s → IsAccepted s → ((c : ℕ) → c < car_count s → takes_asked s c ≡ false) → ⊥
some-takes s some a none =
    let found = any_below-true (car_count s) (takes_asked s) (a.calls (asked s) (omega (arith, some))).possible in
    never (takes_asked s found.0) (none found.0 found.1) found.2
  where
    never : (b : Bool) → b ≡ false → b ≡ true → ⊥
    never true e f = absurd (cc e)
    never false e f = absurd (cc f)

pub nearest-is : (s : Snapshot) (c : ℕ) → IsFirstLeastAt (takes_asked s) (distance_key s) (car_count s) c → IsNearest s c
nearest-is s c h =
    record {
      takes = record { is_car = h.below; possible = h.passes };
      least = λ other takes. from (distance s c) (distance s other) (h.least other takes.is_car takes.possible);
      first = λ other low takes. below (distance s c) (distance s other) (h.first other low takes.possible);
    }
  where
    from : (a b : ℕ) → pos a ≤ℤ pos b → a ≤ b
    from a b h = omega (arith, ints, h)

    below : (a b : ℕ) → pos a <ℤ pos b → a < b
    below a b h = omega (arith, ints, h)
