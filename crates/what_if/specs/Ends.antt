-- How the code finds the nearest car, the cheapest car, and what two searches tell.
use Rattle.std.specs.Prelude.{◌≡◌, ℕ, ◌^◌, ◌≤◌, ◌<◌, ℤ, pos, neg_ℤ, ◌-ℤ◌, ◌≤ℤ◌, ◌<ℤ◌, int_lt, List, length, Bool, true, false, Option, Some, None}
use Rattle.elevator_model.specs.Snapshot.{Snapshot}
use Rattle.what_if.specs.declared.extras.Extra.{Extra}
use Rattle.what_if.specs.declared.extras.Extra.TheVariants.{None as NoExtra, Exact, Between}
use Rattle.what_if.specs.declared.extras.Searched.{Searched}
use Rattle.what_if.specs.WhatIf.{AreClosed, IsExtraOf, IsOneOpen, distance, extra_at, has_extra, high_of, low_of}

-- ---- the first of the least

-- less than that of the number so far, if there is one
abbrev pub is_less : (ℕ → ℤ) → ℕ → Option ℕ → Bool
is_less key c None = true
is_less key c (Some b) = int_lt (key c) (key b)

pub record IsFirstLeastAt (test : ℕ → Bool) (key : ℕ → ℤ) (n b : ℕ) : Type 0 where
  pub below : b < n
  pub passes : test b ≡ true
  pub least : (c : ℕ) → c < n → test c ≡ true → key b ≤ℤ key c
  pub first : (c : ℕ) → c < b → test c ≡ true → key b <ℤ key c

-- of the numbers below n that pass the test, the first with the least key
abbrev pub IsFirstLeast : (test : ℕ → Bool) → (key : ℕ → ℤ) → (n : ℕ) → Option ℕ → Type 0
IsFirstLeast test key n None = (c : ℕ) → c < n → test c ≡ false
IsFirstLeast test key n (Some b) = IsFirstLeastAt test key n b

abbrev pub distance_key : Snapshot → ℕ → ℤ
distance_key s c = pos (distance s c)

abbrev pub has_extra_at : List Extra → ℕ → Bool
has_extra_at extras c = has_extra (extra_at extras c)

abbrev pub low_at : List Extra → ℕ → ℤ
low_at extras c = low_of (extra_at extras c)

-- ---- ranges

-- the difference of two costs
pub record IsInSpan (z : ℤ) : Type 0 where
  pub low : neg_ℤ (pos (2 ^ 64)) ≤ℤ z
  pub high : z ≤ℤ pos (2 ^ 64)

pub record IsRanged (x : Extra) : Type 0 where
  pub low : IsInSpan (low_of x)
  pub high : IsInSpan (high_of x)

-- ---- what two searches tell

pub record AreEnds (before after : Searched) (low high : ℤ) : Type 0 where
  pub one_open : IsOneOpen before after
  pub low_is : low ≡ pos after.bound -ℤ pos before.cost
  pub high_is : high ≡ pos after.cost -ℤ pos before.bound

abbrev pub Tells : (before after : Searched) → Extra → Type 0
Tells before after NoExtra = ⊥
Tells before after (Exact extra) = AreClosed before after × (extra ≡ pos after.cost -ℤ pos before.cost)
Tells before after (Between low high) = AreEnds before after low high

-- the extras of the cars below n
pub record AreExtrasBelow (s : Snapshot) (rounds most_tours : ℕ) (before : Searched) (n : ℕ) (extras : List Extra) : Type 0 where
  pub count : length extras ≡ n
  pub each : (c : ℕ) → c < n → IsExtraOf s rounds most_tours before c (extra_at extras c)
  pub ranged : (c : ℕ) → c < n → IsRanged (extra_at extras c)
