-- What is said of a source's and a sink's count of faults, and of what is taken from a source.
use Rattle.std.specs.Prelude.{◌≡◌, ℕ, ◌+◌, ◌-◌, ◌^◌, ◌<◌, ◌≤◌, min, List, length, Option}
use Rattle.std.specs.Io.KnownBytes.{prepend_known}

-- the last value of a counter of faults
abbrev pub last_count : ℕ
last_count = 2 ^ 64 - 1

-- a count of faults rose: it is greater than before, or stands at the last value of a counter
abbrev pub Rose : ℕ → ℕ → Type 0
Rose before after = min (before + 1) last_count ≤ after

-- a source gave these bytes, where it tells what it has left; each was counted off a quota, but for so
-- many that came past it when nothing of it was left
pub record Took (past before after : ℕ) (taken : List ℕ) (left_before left_after : Option (List ℕ)) : Type 0 where
  pub given : left_before ≡ prepend_known taken left_after
  pub counted : after + length taken ≡ before + past
  pub spent : 0 < past → after ≡ 0
