-- Steps along a direction.
use Rattle.std.specs.Prelude.{ℤ, pos, ◌≤ℤ◌}

-- a price rises only where the part of the direction is above 0, and falls only where it is below 0
pub record FollowsPart (part from to : ℤ) : Type 0 where
  pub up : pos 0 ≤ℤ part → from ≤ℤ to
  pub down : part ≤ℤ pos 0 → to ≤ℤ from
