-- Prices within reach of their centres, in thousandths of a cost unit.
use Rattle.std.specs.Prelude.{◌≡◌, ℕ, ◌<◌, ℤ, pos, ◌+ℤ◌, ◌≤ℤ◌, List, length}
use Rattle.search_model.specs.Prices.{price_at}

-- the price differs from the centre by at most the reach
pub record IsWithin (reach : ℕ) (centre price : ℤ) : Type 0 where
  pub high : price ≤ℤ (centre +ℤ pos reach)
  pub low : centre ≤ℤ (price +ℤ pos reach)

-- a price for each centre, which differs from it by at most the reach
pub record AreWithin (reach : ℕ) (centre prices : List ℤ) : Type 0 where
  pub count : length prices ≡ length centre
  pub each : (j : ℕ) → j < length centre → IsWithin reach (price_at centre j) (price_at prices j)
