-- The prices so far lie within reach of their centres.
use Rattle.std.proofs.Common.{◌≡◌, ℕ, ◌<◌, length}
use Rattle.search_model.specs.Prices.{price_at}
use Rattle.partition_relaxation.specs.Reaching.{IsWithin}
use Rattle.partition_relaxation.proofs.relaxing.prices_in.Given as goal

abbrev pub invariant-loop-place : goal.invariant-loop-place
invariant-loop-place l = (length l.prices.items ≡ l.place) × ((j : ℕ) → j < l.place → IsWithin l.reach (price_at l.centre j) (price_at l.prices.items j))
