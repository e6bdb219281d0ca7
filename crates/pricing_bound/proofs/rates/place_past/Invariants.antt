use Rattle.std.proofs.Common.{length, ◌-◌}
use Rattle.pricing_bound.proofs.rates.place_past.Given as goal

abbrev pub decreases-loop-place : goal.decreases-loop-place
decreases-loop-place l = length l.ends - l.place
