-- So far the calls below this one.
use Rattle.std.proofs.Common.{◌≡◌, ℕ, nat_lt}
use Rattle.call_sets.specs.Counting.{has}
use Rattle.pricing_bound.proofs.rates.calls_of.Given as goal

abbrev pub invariant-loop-call : goal.invariant-loop-call
invariant-loop-call l = (j : ℕ) → has l.all j ≡ nat_lt j l.call
