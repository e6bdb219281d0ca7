-- There are as many as were pushed.
use Rattle.std.proofs.Common.{◌≡◌, length}
use Rattle.route_sums.proofs.rates.no_rates.Given as goal

abbrev pub invariant-loop-j : goal.invariant-loop-j
invariant-loop-j l = length l.rates.items ≡ l.j
