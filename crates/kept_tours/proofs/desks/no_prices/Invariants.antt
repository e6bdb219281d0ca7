use Rattle.std.proofs.Common.{◌≡◌, length}
use Rattle.kept_tours.proofs.desks.no_prices.Given as goal

abbrev pub invariant-loop-call : goal.invariant-loop-call
invariant-loop-call l = length l.prices.items ≡ l._call
