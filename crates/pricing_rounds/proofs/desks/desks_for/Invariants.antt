use Rattle.std.proofs.Common.{◌≡◌, length}
use Rattle.std.specs.List.{All}
use Rattle.pricing_rounds.proofs.desks.desks_for.Given as goal

abbrev pub invariant-loop-worker : goal.invariant-loop-worker
invariant-loop-worker g l =
    record {
      count : length l.desks.items ≡ l._worker;
      own : All (g.P.Pricer.owns l.pricer) l.desks.items;
    }
