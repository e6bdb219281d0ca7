use Rattle.std.proofs.Common.{◌≡◌}
use Rattle.partial_tours.proofs.Search.{from_next}
use Rattle.kept_tours.proofs.Followers.{followers}
use Rattle.pricing_search.proofs.DiveLemmas.{Looks}
use Rattle.pricing_search.proofs.dive.most_promising.Given as goal

abbrev pub invariant-loop-next : goal.invariant-loop-next
invariant-loop-next g l = record {
  same : l.prefix ≡ l.initial.prefix;
  looks : Looks l.initial.prefix l.demand l.next l.favourite.next;
}

abbrev pub decreases-loop-next : goal.decreases-loop-next
decreases-loop-next g l = from_next l.next (followers l.initial.prefix l.demand.allowed)
