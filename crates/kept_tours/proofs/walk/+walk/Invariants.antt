-- How many moves are left, and in the loop: what was seen in the followers so far.
use Rattle.std.proofs.Common.{◌≡◌, ◌+◌, ◌*◌}
use Rattle.partial_tours.proofs.Search.{left_in, from_next}
use Rattle.kept_tours.proofs.Followers.{followers}
use Rattle.kept_tours.proofs.VisitLemmas.{Walks}
use Rattle.kept_tours.proofs.walk.+walk.Given as goal

abbrev pub decreases-visit : goal.decreases-visit
decreases-visit g l = 2 * left_in l.prefix.now + 1

abbrev pub decreases-visit_after : goal.decreases-visit_after
decreases-visit_after g l = 2 * left_in l.prefix.now

abbrev pub invariant-visit-loop-next : goal.invariant-visit-loop-next
invariant-visit-loop-next g l = record {
  same : l.prefix ≡ l.initial.prefix;
  walks : Walks l.initial.prefix l.guide.demand.now (g.B.TourBound.aim l.guide.bound.now).price
      (g.B.CompletionBound.bound l.guide.bound.now) l.worth l.initial.left l.next l.left;
}

abbrev pub decreases-visit-loop-next : goal.decreases-visit-loop-next
decreases-visit-loop-next g l = from_next l.next (followers l.initial.prefix l.guide.demand.now.allowed)
