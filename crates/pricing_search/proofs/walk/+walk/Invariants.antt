-- How many moves are left, and in the loop: what was visited through the followers so far.
use Rattle.std.proofs.Common.{◌≡◌, ◌+◌, ◌*◌}
use Rattle.partial_tours.proofs.Search.{left_in, from_next}
use Rattle.kept_tours.proofs.Followers.{followers}
use Rattle.call_sets.specs.Counting.{has, sum_where}
use Rattle.pricing_search.specs.declared.progress.Progress.{Progress}
use Rattle.pricing_search.proofs.Visiting.{IsCounted, Visits}
use Rattle.pricing_search.proofs.Stops.{VisitsBut}
use Rattle.pricing_search.proofs.walk.+walk.Given as goal

abbrev pub decreases-visit : goal.decreases-visit
decreases-visit g l = 2 * left_in l.prefix.now + 1

abbrev pub decreases-visit_after : goal.decreases-visit_after
decreases-visit_after g l = 2 * left_in l.prefix.now

abbrev pub invariant-visit-loop-next : goal.invariant-visit-loop-next
invariant-visit-loop-next g l = record {
  same : l.prefix ≡ l.initial.prefix;
  visits : Visits l.initial.prefix l.guide.demand.now (g.B.TourBound.aim l.guide.bound.now).price l.most_tours l.next l.initial.progress l.progress;
}

abbrev pub invariant-visit-loop-floor : goal.invariant-visit-loop-floor
invariant-visit-loop-floor g l = record {
  same : l.prefix ≡ l.fn.prefix;
  before : Progress;
  counted : IsCounted l.fn.progress before;
  visits : VisitsBut l.fn.prefix l.guide.demand.now (g.B.TourBound.aim l.guide.bound.now).price l.most_tours l.stops before l.progress;
}

abbrev pub decreases-visit-loop-floor : goal.decreases-visit-loop-floor
decreases-visit-loop-floor g l = sum_where 64 (has l.stops) (λ _. 1)

abbrev pub decreases-visit-loop-next : goal.decreases-visit-loop-next
decreases-visit-loop-next g l = from_next l.next (followers l.initial.prefix l.guide.demand.now.allowed)
