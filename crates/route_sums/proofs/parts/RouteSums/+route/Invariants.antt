use Rattle.call_sets.specs.Counting.{has, sum_where}
use Rattle.route_sums.proofs.parts.RouteSums.+route.Given as goal

abbrev pub decreases-along_route : goal.decreases-along_route
decreases-along_route l = sum_where 64 (has l.at.now.bound_for) (λ _. 1)
