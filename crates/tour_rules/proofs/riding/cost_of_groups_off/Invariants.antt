-- So far the cost of the groups below this one that get off.
use Rattle.std.proofs.Common.{◌≡◌}
use Rattle.call_sets.specs.Counting.{sum_where}
use Rattle.tour_rules.specs.Leaving.{is_group_off, cost_of_group}
use Rattle.tour_rules.proofs.riding.cost_of_groups_off.Given as goal

abbrev pub invariant-loop-k : goal.invariant-loop-k
invariant-loop-k l = l.cost ≡ sum_where l.k (is_group_off l.snapshot l.car l.visited l.floor) (λ k. cost_of_group l.snapshot k l.delivered)
