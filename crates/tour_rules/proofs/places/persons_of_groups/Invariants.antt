use Rattle.std.proofs.Common.{◌≡◌}
use Rattle.call_sets.specs.Counting.{sum_where}
use Rattle.tour_rules.specs.Places.{group_heads, group_in}
use Rattle.tour_rules.proofs.places.persons_of_groups.Given as goal

abbrev pub invariant-loop-group : goal.invariant-loop-group
invariant-loop-group l =
    l.persons ≡ sum_where l.group-index (group_heads l.groups l.car l.visited l.heading) (λ k. (group_in l.groups k).persons)
