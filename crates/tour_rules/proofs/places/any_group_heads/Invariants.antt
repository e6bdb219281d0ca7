use Rattle.std.proofs.Common.{◌≡◌, false}
use Rattle.call_sets.specs.Counting.{any_below}
use Rattle.tour_rules.specs.Places.{group_heads}
use Rattle.tour_rules.proofs.places.any_group_heads.Given as goal

abbrev pub invariant-loop-group : goal.invariant-loop-group
invariant-loop-group l = any_below l.group-index (group_heads l.groups l.car l.visited l.heading) ≡ false
