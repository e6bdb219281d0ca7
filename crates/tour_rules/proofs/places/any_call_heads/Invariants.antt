use Rattle.std.proofs.Common.{◌≡◌, false}
use Rattle.call_sets.specs.Counting.{any_below}
use Rattle.tour_rules.specs.Places.{call_heads}
use Rattle.tour_rules.proofs.places.any_call_heads.Given as goal

abbrev pub invariant-loop-j : goal.invariant-loop-j
invariant-loop-j l = any_below l.j (call_heads l.calls l.set l.heading) ≡ false
