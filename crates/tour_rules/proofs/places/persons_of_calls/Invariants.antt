use Rattle.std.proofs.Common.{◌≡◌, ◌≤◌, ◌*◌}
use Rattle.call_sets.specs.Counting.{sum_where}
use Rattle.tour_rules.specs.Places.{call_heads, call_in}
use Rattle.tour_rules.proofs.places.persons_of_calls.Given as goal

abbrev pub invariant-loop-j : goal.invariant-loop-j
invariant-loop-j l =
    (l.persons ≡ sum_where l.j (call_heads l.calls l.set l.heading) (λ j. (call_in l.calls j).persons)) × (l.persons ≤ 8 * l.j)
