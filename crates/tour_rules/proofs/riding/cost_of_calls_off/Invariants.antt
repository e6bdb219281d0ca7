-- So far the cost of the calls below this one that get off.
use Rattle.std.proofs.Common.{◌≡◌, ◌*◌, ◌≤◌, get_or}
use Rattle.call_sets.specs.Counting.{sum_where}
use Rattle.tour_rules.specs.Leaving.{cost_of_call, is_call_off}
use Rattle.tour_rules.proofs.riding.cost_of_calls_off.Given as goal

abbrev pub invariant-loop-j : goal.invariant-loop-j
invariant-loop-j l = record {
  so_far : l.cost ≡ sum_where l.j (is_call_off l.snapshot l.carried l.floor)
      (λ j. cost_of_call l.snapshot j (get_or l.moments j 0) l.delivered);
  bounded : l.cost ≤ 2400000000000000 * l.j;
}
