-- Those of the calls so far that are not in the set.
use Rattle.std.proofs.Common.{◌≡◌, not, map}
use Rattle.std.specs.List.{filter, range_with_len}
use Rattle.call_sets.specs.Counting.{has}
use Rattle.tour_rules.specs.Places.{call_in}
use Rattle.day_state.proofs.remaining.calls_waiting.Given as goal

abbrev pub invariant-loop-j : goal.invariant-loop-j
invariant-loop-j l = l.waiting.items ≡ map (call_in l.calls) (filter (λ k. not (has l.boarded k)) (range_with_len 0 l.j))
