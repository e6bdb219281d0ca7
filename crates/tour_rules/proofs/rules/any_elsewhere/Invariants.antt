use Rattle.std.proofs.Common.{◌≡◌, ◌==◌, ◌&&◌, not, false}
use Rattle.call_sets.specs.Counting.{any_below, has}
use Rattle.tour_rules.specs.Places.{call_in}
use Rattle.tour_rules.proofs.rules.any_elsewhere.Given as goal

abbrev pub invariant-loop-j : goal.invariant-loop-j
invariant-loop-j l = any_below l.j (λ j. has l.boards j && not ((call_in l.calls j).origin == l.floor)) ≡ false
