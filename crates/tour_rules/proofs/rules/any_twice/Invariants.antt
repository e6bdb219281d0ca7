use Rattle.std.proofs.Common.{◌≡◌, ◌==◌, ◌&&◌, ◌||◌, false, count_by}
use Rattle.std.specs.Prelude.{nat_le}
use Rattle.call_sets.specs.Counting.{any_below, has}
use Rattle.tour_rules.proofs.rules.any_twice.Given as goal

abbrev pub invariant-loop-j : goal.invariant-loop-j
invariant-loop-j l = any_below l.j (λ j. has l.set j && ((has l.boarded j || has l.taken j) || nat_le 2 (count_by (λ x. x == j) l.boards))) ≡ false
