-- Each visit has fewer moves left. In the loop the partial tour is as it was, and the next move boards no call that is
-- not allowed.
use Rattle.std.proofs.Common.{◌≡◌, ◌+◌, ◌*◌, ◌++◌, ◌∷◌, [], true, Some}
use Rattle.call_sets.specs.Counting.{has}
use Rattle.elevator_model.specs.declared.Move.{Move}
use Rattle.elevator_model.specs.Partial.{boards_allowed, IsLawful}
use Rattle.library_tests.proofs.search.walks.+walk.Given as goal

abbrev pub decreases-visit : goal.decreases-visit
decreases-visit l = 2 * l.depth + 1

abbrev pub decreases-visit_after : goal.decreases-visit_after
decreases-visit_after l = 2 * l.depth + 2

abbrev pub invariant-visit-loop : goal.invariant-visit-loop
invariant-visit-loop l = record {
  same : l.prefix ≡ l.initial.prefix;
  next : (m : Move) → l.next ≡ Some m → (boards_allowed (has l.asked.allowed) m ≡ true)
      × IsLawful l.initial.prefix.snapshot l.initial.prefix.car (l.initial.prefix.moves ++ m ∷ []);
}
