-- How many moves are left, and for each of them one call of each function. In the loop the tours to which
-- the moves before the next one can lead have been added.
use Rattle.std.proofs.Common.{◌≡◌, ◌+◌, ◌*◌}
use Rattle.partial_tours.proofs.Search.{left_in, followers, from_next, Walks}
use Rattle.plain_solver.proofs.tours.+search.Given as goal

abbrev pub decreases-add_tours : goal.decreases-add_tours
decreases-add_tours l = 2 * left_in l.prefix.now + 1

abbrev pub decreases-add_tours_after : goal.decreases-add_tours_after
decreases-add_tours_after l = 2 * left_in l.prefix.now

abbrev pub invariant-add_tours-loop-next : goal.invariant-add_tours-loop-next
invariant-add_tours-loop-next l = record {
  same : l.prefix ≡ l.initial.prefix;
  walks : Walks l.initial.prefix l.next l.initial.found.items l.found.items;
}

abbrev pub decreases-add_tours-loop-next : goal.decreases-add_tours-loop-next
decreases-add_tours-loop-next l = from_next l.next (followers l.initial.prefix)
