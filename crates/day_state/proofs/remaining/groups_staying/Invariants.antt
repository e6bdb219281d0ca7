-- Those of the groups so far that ride on.
use Rattle.std.proofs.Common.{◌≡◌, ℕ, map}
use Rattle.std.specs.List.{filter, range_with_len}
use Rattle.elevator_model.specs.Snapshot.{group_of}
use Rattle.search_model.specs.Advancing.{World, rides_on}
use Rattle.day_state.specs.Reaching.{AreReached}
use Rattle.day_state.proofs.remaining.groups_staying.Given as goal

abbrev pub invariant-loop-group : goal.invariant-loop-group
invariant-loop-group l =
    (w : World) (t : ℕ) → w.snapshot ≡ l.snapshot → AreReached w t l.reached
    → l.groups.items ≡ map (group_of l.snapshot) (filter (rides_on w t) (range_with_len 0 l.group-index))
