-- Those who stayed, and then the new groups of the cars so far.
use Rattle.std.proofs.Common.{◌≡◌, ℕ, length, ◌++◌, map}
use Rattle.std.specs.List.{filter, range_with_len, flat_map}
use Rattle.elevator_model.specs.Snapshot.{group_of}
use Rattle.search_model.specs.Advancing.{World, rides_on, new_groups}
use Rattle.day_state.specs.Reaching.{AreReached}
use Rattle.day_state.proofs.remaining.aboard_at.Given as goal

abbrev pub invariant-loop-car : goal.invariant-loop-car
invariant-loop-car l =
    (w : World) (t : ℕ) → w.snapshot ≡ l.snapshot → AreReached w t l.reached
    → l.groups.items ≡ map (group_of l.snapshot) (filter (rides_on w t) (range_with_len 0 (length l.snapshot.aboard)))
    ++ flat_map (new_groups w t) (range_with_len 0 l.car)
