-- Those of the riders so far who are calls stand behind the groups.
use Rattle.std.proofs.Common.{◌≡◌, ℕ, List, ◌++◌, ltb, map, take}
use Rattle.std.specs.List.{filter}
use Rattle.elevator_model.specs.Snapshot.{call_count}
use Rattle.elevator_model.specs.Tours.{Progress}
use Rattle.search_model.specs.Advancing.{group_from}
use Rattle.day_state.specs.Riding.{Rides}
use Rattle.day_state.proofs.remaining.add_new_groups.Given as goal

abbrev pub invariant-loop-rider : goal.invariant-loop-rider
invariant-loop-rider l =
    (p : Progress) (riders : List ℕ) → Rides l.snapshot l.car l.ride p riders
    → l.groups.items ≡ l.fn.groups.items
    ++ map (group_from l.snapshot l.car p) (filter (λ r. ltb r (call_count l.snapshot)) (take l.rider-index l.ride.riders.items))
