-- Those aboard who go to a floor where the car can no longer stop first.
use Rattle.std.specs.Prelude.{ℕ, Bool, ◌&&◌, not, List}
use Rattle.call_sets.specs.Counting.{has}
use Rattle.elevator_model.specs.declared.Aboard.{Aboard}
use Rattle.elevator_model.specs.declared.Call.{Call}
use Rattle.tour_rules.specs.Places.{call_in, group_in, group_carried}

-- a call of the set
abbrev pub call_passed : List Call → (can_stop : ℕ → Bool) → (set : ℕ) → ℕ → Bool
call_passed calls can_stop set j = has set j && not (can_stop (call_in calls j).destination)

-- a group that is still aboard after stops at these floors
abbrev pub group_passed : List Aboard → (car : ℕ) → (can_stop : ℕ → Bool) → (visited : ℕ) → ℕ → Bool
group_passed groups car can_stop visited k =
    group_carried groups car visited k && not (can_stop (group_in groups k).destination)
