-- The first fault of a snapshot's states, of its groups aboard and of its calls.
use Rattle.std.specs.Prelude.{◌+◌, List, [], length, Option}
use Rattle.elevator_model.specs.declared.CarState.{CarState}
use Rattle.elevator_model.specs.Snapshot.{Snapshot}
use Rattle.elevator_model.specs.Faults.{Placed, first_in, fault_of_state, fault_of_group, fault_of_call}

abbrev pub first_of_states : Snapshot → Option Placed
first_of_states s = first_in (λ (before : List CarState) state. fault_of_state s.building s.moment (length before) state) [] s.states 1

abbrev pub first_of_groups : Snapshot → Option Placed
first_of_groups s = first_in (fault_of_group s.building s.moment s.states) [] s.aboard (1 + length s.states)

abbrev pub first_of_calls : Snapshot → Option Placed
first_of_calls s = first_in (fault_of_call s.building s.moment s.aboard) [] s.calls (1 + length s.states + length s.aboard)
