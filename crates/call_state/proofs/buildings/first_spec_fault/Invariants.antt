-- The cars that were tested have no fault, so there are few of them.
use Rattle.std.proofs.Common.{◌≡◌, ◌+◌, ◌≤◌, [], take, drop}
use Rattle.elevator_model.specs.Faults.{first_in, fault_of_spec}
use Rattle.call_state.proofs.buildings.first_spec_fault.Given as goal

abbrev pub invariant-loop-car : goal.invariant-loop-car
invariant-loop-car l =
    record {
      same : first_in (fault_of_spec l.floors l.greatest) [] l.cars 1
          ≡ first_in (fault_of_spec l.floors l.greatest) (take l.car l.cars) (drop l.car l.cars) (1 + l.car);
      few : l.car ≤ l.greatest;
    }
