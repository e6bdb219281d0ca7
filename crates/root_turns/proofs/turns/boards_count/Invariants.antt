use Rattle.std.proofs.Common.{◌≡◌, ◌≤◌, take}
use Rattle.root_turns.specs.Turns.{boards_of_cars}
use Rattle.root_turns.proofs.turns.boards_count.Given as goal

abbrev pub invariant-loop-car : goal.invariant-loop-car
invariant-loop-car l =
    record {
      count : l.count ≡ boards_of_cars (take l.car l.cars) l.call;
      few : l.count ≤ l.car;
    }
