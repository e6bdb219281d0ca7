use Rattle.std.proofs.Common.{◌≡◌, ◌-◌, drop}
use Rattle.elevator_model.specs.Faults.{is_rising}
use Rattle.call_state.proofs.buildings.are_rising.Given as goal

abbrev pub invariant-loop-k : goal.invariant-loop-k
invariant-loop-k l = is_rising l.numbers ≡ is_rising (drop (l.k - 1) l.numbers)
