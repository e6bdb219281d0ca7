use Rattle.std.proofs.Common.{◌≡◌, map}
use Rattle.std.specs.List.{range_with_len}
use Rattle.search_model.specs.Cases.{state_of_draw, case_state}
use Rattle.case_maker.proofs.states.states_of.Given as goal

abbrev pub invariant-loop-car : goal.invariant-loop-car
invariant-loop-car l = record {
  states : l.states.items ≡ map (case_state l.initial.draws.state l.floors) (range_with_len 0 l._car);
  drawn : l.draws.state ≡ state_of_draw l.initial.draws.state l._car;
}
