use Rattle.std.proofs.Common.{◌≡◌, ◌*◌, map}
use Rattle.std.specs.List.{range_with_len}
use Rattle.search_model.specs.Cases.{state_of_draw, case_call}
use Rattle.case_maker.proofs.calls.calls_of.Given as goal

abbrev pub invariant-loop-call : goal.invariant-loop-call
invariant-loop-call l = record {
  calls : l.made.items ≡ map (case_call l.initial.draws.state l.floors 0) (range_with_len 0 l.call);
  drawn : l.draws.state ≡ state_of_draw l.initial.draws.state (4 * l.call);
}
