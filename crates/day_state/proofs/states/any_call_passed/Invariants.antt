-- None of the calls so far.
use Rattle.std.proofs.Common.{◌≡◌, false}
use Rattle.call_sets.specs.Counting.{any_below}
use Rattle.elevator_model.specs.Snapshot.{is_open}
use Rattle.day_state.specs.Passing.{call_passed}
use Rattle.day_state.proofs.states.any_call_passed.Given as goal

abbrev pub invariant-loop-j : goal.invariant-loop-j
invariant-loop-j l =
    any_below l.j (call_passed l.calls (is_open l.building l.car l.t l.state) l.carried) ≡ false
