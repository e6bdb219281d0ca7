use Rattle.std.proofs.Common.{sym, length, arith}
use Rattle.std.proofs.lemmas.Bool.{and_from, not_from_false}
use Rattle.call_sets.proofs.BelowTests.{any_below-at}
use Rattle.elevator_model.specs.Snapshot.{is_open}
use Rattle.day_state.specs.Passing.{call_passed}
use Rattle.day_state.proofs.states.any_call_passed.Goals as goal

pub returns-then-not-is_open : goal.returns-then-not-is_open
returns-then-not-is_open c =
    sym (any_below-at (length c.args.calls.now)
    (call_passed c.args.calls.now (is_open c.args.building.now c.args.car c.args.t c.args.state) c.args.carried) c.loop-j.j (omega arith)
    (and_from _ _ (sym c.if-contains.ensures) (not_from_false _ (sym c.if-not-is_open.ensures))))
