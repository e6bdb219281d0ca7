use Rattle.std.proofs.Common.{sym, length, arith}
use Rattle.std.proofs.lemmas.Bool.{and_from, not_from_false}
use Rattle.call_sets.proofs.BelowTests.{any_below-at}
use Rattle.elevator_model.specs.Snapshot.{is_open}
use Rattle.day_state.specs.Passing.{group_passed}
use Rattle.day_state.proofs.states.any_group_passed.Goals as goal

pub returns-then-not-is_open : goal.returns-then-not-is_open
returns-then-not-is_open c =
    sym (any_below-at (length c.args.groups.now)
    (group_passed c.args.groups.now c.args.car (is_open c.args.building.now c.args.car c.args.t c.args.state) c.args.visited) c.loop-group.group-index
    (omega arith) (and_from _ _ (sym c.if-is_carried.ensures) (not_from_false _ (sym c.if-not-is_open.ensures))))
