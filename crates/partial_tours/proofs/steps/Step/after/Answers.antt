use Rattle.std.proofs.Common.{◌∙◌, ap, sym}
use Rattle.elevator_model.specs.Partial.{move_on}
use Rattle.partial_tours.proofs.Tallied.{tally_end}
use Rattle.partial_tours.proofs.steps.Step.after.Goals as goal

pub returns-in-Board : goal.returns-in-Board
returns-in-Board c = λ x y count t tally noted few h.
    c.after_board.ensures c.args.moments.now x y count t tally noted few
    (ap (move_on c.args.layout.now.snapshot c.args.layout.now.car x) (sym c.in-Board.is) ∙ h)

pub returns-in-Leave : goal.returns-in-Leave
returns-in-Leave c = λ x y count t tally noted few h.
    c.after_leave.ensures x y count t tally noted few (ap (move_on c.args.layout.now.snapshot c.args.layout.now.car x) (sym c.in-Leave.is) ∙ h)

pub returns-in-End : goal.returns-in-End
returns-in-End c = λ x y count t tally noted few h.
    let s = c.args.layout.now.snapshot in
    let car = c.args.layout.now.car in
    let ends = ap (move_on s car x) (sym c.in-End.is) ∙ h in
    (c.after_end.ensures s car x y t ends, tally_end s car count c.args.self.now.tally x y tally few ends)
