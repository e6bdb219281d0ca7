use Rattle.partial_tours.proofs.Tallied.{board_call, tally_board}
use Rattle.partial_tours.proofs.steps.Step.after_board.Goals as goal

pub after_board-requires-2-clause-call : goal.after_board-requires-2-clause-call
after_board-requires-2-clause-call c =
    let l = c.requires in
    board_call c.args.layout.now.snapshot c.args.layout.now.car l.1.0 c.args.call l.1.1 l.1.7

pub returns : goal.returns
returns c = λ moments x y count t tally noted few h.
    let s = c.args.layout.now.snapshot in
    let car = c.args.layout.now.car in (
      c.after_board.ensures x y t h,
      tally_board s car count c.args.self.now.tally c.after_board-2.result x y c.args.call tally few h c.after_board-2.ensures.counts
          c.after_board-2.ensures.opened c.after_board-2.ensures.later c.after_board-2.ensures.late,
    )
