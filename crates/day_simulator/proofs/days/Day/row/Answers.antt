use Rattle.day_text.specs.Records.{row_of_line}
use Rattle.day_simulator.proofs.RowLemmas.{done-numbered}
use Rattle.day_simulator.proofs.days.Day.row.Goals as goal

pub returns-clause-number : goal.returns-clause-number
returns-clause-number g c =
    done-numbered (g.P.Planner.right c.args.planner.now) c.args.self.now
    (row_of_line c.args.bytes.now) c.any_row-done.new.self c.args.out.now.items c.any_row-done.new.out.items c.any_row-done.result
    c.any_row-done.ensures.row
