use Rattle.std.proofs.Common.{Some}
use Rattle.day_text.specs.Records.{row_as_said}
use Rattle.day_simulator.proofs.RowLemmas.{refused-answer}
use Rattle.day_simulator.proofs.days.Day.good_row.Goals as goal

pub returns-clause-row : goal.returns-clause-row
returns-clause-row g c =
    refused-answer (g.P.Planner.right c.args.planner.now) c.args.self.now
    (Some (row_as_said c.args.row.now)) c.in-Err.fault c.refuse.new.self c.args.out.now.items c.refuse.new.out.items c.refuse.result
    (rw c.in-Err.is at c.in_ok-world.ensures) c.refuse.ensures.refused
