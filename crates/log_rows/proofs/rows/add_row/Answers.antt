use Rattle.std.proofs.Common.{rules}
use Rattle.day_text.specs.Records.{row_of_line}
use Rattle.log_rows.proofs.RowLemmas.{row_grows}
use Rattle.log_rows.proofs.rows.add_row.Goals as goal

pub returns-clause-grows : goal.returns-clause-grows
returns-clause-grows c =
    row_grows c.args.building.now c.args.rows.now.items c.push.new.self.items c.in_ok-row.row (row_of_line c.args.line.now) (search rules) c.in_ok-row.ensures
