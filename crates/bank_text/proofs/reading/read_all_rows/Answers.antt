use Rattle.lift_text.specs.LineReader.{text}
use Rattle.bank_text.proofs.TakenLemmas.{takes_no_header, takes_rows}
use Rattle.bank_text.proofs.reading.read_all_rows.Goals as goal

pub returns-in-Ok-clause-takes : goal.returns-in-Ok-clause-takes
returns-in-Ok-clause-takes g c =
    let left = g.S.Source.left in
    takes_rows (text left c.args.lines.now)
    (text left c.read_header.new.lines) c.args.banks.now c.read_rows.new.banks c.read_rows.result c.in-Ok.ensures.header c.read_rows.ensures.rows
    c.read_rows.ensures.refused

pub returns-in-Err-clause-takes : goal.returns-in-Err-clause-takes
returns-in-Err-clause-takes g c =
    let left = g.S.Source.left in
    takes_no_header (text left c.args.lines.now) (text left c.read_header.new.lines) c.args.banks.now c.args.banks.now c.in-Err.fault c.in-Err.ensures.header
