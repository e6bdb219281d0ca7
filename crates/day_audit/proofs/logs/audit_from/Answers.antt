use Rattle.std.proofs.Common.{map}
use Rattle.lift_text.specs.LineReader.{text}
use Rattle.log_rows.specs.Rows.{said_of}
use Rattle.day_audit.proofs.ProgressLemmas.{joined, joined_short}
use Rattle.day_audit.proofs.logs.audit_from.Goals as goal

-- the day at which the audit stands: the end of the rows
pub take_last-requires-clause-day : goal.take_last-requires-clause-day
take_last-requires-clause-day g c =
    let taken = c.in-Ok.ensures.taken c.requires.day.0 c.requires.day.1 in
    (taken.0, taken.1)

pub returns-in-Ok-clause-audited : goal.returns-in-Ok-clause-audited
returns-in-Ok-clause-audited g c = λ day at.
    (let left = g.S.Source.left in
    joined day (map said_of c.args.rows.now) (text left c.args.lines.now) (text left c.take_rows.new.lines) c.take_rows.new.progress c.take_last.result
    (c.in-Ok.ensures.taken day at) c.take_last.ensures.taken)

pub returns-in-Err-clause-audited : goal.returns-in-Err-clause-audited
returns-in-Err-clause-audited g c = λ day at.
    (let left = g.S.Source.left in
    joined_short day (map said_of c.args.rows.now) (text left c.args.lines.now) (text left c.take_rows.new.lines) c.take_rows.new.progress c.in-Err.finding
    (c.in-Err.ensures.taken day at))
