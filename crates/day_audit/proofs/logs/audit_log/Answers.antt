use Rattle.std.proofs.Common.{map}
use Rattle.search_model.specs.Days.{opening_day}
use Rattle.lift_text.specs.LineReader.{text}
use Rattle.log_rows.specs.Rows.{said_of}
use Rattle.day_audit.proofs.ProgressLemmas.{none_audited}
use Rattle.day_audit.proofs.logs.audit_log.Goals as goal

pub audit_from-requires-clause-day : goal.audit_from-requires-clause-day
audit_from-requires-clause-day g c = (opening_day c.args.opening, c.in-Ok.ensures)

pub returns-in-Ok-clause-audited : goal.returns-in-Ok-clause-audited
returns-in-Ok-clause-audited g c = c.audit_from.ensures.audited (opening_day c.args.opening) c.in-Ok.ensures

pub returns-in-Err-clause-audited : goal.returns-in-Err-clause-audited
returns-in-Err-clause-audited g c = none_audited (opening_day c.args.opening) (map said_of c.args.rows.now) (text g.S.Source.left c.args.lines.now)
