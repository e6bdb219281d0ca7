use Rattle.std.proofs.Common.{Err, ap}
use Rattle.lift_text.specs.LineReader.{text}
use Rattle.day_audit.proofs.InputLemmas.{day_audited, opening_empty, opening_refused}
use Rattle.day_audit.proofs.TakingLemmas.{unread_is}
use Rattle.day_audit.proofs.audits.audit_text.Goals as goal

pub audit_day-requires-clause-opening : goal.audit_day-requires-clause-opening
audit_day-requires-clause-opening g c = opening_empty c.in-Ok.opening c.in-Ok.ensures.empty

pub returns-in-Ok-clause-audited : goal.returns-in-Ok-clause-audited
returns-in-Ok-clause-audited g c =
    let left = g.S.Source.left in
    day_audited c.in-Ok.opening (text left c.args.lines.now)
    (text left c.read_day_opening.new.lines) c.audit_day.result c.in-Ok.ensures.accepted c.in-Ok.ensures.empty c.in-Ok.ensures.opening
    c.audit_day.ensures.audited

pub returns-in-Err-clause-audited : goal.returns-in-Err-clause-audited
returns-in-Err-clause-audited g c =
    opening_refused (text g.S.Source.left c.args.lines.now) c.in-Err.fault c.bad_text.result c.bad_text.ensures c.in-Err.ensures.refused

pub returns-in-Err-clause-read : goal.returns-in-Err-clause-read
returns-in-Err-clause-read g c = λ unread. c.in-Err.ensures.read (ap Err (unread_is c.in-Err.fault c.bad_text.result c.bad_text.ensures unread))
