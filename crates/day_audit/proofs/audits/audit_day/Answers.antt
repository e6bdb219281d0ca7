use Rattle.std.proofs.Common.{All, Err, List, Option, ap, arith, length, map, subst, sym}
use Rattle.elevator_model.specs.Building.{Building}
use Rattle.search_model.specs.Days.{opening_day}
use Rattle.lift_text.specs.LineReader.{text}
use Rattle.day_text.specs.declared.rows.GoodRow.{GoodRow}
use Rattle.log_rows.specs.Rows.{AreRowsGiven, IsGood, said_of}
use Rattle.day_audit.specs.Progress.{IsLogAudited}
use Rattle.day_audit.proofs.InputLemmas.{log_audited, rows_refused}
use Rattle.day_audit.proofs.audits.audit_day.Goals as goal

pub audit_log-requires-clause-good : goal.audit_log-requires-clause-good
audit_log-requires-clause-good g c =
    subst (All (IsGood c.args.opening.building)) (sym c.as_slice.ensures.value)
    (subst (λ (b : Building). All (IsGood b) c.in-Ok.rows.items) c.building.ensures.value c.in-Ok.ensures.good)

pub audit_log-requires-clause-few : goal.audit_log-requires-clause-few
audit_log-requires-clause-few g c =
    let size = ap length c.as_slice.ensures.value in
    let few = c.in-Ok.ensures.few in
    omega (arith, size, few)

pub returns-in-Ok-clause-audited : goal.returns-in-Ok-clause-audited
returns-in-Ok-clause-audited g c =
    let left = g.S.Source.left in
    let before = text left c.args.lines.now in
    let mid = text left c.read_rows.new.lines in
    let rows = c.in-Ok.rows.items in
    log_audited c.args.opening rows before mid c.audit_log.result
    (subst (λ (b : Building). AreRowsGiven b rows before mid) c.building.ensures.value c.in-Ok.ensures.rows)
    (subst (λ (taken : List (Option GoodRow)). IsLogAudited (opening_day c.args.opening) (map said_of taken) mid c.audit_log.result) c.as_slice.ensures.value
    c.audit_log.ensures.audited)

pub returns-in-Err-clause-audited : goal.returns-in-Err-clause-audited
returns-in-Err-clause-audited g c =
    rows_refused c.args.opening (text g.S.Source.left c.args.lines.now) c.in-Err.fault c.finding_of.result c.finding_of.ensures.found c.in-Err.ensures.told

pub returns-in-Err-clause-read : goal.returns-in-Err-clause-read
returns-in-Err-clause-read g c = λ unread. c.in-Err.ensures.read (ap Err (c.finding_of.ensures.unread unread))
