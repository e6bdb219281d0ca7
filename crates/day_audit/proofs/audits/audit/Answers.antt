use Rattle.std.proofs.Common.{ap, ◌∙◌}
use Rattle.day_audit.specs.declared.findings.Finding.TheVariants.{Text}
use Rattle.day_audit.proofs.InputLemmas.{finding_shows, input_audited, nothing_shows}
use Rattle.day_audit.proofs.audits.audit.Goals as goal

pub returns-clause-audit : goal.returns-clause-audit
returns-clause-audit g c =
    let left = g.S.Source.left in
    let read = c.in-Ok.ensures in
    input_audited c.in-Ok.input.items (left c.args.source.now)
    (left c.read_whole.new.source) c.audit_bytes.result read.given read.short read.whole c.audit_bytes.ensures.audit

pub returns-clause-shows : goal.returns-clause-shows
returns-clause-shows g c =
    let left = g.S.Source.left in
    let read = c.in-Ok.ensures in
    finding_shows c.in-Ok.input.items (left c.args.source.now)
    (left c.read_whole.new.source) c.audit_bytes.result read.given read.whole c.audit_bytes.ensures.audit

pub returns-in-Err-clause-shows : goal.returns-in-Err-clause-shows
returns-in-Err-clause-shows g c =
    let left = g.S.Source.left in
    nothing_shows c.bad_text.result c.in-Err.fault (left c.args.source.now) (left c.read_whole.new.source) (c.bad_text.ensures ∙ ap Text c.unread.ensures)
