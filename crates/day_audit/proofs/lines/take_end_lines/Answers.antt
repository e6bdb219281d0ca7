use Rattle.lift_text.specs.LineReader.{text}
use Rattle.day_audit.specs.Audits.{event_lines, last_lines}
use Rattle.day_audit.proofs.TakingLemmas.{takes_further, takes_short}
use Rattle.day_audit.proofs.lines.take_end_lines.Goals as goal

pub returns-in-Ok-clause-takes : goal.returns-in-Ok-clause-takes
returns-in-Ok-clause-takes g c =
    let left = g.S.Source.left in
    takes_further (event_lines c.args.events.now) (last_lines c.args.totals.accepted c.args.totals.refused c.args.totals.delivered)
    (text left c.args.lines.now) (text left c.take_events.new.lines)
    (text left c.take_last_lines.new.lines) c.take_last_lines.result c.in-Ok.ensures.takes c.take_last_lines.ensures.takes

pub returns-in-Err-clause-takes : goal.returns-in-Err-clause-takes
returns-in-Err-clause-takes g c =
    let left = g.S.Source.left in
    takes_short (event_lines c.args.events.now) (last_lines c.args.totals.accepted c.args.totals.refused c.args.totals.delivered) (text left c.args.lines.now)
    (text left c.take_events.new.lines) c.in-Err.finding c.in-Err.ensures.takes
