use Rattle.lift_text.specs.LineReader.{text}
use Rattle.day_audit.specs.Audits.{end_lines}
use Rattle.day_audit.proofs.TakingLemmas.{end_further, end_short}
use Rattle.day_audit.proofs.lines.take_end.Goals as goal

pub returns-in-Ok-clause-takes : goal.returns-in-Ok-clause-takes
returns-in-Ok-clause-takes g c =
    let left = g.S.Source.left in
    let totals = c.args.totals in
    end_further (end_lines c.args.events.now totals.accepted totals.refused totals.delivered) (text left c.args.lines.now)
    (text left c.take_end_lines.new.lines) c.take_nothing.result c.in-Ok.ensures.takes c.take_nothing.ensures.takes

pub returns-in-Err-clause-takes : goal.returns-in-Err-clause-takes
returns-in-Err-clause-takes g c =
    let left = g.S.Source.left in
    let totals = c.args.totals in
    end_short (end_lines c.args.events.now totals.accepted totals.refused totals.delivered) (text left c.args.lines.now)
    (text left c.take_end_lines.new.lines) c.in-Err.finding c.in-Err.ensures.takes
