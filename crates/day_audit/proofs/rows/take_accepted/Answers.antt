use Rattle.lift_text.specs.LineReader.{text}
use Rattle.day_audit.proofs.TakingLemmas.{accepted_short, accepted_taken}
use Rattle.day_audit.proofs.rows.take_accepted.Goals as goal

pub returns-in-Ok-clause-takes : goal.returns-in-Ok-clause-takes
returns-in-Ok-clause-takes g c =
    let left = g.S.Source.left in
    accepted_taken c.args.number c.args.events.now c.args.snapshot.now (text left c.args.lines.now) (text left c.take_accepted_lines.new.lines)
    (text left c.take_proof.new.lines) c.take_proof.result c.in-Ok.ensures.takes c.take_proof.ensures.takes

pub returns-in-Err-clause-takes : goal.returns-in-Err-clause-takes
returns-in-Err-clause-takes g c =
    let left = g.S.Source.left in
    accepted_short c.args.number c.args.events.now c.args.snapshot.now (text left c.args.lines.now)
    (text left c.take_accepted_lines.new.lines) c.in-Err.finding c.in-Err.ensures.takes
