use Rattle.lift_text.specs.LineReader.{text}
use Rattle.day_audit.proofs.TakingLemmas.{proof_right, proof_taken, proof_unread}
use Rattle.day_audit.proofs.rows.take_proof.Goals as goal

pub returns-in-Ok-clause-takes : goal.returns-in-Ok-clause-takes
returns-in-Ok-clause-takes g c =
    let left = g.S.Source.left in
    proof_taken c.args.snapshot.now c.args.number (text left c.args.lines.now)
    (text left c.read_certified.new.lines) c.in-Ok.certified.stated c.in-Ok.certified.verdict c.proved.result c.in-Ok.ensures.certified
    c.proved.ensures.judged

pub returns-in-Ok-clause-proved : goal.returns-in-Ok-clause-proved
returns-in-Ok-clause-proved g c =
    let left = g.S.Source.left in
    proof_right c.args.snapshot.now c.args.number (text left c.args.lines.now)
    (text left c.read_certified.new.lines) c.in-Ok.certified.stated c.in-Ok.certified.verdict c.proved.result c.now-moment.ensures.accepted
    c.in-Ok.ensures.certified c.proved.ensures.judged

pub returns-in-Err-clause-takes : goal.returns-in-Err-clause-takes
returns-in-Err-clause-takes g c =
    let left = g.S.Source.left in
    proof_unread c.args.snapshot.now c.args.number (text left c.args.lines.now) (text left c.read_certified.new.lines) c.in-Err.fault c.in-Err.ensures.refused
