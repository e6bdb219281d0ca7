use Rattle.lift_text.specs.LineReader.{text}
use Rattle.snapshot_text.proofs.Written.{reads_text}
use Rattle.snapshot_text.proofs.reading.read_snapshot.Goals as goal

pub returns-clause-written : goal.returns-clause-written
returns-clause-written g c = λ none.
    (let left = g.S.Source.left in
    reads_text (text left c.args.lines.now) (text left c.read.new.lines) c.args.building c.read.result (c.read.ensures.lines none))
