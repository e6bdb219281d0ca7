use Rattle.lift_text.specs.LineReader.{text}
use Rattle.answer_text.proofs.WrittenLemmas.{reads_text}
use Rattle.answer_text.proofs.reading.read_answer.Goals as goal

pub returns-clause-written : goal.returns-clause-written
returns-clause-written g c = λ none.
    (let left = g.S.Source.left in
    reads_text (text left c.args.lines.now) (text left c.read.new.lines) c.args.snapshot.now c.read.result c.calls-calls.ensures.accepted
    (c.read.ensures.lines none))
