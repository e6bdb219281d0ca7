use Rattle.lift_text.specs.LineReader.{text}
use Rattle.cert_text.proofs.LoopLemmas.{answer_of, refused_of, lines_of}
use Rattle.cert_text.proofs.WrittenLemmas.{reads_text}
use Rattle.cert_text.proofs.reading.read_cert.Goals as goal

pub returns-clause-answer : goal.returns-clause-answer
returns-clause-answer g c = λ none.
    (let left = g.S.Source.left in
    answer_of c.args.snapshot.now (text left c.args.lines.now) (text left c.read.new.lines) c.read.result (c.read.ensures.said none))

pub returns-clause-refused : goal.returns-clause-refused
returns-clause-refused g c = λ none.
    (let left = g.S.Source.left in
    refused_of c.args.snapshot.now (text left c.args.lines.now) (text left c.read.new.lines) c.read.result (c.read.ensures.refused none))

pub returns-clause-lines : goal.returns-clause-lines
returns-clause-lines g c = λ none.
    (let left = g.S.Source.left in
    lines_of c.args.snapshot.now (text left c.args.lines.now) (text left c.read.new.lines) c.read.result (c.read.ensures.said none)
    (c.read.ensures.refused none))

pub returns-clause-written : goal.returns-clause-written
returns-clause-written g c = λ none.
    (let left = g.S.Source.left in
    let before = text left c.args.lines.now in
    let now = text left c.read.new.lines in
    reads_text before now c.args.snapshot.now c.read.result c.calls-calls.ensures.accepted
    (lines_of c.args.snapshot.now before now c.read.result (c.read.ensures.said none) (c.read.ensures.refused none)))
