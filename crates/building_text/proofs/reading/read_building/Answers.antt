use Rattle.lift_text.specs.LineReader.{text}
use Rattle.building_text.proofs.LawLemmas.{front_answer, takes_answer}
use Rattle.building_text.proofs.LengthLemmas.{written_answer}
use Rattle.building_text.proofs.reading.read_building.Goals as goal

pub returns-clause-only : goal.returns-clause-only
returns-clause-only g c = λ none.
    (let left = g.S.Source.left in
    front_answer c.read_lines.result (text left c.args.lines.now) (text left c.read_lines.new.lines) (c.read_lines.ensures.building none))

pub returns-clause-each : goal.returns-clause-each
returns-clause-each g c = λ none.
    (let left = g.S.Source.left in
    takes_answer c.read_lines.result (text left c.args.lines.now) (text left c.read_lines.new.lines) (c.read_lines.ensures.building none)
    (c.read_lines.ensures.refused none))

pub returns-clause-written : goal.returns-clause-written
returns-clause-written g c = λ none.
    (let left = g.S.Source.left in
    let before = text left c.args.lines.now in
    let now = text left c.read_lines.new.lines in
    written_answer before now c.read_lines.result
    (takes_answer c.read_lines.result before now (c.read_lines.ensures.building none) (c.read_lines.ensures.refused none)))
