use Rattle.lift_text.specs.LineReader.{text}
use Rattle.text_sections.proofs.CanonicalLemmas.{reads_written}
use Rattle.text_sections.proofs.sections.read_section.Goals as goal

pub returns-clause-written : goal.returns-clause-written
returns-clause-written g c = λ none.
    reads_written g.T.Section.after (text g.S.Source.left c.args.lines.now) c.args.section.now c.read_lines.new.section c.read_lines.result
    (text g.S.Source.left c.read_lines.new.lines)
    (c.read_lines.ensures.outcome none)
