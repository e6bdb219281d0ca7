use Rattle.std.proofs.Common.{false}
use Rattle.lift_text.specs.LineReader.{text}
use Rattle.text_sections.proofs.BetweenLemmas.{behind_went}
use Rattle.cert_text.proofs.ReaderLemmas.{begun_for, refused_for}
use Rattle.cert_text.proofs.readers.TreeReader.begin.Goals as goal

pub returns-in-Ok-clause-begun : goal.returns-in-Ok-clause-begun
returns-in-Ok-clause-begun g c = λ none.
    (let left = g.S.Source.left in
    begun_for (text left c.args.lines.now) (text left c.read_section.new.lines) false c.read_section.new.section c.in-Ok.ensures.made
    (c.in-Ok.ensures.outcome none))

pub returns-in-Err-clause-refused : goal.returns-in-Err-clause-refused
returns-in-Err-clause-refused g c = λ none.
    (let left = g.S.Source.left in
    refused_for (text left c.args.lines.now) (text left c.read_section.new.lines) false c.read_section.new.section c.in-Err.fault
    (c.in-Err.ensures.outcome none))

pub returns-in-Ok-clause-went : goal.returns-in-Ok-clause-went
returns-in-Ok-clause-went g c = λ none.
    (let left = g.S.Source.left in
    behind_went (text left c.args.lines.now) (text left c.read_section.new.lines) (c.in-Ok.ensures.behind none))
