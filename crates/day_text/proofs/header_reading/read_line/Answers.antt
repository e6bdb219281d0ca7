use Rattle.std.proofs.Common.{◌≡◌, ◌∙◌, ap, sym, subst, rules, Err}
use Rattle.lift_text.specs.LineReader.{text, line, raw}
use Rattle.day_text.specs.Headers.{IsLineRead}
use Rattle.day_text.proofs.HeaderReadLemmas.{empty_line, header_line, no_header, number_of}
use Rattle.day_text.proofs.PieceLemmas.{no_bytes}
use Rattle.lift_text.specs.declared.faults.TextFault.TheVariants.{Read}
use Rattle.text_sections.proofs.UnfinishedLemmas.{raw_lacks, same_error}
use Rattle.day_text.proofs.header_reading.read_line.Goals as goal

pub returns-then-is_empty-clause-line : goal.returns-then-is_empty-clause-line
returns-then-is_empty-clause-line g c =
    let left = g.S.Source.left in
    let read = rw c.in-Line.is at c.in_ok-found.ensures in
    let none = no_bytes c.raw.result.now (sym c.is_empty.ensures ∙ c.if-is_empty.true) in
    empty_line c.args.header (text left c.args.lines.now) (text left c.raw_line.new.self) (raw c.raw_line.new.self) (read.next c.requires)
    (sym c.raw.ensures ∙ none)

pub returns-in-Ok-true-clause-line : goal.returns-in-Ok-true-clause-line
returns-in-Ok-true-clause-line g c =
    let left = g.S.Source.left in
    let read = rw c.in-Line.is at c.in_ok-found.ensures in
    header_line c.args.header (text left c.args.lines.now) (text left c.raw_line.new.self) (raw c.raw_line.new.self) (read.next c.requires) (search rules)

pub returns-in-Ok-false-clause-line : goal.returns-in-Ok-false-clause-line
returns-in-Ok-false-clause-line g c =
    let left = g.S.Source.left in
    let before = text left c.args.lines.now in
    let now = text left c.raw_line.new.self in
    let read = rw c.in-Line.is at c.in_ok-found.ensures in
    let bad = no_header c.args.header before now (raw c.raw_line.new.self) (line c.args.lines.now) c.line-line.result (read.next c.requires) (search rules)
    (search rules) (number_of c.args.lines.now.page (left c.args.lines.now.source.now)) (search rules) in
    subst (λ fault. IsLineRead c.args.header before (Err fault) now) (sym c.bad_line-in-Ok-false.ensures) bad

pub returns-in_err-found-clause-lacks : goal.returns-in_err-found-clause-lacks
returns-in_err-found-clause-lacks g c =
    let left = g.S.Source.left in
    let took = c.in_err-found.ensures.taken in
    let same : c.from_residual.result ≡ Err c.in_err-found.field-0.0 = search rules in
    λ is. (let fault : c.in_err-found.field-0.0 ≡ Read = same_error c.from_residual.result c.in_err-found.field-0.0 Read same is in
    raw_lacks c.args.lines.now.page (left c.args.lines.now.source.now) (left c.raw_line.new.self.source.now) took.0 took.1.given
    (took.3 c.requires (ap Err fault)))
