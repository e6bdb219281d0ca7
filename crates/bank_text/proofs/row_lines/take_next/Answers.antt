use Rattle.std.proofs.Common.{ℕ, List, Ok, sym, subst}
use Rattle.lift_text.specs.LineReader.{text, raw}
use Rattle.lift_text.specs.Reading.{NextRaw}
use Rattle.lift_text.specs.declared.faults.RawLine.TheVariants.{Line}
use Rattle.bank_text.proofs.LineLemmas.{end_taken, fault_taken, line_taken, long_taken}
use Rattle.bank_text.proofs.row_lines.take_next.Goals as goal

pub returns-in-Ok-Line-clause-taken : goal.returns-in-Ok-Line-clause-taken
returns-in-Ok-Line-clause-taken g c =
    let left = g.S.Source.left in
    let before = text left c.args.lines.now in
    let after = text left c.raw_line.new.self in
    let read = rw c.in-Ok-Line.field-0-is at c.in-Ok-Line.ensures in
    let next = subst (λ (r : List ℕ). NextRaw before (Ok Line) r after) (sym c.raw.ensures) (read.next c.requires.unfailed) in
    line_taken before after c.raw.result.now c.args.banks.now c.take_line.new.banks c.take_line.result c.next_of.result c.next_of.ensures next
    c.take_line.ensures.rows c.take_line.ensures.stray

pub returns-in-Ok-Long-clause-taken : goal.returns-in-Ok-Long-clause-taken
returns-in-Ok-Long-clause-taken g c =
    let left = g.S.Source.left in
    let read = rw c.in-Ok-Long.field-0-is at c.in-Ok-Long.ensures in
    long_taken (text left c.args.lines.now) (text left c.raw_line.new.self) (raw c.raw_line.new.self) c.args.banks.now (read.next c.requires.unfailed)

pub returns-in-Ok-End-clause-taken : goal.returns-in-Ok-End-clause-taken
returns-in-Ok-End-clause-taken g c =
    let left = g.S.Source.left in
    let read = rw c.in-Ok-End.field-0-is at c.in-Ok-End.ensures in
    end_taken (text left c.args.lines.now) (text left c.raw_line.new.self) (raw c.raw_line.new.self) c.args.banks.now (read.next c.requires.unfailed)

pub returns-in-Err-clause-taken : goal.returns-in-Err-clause-taken
returns-in-Err-clause-taken g c =
    let left = g.S.Source.left in
    fault_taken (text left c.args.lines.now) (text left c.raw_line.new.self) (raw c.raw_line.new.self) c.in-Err.fault
    (c.in-Err.ensures.next c.requires.unfailed)
