use Rattle.std.proofs.Common.{ℕ, [], Err, subst, sym}
use Rattle.day_audit.specs.declared.findings.Finding.TheVariants.{Differs}
use Rattle.day_audit.specs.Taking.{TakesEnd}
use Rattle.lift_text.specs.LineReader.{line, text, words}
use Rattle.day_audit.proofs.TakingLemmas.{line_left, nothing_left, unread_left}
use Rattle.day_audit.proofs.lines.take_nothing.Goals as goal

pub returns-in-Ok-false-clause-takes : goal.returns-in-Ok-false-clause-takes
returns-in-Ok-false-clause-takes g c =
    let left = g.S.Source.left in
    let new = c.next_line.new.self in
    let read = rw c.in-Ok-false.field-0-test at c.in-Ok-false.ensures in
    nothing_left (text left c.args.lines.now) (text left new) (words new) (line new) (read.next c.requires.whole)

pub returns-in-Ok-true-clause-takes : goal.returns-in-Ok-true-clause-takes
returns-in-Ok-true-clause-takes g c =
    let left = g.S.Source.left in
    let new = c.next_line.new.self in
    let read = rw c.in-Ok-true.field-0-test at c.in-Ok-true.ensures in
    subst (λ (n : ℕ). TakesEnd [] (text left c.args.lines.now) (Err (Differs n))) (sym c.line.ensures.value)
    (line_left (text left c.args.lines.now) (text left new) (words new) (line new) (read.next c.requires.whole))

pub returns-in-Err-clause-takes : goal.returns-in-Err-clause-takes
returns-in-Err-clause-takes g c =
    let left = g.S.Source.left in
    let new = c.next_line.new.self in
    unread_left (text left c.args.lines.now) (text left new) (words new) (line new) c.in-Err.fault c.finding_of.result
    (c.in-Err.ensures.next c.requires.whole) c.finding_of.ensures.found
