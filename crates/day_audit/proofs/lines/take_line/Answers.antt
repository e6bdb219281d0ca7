use Rattle.std.proofs.Common.{ℕ, ◌+◌, [], ◌∷◌, Result, Err, ap, ◌∙◌, subst, sym}
use Rattle.day_audit.specs.declared.findings.Finding.{Finding}
use Rattle.day_audit.specs.declared.findings.Finding.TheVariants.{Differs}
use Rattle.day_audit.specs.Taking.{TakesLines, said_at}
use Rattle.lift_text.specs.LineReader.{line, text, words}
use Rattle.day_audit.specs.Words.{due_words}
use Rattle.day_audit.proofs.TakingLemmas.{line_none, line_said, line_unread}
use Rattle.day_audit.proofs.lines.take_line.Goals as goal

pub returns-in-Ok-true-clause-takes : goal.returns-in-Ok-true-clause-takes
returns-in-Ok-true-clause-takes g c =
    let left = g.S.Source.left in
    let new = c.next_line.new.self in
    let due = due_words c.args.due.now in
    let read = rw c.in-Ok-true.field-0-test at c.in-Ok-true.ensures in
    subst (λ (answer : Result Unit Finding). TakesLines (due ∷ []) (text left c.args.lines.now) answer (text left new))
    (sym (c.said_at.ensures.said ∙ ap (said_at c.says.result) c.line.ensures.value))
    (line_said (text left c.args.lines.now) (text left new) (words new) due (line new) c.says.result (read.next c.requires.whole) c.says.ensures)

pub returns-in-Ok-false-clause-takes : goal.returns-in-Ok-false-clause-takes
returns-in-Ok-false-clause-takes g c =
    let left = g.S.Source.left in
    let new = c.next_line.new.self in
    let due = due_words c.args.due.now in
    let read = rw c.in-Ok-false.field-0-test at c.in-Ok-false.ensures in
    subst (λ (n : ℕ). TakesLines (due ∷ []) (text left c.args.lines.now) (Err (Differs (n + 1))) (text left new)) (sym c.line-in-Ok-false.ensures.value)
    (line_none (text left c.args.lines.now) (text left new) (words new) due (line new) (read.next c.requires.whole))

pub returns-in-Err-clause-takes : goal.returns-in-Err-clause-takes
returns-in-Err-clause-takes g c =
    let left = g.S.Source.left in
    let new = c.next_line.new.self in
    line_unread (text left c.args.lines.now) (text left new) (words new) (due_words c.args.due.now) (line new) c.in-Err.fault c.finding_of.result
    (c.in-Err.ensures.next c.requires.whole) c.finding_of.ensures.found
