use Rattle.std.proofs.Common.{List, Err, Ok, ◌∙◌, refl, subst}
use Rattle.lift_text.specs.LineReader.{text}
use Rattle.text_sections.specs.Sections.{Line}
use Rattle.day_audit.specs.Audits.{end_lines}
use Rattle.day_audit.specs.Taking.{TakesEnd}
use Rattle.day_audit.proofs.ProgressLemmas.{end_is, last_found, last_right}
use Rattle.day_audit.proofs.logs.take_last_lines.Goals as goal

pub returns-in-Ok-clause-taken : goal.returns-in-Ok-clause-taken
returns-in-Ok-clause-taken g c = λ day at.
    (let p = c.args.progress.now in
    let events = c.args.events.now in
    let before = text g.S.Source.left c.args.lines.now in
    let due = (λ i. end_lines events (c.from.ensures i) (c.from-2.ensures i) (c.from-3.ensures i)) ∙ end_is p day events at c.requires.events in
    last_right p day at before _ (subst (λ (lines : List Line). TakesEnd lines before (Ok tt)) due c.in-Ok.ensures.takes) refl refl)

pub returns-in-Err-clause-taken : goal.returns-in-Err-clause-taken
returns-in-Err-clause-taken g c = λ day at.
    (let p = c.args.progress.now in
    let events = c.args.events.now in
    let before = text g.S.Source.left c.args.lines.now in
    let due = (λ i. end_lines events (c.from.ensures i) (c.from-2.ensures i) (c.from-3.ensures i)) ∙ end_is p day events at c.requires.events in
    last_found p day at before c.in-Err.finding (subst (λ (lines : List Line). TakesEnd lines before (Err c.in-Err.finding)) due c.in-Err.ensures.takes))
