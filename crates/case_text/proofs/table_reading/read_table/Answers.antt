use Rattle.std.proofs.Common.{Ok, Err, sym, subst}
use Rattle.elevator_model.specs.Travel.{Square}
use Rattle.lift_text.specs.LineReader.{text}
use Rattle.text_sections.specs.Sections.{ReadAs}
use Rattle.text_sections.specs.Canonical.{IsMade}
use Rattle.text_sections.proofs.BetweenLemmas.{behind_went}
use Rattle.case_text.specs.TableDrafts.{Draft, after}
use Rattle.case_text.specs.TableTexts.{IsReadTable, TakesTables}
use Rattle.case_text.proofs.TableAnswerLemmas.{whole_of, read_table, refused_table, takes_read, takes_refused}
use Rattle.case_text.proofs.table_reading.read_table.Goals as goal

pub finish-requires : goal.finish-requires
finish-requires g c = whole_of c.read_section.new.section
    (subst (λ (d : Draft). IsMade after d c.read_section.new.section) c.new-draft.ensures c.in-Ok.ensures.made)

pub returns-in-Ok-clause-table : goal.returns-in-Ok-clause-table
returns-in-Ok-clause-table g c =
    let left = g.S.Source.left in
    let before = text left c.args.lines.now in
    let now = text left c.read_section.new.lines in
    let end = c.read_section.new.section in
    let read = subst (λ (start : Draft). ReadAs after before start (Ok tt) end now) c.new-draft.ensures (c.in-Ok.ensures.outcome c.requires) in
    subst (λ (t : Square). IsReadTable before t now) (sym c.finish.ensures) (read_table before now end read)

pub returns-in-Ok-clause-takes : goal.returns-in-Ok-clause-takes
returns-in-Ok-clause-takes g c =
    let left = g.S.Source.left in
    let before = text left c.args.lines.now in
    let now = text left c.read_section.new.lines in
    let end = c.read_section.new.section in
    let read = subst (λ (start : Draft). ReadAs after before start (Ok tt) end now) c.new-draft.ensures (c.in-Ok.ensures.outcome c.requires) in
    subst (λ (t : Square). TakesTables before (Ok t) now) (sym c.finish.ensures) (takes_read before now end read)

pub returns-in-Err-clause-refused : goal.returns-in-Err-clause-refused
returns-in-Err-clause-refused g c =
    let left = g.S.Source.left in
    let before = text left c.args.lines.now in
    let now = text left c.read_section.new.lines in
    let end = c.read_section.new.section in
    let read = subst (λ (start : Draft). ReadAs after before start (Err c.in-Err.fault) end now) c.new-draft.ensures (c.in-Err.ensures.outcome c.requires) in
    refused_table before now c.in-Err.fault end read

pub returns-in-Err-clause-takes : goal.returns-in-Err-clause-takes
returns-in-Err-clause-takes g c =
    let left = g.S.Source.left in
    let before = text left c.args.lines.now in
    let now = text left c.read_section.new.lines in
    let end = c.read_section.new.section in
    let read = subst (λ (start : Draft). ReadAs after before start (Err c.in-Err.fault) end now) c.new-draft.ensures (c.in-Err.ensures.outcome c.requires) in
    takes_refused before now c.in-Err.fault end read

pub returns-in-Ok-clause-went : goal.returns-in-Ok-clause-went
returns-in-Ok-clause-went g c =
    let left = g.S.Source.left in
    behind_went (text left c.args.lines.now) (text left c.read_section.new.lines) (c.in-Ok.ensures.behind c.requires)
