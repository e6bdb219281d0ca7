use Rattle.std.proofs.Common.{subst, ap, refl, Ok, Err}
use Rattle.lift_text.specs.LineReader.{text, line, failure}
use Rattle.lift_text.specs.declared.faults.TextFault.TheVariants.{Read}
use Rattle.text_sections.specs.Sections.{ReadAs}
use Rattle.text_sections.proofs.UnfinishedLemmas.{same_error}
use Rattle.text_sections.specs.Canonical.{IsMade}
use Rattle.text_sections.specs.Unfinished.{EndsBehind}
use Rattle.building_text.specs.Drafts.{Draft, after}
use Rattle.lift_text.proofs.ShowLemmas.{memory_shows}
use Rattle.building_text.proofs.LawLemmas.{made_whole, read_answer, refused_answer, again_answer, ends_behind, never_unread}
use Rattle.building_text.proofs.reading.read_lines.Goals as goal

pub finish-requires : goal.finish-requires
finish-requires g c = made_whole c.read_section.new.section
    (subst (λ (d : Draft). IsMade after d c.read_section.new.section) c.new-draft.ensures c.in-Ok.ensures.made)

pub returns-in-Ok-clause-building : goal.returns-in-Ok-clause-building
returns-in-Ok-clause-building g c = λ none.
    (let left = g.S.Source.left in
    let before = text left c.args.lines.now in
    let now = text left c.read_section.new.lines in
    let d = c.read_section.new.section in
    read_answer c.finish.result before now d
    (subst (λ (start : Draft). ReadAs after before start (Ok tt) d now) c.new-draft.ensures (c.in-Ok.ensures.outcome none)) c.finish.ensures.stands)

pub returns-in-Ok-clause-refused : goal.returns-in-Ok-clause-refused
returns-in-Ok-clause-refused g c = λ none.
    (let left = g.S.Source.left in
    refused_answer c.finish.result (text left c.args.lines.now) (text left c.read_section.new.lines) c.finish.ensures.failed)

pub returns-in-Ok-clause-again : goal.returns-in-Ok-clause-again
returns-in-Ok-clause-again g c = again_answer (failure c.args.lines.now) c.finish.result c.in-Ok.ensures.again

pub returns-in-Ok-clause-shows : goal.returns-in-Ok-clause-shows
returns-in-Ok-clause-shows g c = λ none.
    (let left = g.S.Source.left in
    let now = c.read_section.new.lines in
    memory_shows (text left c.args.lines.now) c.finish.result (line now) (left now.source.now) (c.in-Ok.ensures.shows none) c.finish.ensures.failed)

pub returns-in-Ok-clause-unfinished : goal.returns-in-Ok-clause-unfinished
returns-in-Ok-clause-unfinished g c = λ none is. absurd (never_unread c.finish.result c.finish.ensures.failed is)

pub returns-in-Err-clause-unfinished : goal.returns-in-Err-clause-unfinished
returns-in-Err-clause-unfinished g c = λ none is.
    (let left = g.S.Source.left in
    let before = text left c.args.lines.now in
    let behind = left c.read_section.new.lines.source.now in
    ends_behind before behind
    (subst (λ (start : Draft). EndsBehind after before start behind) c.new-draft.ensures
    (c.in-Err.ensures.unfinished none (ap Err (same_error (Err c.in-Err.fault) c.in-Err.fault Read refl is)))))
