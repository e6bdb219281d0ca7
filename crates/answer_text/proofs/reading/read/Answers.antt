use Rattle.std.proofs.Common.{◌≡◌, sym, subst, Ok, Err, IfSome}
use Rattle.std.specs.Prelude.{IsSomeAnd}
use Rattle.lift_text.specs.LineReader.{text, failure}
use Rattle.lift_text.specs.Reading.{reading}
use Rattle.text_sections.specs.Sections.{ReadAs}
use Rattle.text_sections.specs.Canonical.{IsMade, BeginsWith}
use Rattle.text_sections.proofs.BetweenLemmas.{behind_went}
use Rattle.search_model.specs.declared.Stated.{Stated}
use Rattle.answer_text.specs.Drafts.{Draft, after, stated_read}
use Rattle.answer_text.specs.Answers.{IsSaid, IsWithin}
use Rattle.answer_text.proofs.WholeLemmas.{sound}
use Rattle.answer_text.proofs.WithinLemmas.{stands_within}
use Rattle.answer_text.proofs.AgainLemmas.{said_by, answer_ok, answer_err, never_ok}
use Rattle.answer_text.proofs.reading.read.Goals as goal

pub returns-in-Ok-clause-answer : goal.returns-in-Ok-clause-answer
returns-in-Ok-clause-answer g c = λ none.
    (let left = g.S.Source.left in
    let end = c.read_section.new.section in (
      end,
      sym c.into_stated.ensures,
      subst (λ (start : Draft). ReadAs after (text left c.args.lines.now) start (Ok tt) end (text left c.read_section.new.lines)) c.new-draft.ensures
          (c.in-Ok.ensures.outcome none),
    ))

pub returns-in-Ok-clause-said : goal.returns-in-Ok-clause-said
returns-in-Ok-clause-said g c = λ none.
    (let left = g.S.Source.left in
    let before = text left c.args.lines.now in
    let now = text left c.read_section.new.lines in
    let end = c.read_section.new.section in
    let s = c.args.snapshot.now in
    let read = subst (λ (start : Draft). ReadAs after before start (Ok tt) end now) c.new-draft.ensures (c.in-Ok.ensures.outcome none) in
    let made = subst (λ (start : Draft). IsMade after start end) c.new-draft.ensures c.in-Ok.ensures.made in
    subst (λ (stated : Stated). IsSaid before s stated now) (sym c.into_stated.ensures) (said_by s before now end made read))

pub returns-in-Ok-clause-lines : goal.returns-in-Ok-clause-lines
returns-in-Ok-clause-lines g c = λ none lines stated rest says.
    (let left = g.S.Source.left in
    let before = text left c.args.lines.now in
    let now = text left c.read_section.new.lines in
    let end = c.read_section.new.section in
    let read = subst (λ (start : Draft). ReadAs after before start (Ok tt) end now) c.new-draft.ensures (c.in-Ok.ensures.outcome none) in
    subst (λ (found : Stated).
    IfSome before (λ before_text. BeginsWith lines (reading before_text) rest → (found ≡ stated) × IsSomeAnd now (λ behind. reading behind ≡ rest)))
    (sym c.into_stated.ensures) (answer_ok c.args.snapshot.now lines stated rest says before now end read))

pub returns-in-Ok-clause-within : goal.returns-in-Ok-clause-within
returns-in-Ok-clause-within g c =
    let s = c.args.snapshot.now in
    let end = c.read_section.new.section in
    let made = subst (λ (start : Draft). IsMade after start end) c.new-draft.ensures c.in-Ok.ensures.made in
    subst (IsWithin s) (sym c.into_stated.ensures) (stands_within s made.0 (stated_read end) (sound s made.0 end made.1))

pub returns-in-Ok-clause-again : goal.returns-in-Ok-clause-again
returns-in-Ok-clause-again g c = never_ok (failure c.args.lines.now) c.into_stated.result c.in-Ok.ensures.again

pub returns-in-Err-clause-lines : goal.returns-in-Err-clause-lines
returns-in-Err-clause-lines g c = λ none lines stated rest says.
    (let left = g.S.Source.left in
    let before = text left c.args.lines.now in
    let now = text left c.read_section.new.lines in
    let end = c.read_section.new.section in
    let read = subst (λ (start : Draft). ReadAs after before start (Err c.in-Err.fault) end now) c.new-draft.ensures (c.in-Err.ensures.outcome none) in
    answer_err c.args.snapshot.now lines stated rest says before now c.in-Err.fault end read)

pub returns-in-Ok-clause-went : goal.returns-in-Ok-clause-went
returns-in-Ok-clause-went g c = λ none.
    (let left = g.S.Source.left in
    behind_went (text left c.args.lines.now) (text left c.read_section.new.lines) (c.in-Ok.ensures.behind none))
