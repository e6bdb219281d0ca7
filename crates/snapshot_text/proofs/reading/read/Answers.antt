use Rattle.std.proofs.Common.{◌≡◌, sym, subst, ap, refl, Ok, Err, IfSome}
use Rattle.std.specs.Prelude.{IsSomeAnd}
use Rattle.lift_text.specs.LineReader.{text, failure}
use Rattle.lift_text.specs.Reading.{reading}
use Rattle.text_sections.specs.Sections.{ReadAs}
use Rattle.text_sections.specs.Canonical.{IsMade, BeginsWith}
use Rattle.lift_text.specs.declared.faults.TextFault.TheVariants.{Read}
use Rattle.text_sections.specs.Unfinished.{EndsBehind}
use Rattle.text_sections.proofs.UnfinishedLemmas.{same_error}
use Rattle.elevator_model.specs.Snapshot.{Snapshot}
use Rattle.snapshot_text.specs.Drafts.{Draft, blank, after}
use Rattle.snapshot_text.specs.Snapshots.{IsSaid}
use Rattle.snapshot_text.proofs.Whole.{sound}
use Rattle.snapshot_text.proofs.Again.{said_by, ends_behind, answer_ok, answer_err, no_memory_read, no_memory_answered, never_ok, memory_fails}
use Rattle.snapshot_text.proofs.reading.read.Goals as goal

pub into_snapshot-requires : goal.into_snapshot-requires
into_snapshot-requires g c =
    let made = subst (λ (start : Draft). IsMade after start c.read_section.new.section) c.in-Ok.ensures.value c.in-Ok-read_section.ensures.made in
    (sound c.args.building c.args.is_opening c.in-Ok.ensures.building made.0 c.read_section.new.section made.1).accepted

pub returns-in-Err-clause-refused : goal.returns-in-Err-clause-refused
returns-in-Err-clause-refused g c = λ none.
    (let left = g.S.Source.left in
    let start = blank c.args.building c.args.is_opening in
    (start, no_memory_read (text left c.args.lines.now) (text left c.args.lines.now) c.args.building c.args.is_opening start))

pub returns-in-Ok-into_snapshot-clause-snapshot : goal.returns-in-Ok-into_snapshot-clause-snapshot
returns-in-Ok-into_snapshot-clause-snapshot g c = λ none.
    (let left = g.S.Source.left in
    let end = c.read_section.new.section in
    let read = c.in-Ok-read_section.ensures.outcome none in (
      end,
      sym c.in-Ok-into_snapshot.ensures.value,
      subst (λ (start : Draft). ReadAs after (text left c.args.lines.now) start (Ok tt) end (text left c.read_section.new.lines)) c.in-Ok.ensures.value read,
    ))

pub returns-in-Ok-into_snapshot-clause-said : goal.returns-in-Ok-into_snapshot-clause-said
returns-in-Ok-into_snapshot-clause-said g c = λ none.
    (let left = g.S.Source.left in
    let before = text left c.args.lines.now in
    let now = text left c.read_section.new.lines in
    let end = c.read_section.new.section in
    let b = c.args.building in
    let o = c.args.is_opening in
    let read = subst (λ (start : Draft). ReadAs after before start (Ok tt) end now) c.in-Ok.ensures.value (c.in-Ok-read_section.ensures.outcome none) in
    let made = subst (λ (start : Draft). IsMade after start end) c.in-Ok.ensures.value c.in-Ok-read_section.ensures.made in
    subst (λ (s : Snapshot). IsSaid before b o s now) (sym c.in-Ok-into_snapshot.ensures.value) (said_by before now b o end c.in-Ok.ensures.building made read))

pub returns-in-Ok-into_snapshot-clause-lines : goal.returns-in-Ok-into_snapshot-clause-lines
returns-in-Ok-into_snapshot-clause-lines g c = λ none lines s rest says.
    (let left = g.S.Source.left in
    let before = text left c.args.lines.now in
    let now = text left c.read_section.new.lines in
    let end = c.read_section.new.section in
    let read = subst (λ (start : Draft). ReadAs after before start (Ok tt) end now) c.in-Ok.ensures.value (c.in-Ok-read_section.ensures.outcome none) in
    subst (λ (found : Snapshot).
    IfSome before (λ before_text. BeginsWith lines (reading before_text) rest → (found ≡ s) × IsSomeAnd now (λ behind. reading behind ≡ rest)))
    (sym c.in-Ok-into_snapshot.ensures.value) (answer_ok c.args.building c.args.is_opening lines s rest says before now end read))

pub returns-in-Ok-into_snapshot-clause-again : goal.returns-in-Ok-into_snapshot-clause-again
returns-in-Ok-into_snapshot-clause-again g c = never_ok (failure c.args.lines.now) c.in-Ok-into_snapshot.snapshot c.in-Ok-read_section.ensures.again

pub returns-in-Err-into_snapshot-clause-refused : goal.returns-in-Err-into_snapshot-clause-refused
returns-in-Err-into_snapshot-clause-refused g c = λ none.
    (let left = g.S.Source.left in
    let start = blank c.args.building c.args.is_opening in
    (start, no_memory_read (text left c.args.lines.now) (text left c.read_section.new.lines) c.args.building c.args.is_opening start))

pub returns-in-Err-into_snapshot-clause-again : goal.returns-in-Err-into_snapshot-clause-again
returns-in-Err-into_snapshot-clause-again g c = memory_fails (failure c.args.lines.now)

pub returns-in-Err-into_snapshot-clause-lines : goal.returns-in-Err-into_snapshot-clause-lines
returns-in-Err-into_snapshot-clause-lines g c = λ none lines s rest says.
    (let left = g.S.Source.left in
    no_memory_answered (text left c.args.lines.now) (text left c.read_section.new.lines) lines rest s)

pub returns-in-Err-read_section-clause-lines : goal.returns-in-Err-read_section-clause-lines
returns-in-Err-read_section-clause-lines g c = λ none lines s rest says.
    (let left = g.S.Source.left in
    let before = text left c.args.lines.now in
    let now = text left c.read_section.new.lines in
    let end = c.read_section.new.section in
    let read = subst (λ (start : Draft). ReadAs after before start (Err c.in-Err-read_section.fault) end now) c.in-Ok.ensures.value
    (c.in-Err-read_section.ensures.outcome none) in
    answer_err c.args.building c.args.is_opening lines s rest says before now c.in-Err-read_section.fault end read)

pub returns-in-Err-read_section-clause-unfinished : goal.returns-in-Err-read_section-clause-unfinished
returns-in-Err-read_section-clause-unfinished g c = λ none is.
    (let left = g.S.Source.left in
    let before = text left c.args.lines.now in
    let behind = left c.read_section.new.lines.source.now in
    ends_behind before c.args.building c.args.is_opening behind
    (subst (λ (start : Draft). EndsBehind after before start behind) c.in-Ok.ensures.value
    (c.in-Err-read_section.ensures.unfinished none (ap Err (same_error (Err c.in-Err-read_section.fault) c.in-Err-read_section.fault Read refl is)))))
