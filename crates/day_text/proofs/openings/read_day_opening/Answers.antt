use Rattle.std.proofs.Common.{ap, refl, Ok, Err}
use Rattle.lift_text.specs.LineReader.{text}
use Rattle.lift_text.proofs.ShowLemmas.{went_further, fault_behind}
use Rattle.lift_text.specs.declared.faults.TextFault.TheVariants.{Read}
use Rattle.text_sections.proofs.BetweenLemmas.{behind_went}
use Rattle.text_sections.proofs.UnfinishedLemmas.{same_error}
use Rattle.day_text.proofs.OpeningLemmas.{opening_read, opening_refused, header_refused, takes_no_building, takes_no_snapshot, takes_snapshot}
use Rattle.day_text.proofs.UnreadLemmas.{no_building, no_snapshot, no_header}
use Rattle.day_text.proofs.openings.read_day_opening.Goals as goal

pub returns-in-Err-clause-takes : goal.returns-in-Err-clause-takes
returns-in-Err-clause-takes g c =
    let left = g.S.Source.left in
    let above = text left c.read_building.new.lines in
    takes_no_building (text left c.args.lines.now) above above c.in-Err.fault (c.in-Err.ensures.each c.requires)

pub returns-in-Err-read_opening-clause-refused : goal.returns-in-Err-read_opening-clause-refused
returns-in-Err-read_opening-clause-refused g c =
    let left = g.S.Source.left in
    let first = c.in-Ok.ensures in
    let second = c.in-Err-read_opening.ensures in
    opening_refused (text left c.args.lines.now) (text left c.read_building.new.lines)
    (text left c.read_opening.new.lines) c.in-Ok.building c.in-Err-read_opening.fault (first.only c.requires) (first.behind c.requires)
    (second.refused first.ok)

pub returns-in-Err-read_opening-clause-takes : goal.returns-in-Err-read_opening-clause-takes
returns-in-Err-read_opening-clause-takes g c =
    let left = g.S.Source.left in
    let between = text left c.read_opening.new.lines in
    let first = c.in-Ok.ensures in
    let second = c.in-Err-read_opening.ensures in
    takes_no_snapshot (text left c.args.lines.now) (text left c.read_building.new.lines) between between c.in-Ok.building c.in-Err-read_opening.fault
    (first.each c.requires) (first.behind c.requires) (second.lines first.ok)

pub returns-in-Ok-read_header-clause-opening : goal.returns-in-Ok-read_header-clause-opening
returns-in-Ok-read_header-clause-opening g c =
    let left = g.S.Source.left in
    let first = c.in-Ok.ensures in
    let second = c.in-Ok-read_opening.ensures in
    opening_read (text left c.args.lines.now) (text left c.read_building.new.lines) (text left c.read_opening.new.lines)
    (text left c.read_header.new.lines) c.in-Ok.building c.in-Ok-read_opening.snapshot
    (first.only c.requires) (first.behind c.requires) (second.said first.ok) (second.behind first.ok) c.in-Ok-read_header.ensures.header

pub returns-in-Ok-read_header-clause-takes : goal.returns-in-Ok-read_header-clause-takes
returns-in-Ok-read_header-clause-takes g c =
    let left = g.S.Source.left in
    let first = c.in-Ok.ensures in
    let second = c.in-Ok-read_opening.ensures in
    takes_snapshot (text left c.args.lines.now) (text left c.read_building.new.lines) (text left c.read_opening.new.lines)
    (text left c.read_header.new.lines) c.in-Ok.building c.in-Ok-read_opening.snapshot
    (Ok c.in-Ok-read_header.field-0) (first.each c.requires) (first.behind c.requires) (second.lines first.ok)
    (second.behind first.ok) c.in-Ok-read_header.ensures.header

pub returns-in-Err-read_header-clause-refused : goal.returns-in-Err-read_header-clause-refused
returns-in-Err-read_header-clause-refused g c =
    let left = g.S.Source.left in
    let first = c.in-Ok.ensures in
    let second = c.in-Ok-read_opening.ensures in
    header_refused (text left c.args.lines.now) (text left c.read_building.new.lines) (text left c.read_opening.new.lines)
    (text left c.read_header.new.lines) c.in-Ok.building c.in-Ok-read_opening.snapshot
    c.in-Err-read_header.fault (first.only c.requires) (first.behind c.requires) (second.said first.ok)
    (second.behind first.ok) c.in-Err-read_header.ensures.header

pub returns-in-Err-read_header-clause-takes : goal.returns-in-Err-read_header-clause-takes
returns-in-Err-read_header-clause-takes g c =
    let left = g.S.Source.left in
    let first = c.in-Ok.ensures in
    let second = c.in-Ok-read_opening.ensures in
    takes_snapshot (text left c.args.lines.now) (text left c.read_building.new.lines) (text left c.read_opening.new.lines)
    (text left c.read_header.new.lines) c.in-Ok.building c.in-Ok-read_opening.snapshot
    (Err c.in-Err-read_header.fault) (first.each c.requires) (first.behind c.requires) (second.lines first.ok)
    (second.behind first.ok) c.in-Err-read_header.ensures.header

pub returns-in-Err-read_opening-clause-shows : goal.returns-in-Err-read_opening-clause-shows
returns-in-Err-read_opening-clause-shows g c =
    let left = g.S.Source.left in
    let before = text left c.args.lines.now in
    let middle = text left c.read_building.new.lines in
    let first = c.in-Ok.ensures in
    fault_behind before middle c.in-Err-read_opening.fault (left c.read_opening.new.lines.source.now) (behind_went before middle (first.behind c.requires))
    (c.in-Err-read_opening.ensures.shows first.ok)

pub returns-in-Err-read_header-clause-shows : goal.returns-in-Err-read_header-clause-shows
returns-in-Err-read_header-clause-shows g c =
    let left = g.S.Source.left in
    let before = text left c.args.lines.now in
    let middle = text left c.read_building.new.lines in
    let behind = text left c.read_opening.new.lines in
    let first = c.in-Ok.ensures in
    let second = c.in-Ok-read_opening.ensures in
    let went = went_further before middle behind (behind_went before middle (first.behind c.requires)) (behind_went middle behind (second.behind first.ok)) in
    fault_behind before behind c.in-Err-read_header.fault (left c.read_header.new.lines.source.now) went c.in-Err-read_header.ensures.shows

pub returns-in-Err-clause-unopened : goal.returns-in-Err-clause-unopened
returns-in-Err-clause-unopened g c = λ is.
    (let left = g.S.Source.left in
    no_building (text left c.args.lines.now) (left c.read_building.new.lines.source.now)
    (c.in-Err.ensures.unfinished c.requires (ap Err (same_error (Err c.in-Err.fault) c.in-Err.fault Read refl is))))

pub returns-in-Err-read_opening-clause-unopened : goal.returns-in-Err-read_opening-clause-unopened
returns-in-Err-read_opening-clause-unopened g c = λ is.
    (let left = g.S.Source.left in
    let first = c.in-Ok.ensures in
    no_snapshot (text left c.args.lines.now) (text left c.read_building.new.lines) c.in-Ok.building (left c.read_opening.new.lines.source.now)
    (first.each c.requires) (first.behind c.requires)
    (c.in-Err-read_opening.ensures.unfinished first.ok (ap Err (same_error (Err c.in-Err-read_opening.fault) c.in-Err-read_opening.fault Read refl is))))

pub returns-in-Err-read_header-clause-unopened : goal.returns-in-Err-read_header-clause-unopened
returns-in-Err-read_header-clause-unopened g c = λ is.
    (let left = g.S.Source.left in
    let first = c.in-Ok.ensures in
    let second = c.in-Ok-read_opening.ensures in
    no_header (text left c.args.lines.now) (text left c.read_building.new.lines)
    (text left c.read_opening.new.lines) c.in-Ok.building c.in-Ok-read_opening.snapshot (left c.read_header.new.lines.source.now)
    (first.each c.requires) (first.behind c.requires) (second.lines first.ok) (second.behind first.ok)
    (c.in-Err-read_header.ensures.unfinished (ap Err (same_error (Err c.in-Err-read_header.fault) c.in-Err-read_header.fault Read refl is))))
