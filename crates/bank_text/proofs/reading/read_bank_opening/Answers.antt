use Rattle.lift_text.specs.LineReader.{text, line}
use Rattle.text_sections.proofs.BetweenLemmas.{behind_went, both_went}
use Rattle.bank_text.proofs.HeadLemmas.{building_refused, opening_read, opening_ready, shows_after, snapshot_refused}
use Rattle.bank_text.proofs.TakenLemmas.{takes_no_building, takes_opening}
use Rattle.bank_text.proofs.reading.read_bank_opening.Goals as goal

pub returns-in-Ok-clause-opening : goal.returns-in-Ok-clause-opening
returns-in-Ok-clause-opening g c =
    let left = g.S.Source.left in
    let first = c.in-Ok.ensures in
    let second = c.read_opening.ensures in
    opening_read (text left c.args.lines.now) (text left c.read_building.new.lines) (text left c.read_opening.new.lines) c.in-Ok.building c.read_opening.result
    (first.only c.requires) (first.behind c.requires) (second.said first.ok) (second.behind first.ok)

pub returns-in-Ok-clause-refused : goal.returns-in-Ok-clause-refused
returns-in-Ok-clause-refused g c =
    let left = g.S.Source.left in
    let first = c.in-Ok.ensures in
    snapshot_refused (text left c.args.lines.now) (text left c.read_building.new.lines)
    (text left c.read_opening.new.lines) c.in-Ok.building c.read_opening.result (first.only c.requires) (first.behind c.requires)
    (c.read_opening.ensures.refused first.ok)

pub returns-in-Ok-clause-ready : goal.returns-in-Ok-clause-ready
returns-in-Ok-clause-ready g c =
    let left = g.S.Source.left in
    let first = c.in-Ok.ensures in
    let second = c.read_opening.ensures in
    opening_ready (text left c.read_building.new.lines) (text left c.read_opening.new.lines) c.in-Ok.building c.read_opening.result
    (second.said first.ok) second.accepted

pub returns-in-Ok-clause-went : goal.returns-in-Ok-clause-went
returns-in-Ok-clause-went g c =
    let left = g.S.Source.left in
    both_went (text left c.args.lines.now) (text left c.read_building.new.lines) (text left c.read_opening.new.lines) c.read_opening.result
    (c.in-Ok.ensures.behind c.requires) (c.read_opening.ensures.behind c.in-Ok.ensures.ok)

pub returns-in-Ok-clause-shows : goal.returns-in-Ok-clause-shows
returns-in-Ok-clause-shows g c =
    let left = g.S.Source.left in
    let before = text left c.args.lines.now in
    let above = text left c.read_building.new.lines in
    let now = c.read_opening.new.lines in
    shows_after before above c.read_opening.result (line now) (left now.source.now) (behind_went before above (c.in-Ok.ensures.behind c.requires))
    (c.read_opening.ensures.shows c.in-Ok.ensures.ok)

pub returns-in-Err-clause-refused : goal.returns-in-Err-clause-refused
returns-in-Err-clause-refused g c =
    let left = g.S.Source.left in
    building_refused (text left c.args.lines.now) (text left c.read_building.new.lines) c.in-Err.fault (c.in-Err.ensures.refused c.requires)

pub returns-in-Ok-clause-takes : goal.returns-in-Ok-clause-takes
returns-in-Ok-clause-takes g c =
    let left = g.S.Source.left in
    let first = c.in-Ok.ensures in
    let second = c.read_opening.ensures in
    takes_opening (text left c.args.lines.now) (text left c.read_building.new.lines)
    (text left c.read_opening.new.lines) c.in-Ok.building c.read_opening.result (first.each c.requires) (first.behind c.requires) (second.lines first.ok)
    (second.behind first.ok)

pub returns-in-Err-clause-takes : goal.returns-in-Err-clause-takes
returns-in-Err-clause-takes g c =
    let left = g.S.Source.left in
    let above = text left c.read_building.new.lines in
    takes_no_building (text left c.args.lines.now) above above c.in-Err.fault (c.in-Err.ensures.each c.requires)
