use Rattle.lift_text.specs.LineReader.{text, line}
use Rattle.lift_text.proofs.ShowLemmas.{shows_behind}
use Rattle.text_sections.proofs.BetweenLemmas.{behind_went, both_went}
use Rattle.case_text.proofs.CaseLemmas.{takes_both, takes_none}
use Rattle.case_text.proofs.AskedEndLemmas.{read_up_to_end, number_of}
use Rattle.case_text.proofs.asked_reading.read_up_to_end.Goals as goal

pub returns-in-Ok-clause-case : goal.returns-in-Ok-clause-case
returns-in-Ok-clause-case g c =
    let left = g.S.Source.left in
    let now = c.read_snapshot.new.lines in
    let first = c.in-Ok.ensures in
    let second = c.read_snapshot.ensures in
    read_up_to_end (text left c.args.lines.now) (text left c.read_building.new.lines) (text left now) c.in-Ok.building c.read_snapshot.result (line now)
    (first.only c.requires) (second.said first.ok) (second.behind first.ok)
    (number_of now.page (left now.source.now))

pub returns-in-Ok-clause-takes : goal.returns-in-Ok-clause-takes
returns-in-Ok-clause-takes g c =
    let left = g.S.Source.left in
    takes_both (text left c.args.lines.now) (text left c.read_building.new.lines) (text left c.read_snapshot.new.lines) c.in-Ok.building c.read_snapshot.result
    (c.in-Ok.ensures.each c.requires) (c.read_snapshot.ensures.lines c.in-Ok.ensures.ok)

pub returns-in-Err-clause-takes : goal.returns-in-Err-clause-takes
returns-in-Err-clause-takes g c =
    let left = g.S.Source.left in
    let now = text left c.read_building.new.lines in
    takes_none (text left c.args.lines.now) now now c.in-Err.fault (c.in-Err.ensures.each c.requires)

pub returns-in-Ok-clause-went : goal.returns-in-Ok-clause-went
returns-in-Ok-clause-went g c =
    let left = g.S.Source.left in
    both_went (text left c.args.lines.now) (text left c.read_building.new.lines) (text left c.read_snapshot.new.lines) c.read_snapshot.result
    (c.in-Ok.ensures.behind c.requires) (c.read_snapshot.ensures.behind c.in-Ok.ensures.ok)

pub returns-in-Ok-clause-shows : goal.returns-in-Ok-clause-shows
returns-in-Ok-clause-shows g c =
    let left = g.S.Source.left in
    let before = text left c.args.lines.now in
    let between = text left c.read_building.new.lines in
    let now = c.read_snapshot.new.lines in
    shows_behind before between c.read_snapshot.result (line now) (left now.source.now) (behind_went before between (c.in-Ok.ensures.behind c.requires))
    (c.read_snapshot.ensures.shows c.in-Ok.ensures.ok)
