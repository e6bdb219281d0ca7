use Rattle.lift_text.specs.LineReader.{text}
use Rattle.lift_text.proofs.ShowLemmas.{fault_behind}
use Rattle.text_sections.proofs.BetweenLemmas.{behind_went}
use Rattle.picture_reader.specs.DayScenes.{log_telling}
use Rattle.picture_reader.proofs.DayReadLemmas.{log_bad, log_late, log_read}
use Rattle.picture_reader.proofs.TellingLemmas.{unkept}
use Rattle.picture_reader.proofs.day_reading.read_log.Goals as goal

pub returns-in-Err-clause-log : goal.returns-in-Err-clause-log
returns-in-Err-clause-log g c =
    let left = g.S.Source.left in
    log_bad c.args.opening.now c.args.rows.now (text left c.args.lines.now)
    (text left c.read_section.new.lines) c.new-draft.result c.read_section.new.section c.new-draft.ensures c.in-Err.fault
    (c.in-Err.ensures.outcome c.requires)

pub returns-in-Ok-into_scene-clause-log : goal.returns-in-Ok-into_scene-clause-log
returns-in-Ok-into_scene-clause-log g c =
    let left = g.S.Source.left in
    log_read c.args.opening.now c.args.rows.now (text left c.args.lines.now)
    (text left c.read_section.new.lines) c.new-draft.result c.read_section.new.section c.new-draft.ensures c.in-Ok-into_scene.scene
    (c.in-Ok.ensures.outcome c.requires) c.in-Ok-read_end.ensures.end c.in-Ok-into_scene.ensures.scene

pub returns-in-Err-into_scene-clause-log : goal.returns-in-Err-into_scene-clause-log
returns-in-Err-into_scene-clause-log g c = unkept (log_telling c.args.opening.now c.args.rows.now) (text g.S.Source.left c.args.lines.now)

pub returns-in-Err-read_end-clause-log : goal.returns-in-Err-read_end-clause-log
returns-in-Err-read_end-clause-log g c =
    let left = g.S.Source.left in
    log_late c.args.opening.now c.args.rows.now (text left c.args.lines.now)
    (text left c.read_section.new.lines) c.new-draft.result c.read_section.new.section c.new-draft.ensures c.in-Err-read_end.fault
    (c.in-Ok.ensures.outcome c.requires) c.in-Err-read_end.ensures.refused

pub returns-in-Err-read_end-clause-shows : goal.returns-in-Err-read_end-clause-shows
returns-in-Err-read_end-clause-shows g c =
    let left = g.S.Source.left in
    let before = text left c.args.lines.now in
    let mid = text left c.read_section.new.lines in
    fault_behind before mid c.in-Err-read_end.fault (left c.read_end.new.lines.source.now) (behind_went before mid (c.in-Ok.ensures.behind c.requires))
    c.in-Err-read_end.ensures.shows
