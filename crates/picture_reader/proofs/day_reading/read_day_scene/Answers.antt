use Rattle.lift_text.specs.LineReader.{text}
use Rattle.picture_reader.proofs.DayReadLemmas.{day_answered, opening_refused, opening_went}
use Rattle.picture_reader.proofs.TellingLemmas.{answer_shows}
use Rattle.picture_reader.proofs.day_reading.read_day_scene.Goals as goal

pub returns-in-Ok-clause-scene : goal.returns-in-Ok-clause-scene
returns-in-Ok-clause-scene g c =
    let left = g.S.Source.left in
    day_answered c.in-Ok.opening (text left c.args.lines.now)
    (text left c.read_day_opening.new.lines) c.read_day.result c.in-Ok.ensures.opening c.in-Ok.ensures.takes c.read_day.ensures.day

pub returns-in-Ok-clause-shows : goal.returns-in-Ok-clause-shows
returns-in-Ok-clause-shows g c =
    let left = g.S.Source.left in
    let before = text left c.args.lines.now in
    let mid = text left c.read_day_opening.new.lines in
    answer_shows before mid c.read_day.result (left c.read_day.new.lines.source.now) (opening_went before mid c.in-Ok.opening c.in-Ok.ensures.opening)
    c.read_day.ensures.shows

pub returns-in-Err-clause-scene : goal.returns-in-Err-clause-scene
returns-in-Err-clause-scene g c =
    let left = g.S.Source.left in
    opening_refused (text left c.args.lines.now) (text left c.read_day_opening.new.lines) c.in-Err.fault c.in-Err.ensures.refused c.in-Err.ensures.takes
