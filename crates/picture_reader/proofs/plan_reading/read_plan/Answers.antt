use Rattle.lift_text.specs.LineReader.{text}
use Rattle.lift_text.proofs.ShowLemmas.{fault_behind}
use Rattle.picture_reader.specs.PlanScenes.{answer_telling}
use Rattle.picture_reader.proofs.PlanReadLemmas.{answer_bad, answer_late, answer_read}
use Rattle.picture_reader.proofs.TellingLemmas.{unkept}
use Rattle.picture_reader.proofs.plan_reading.read_plan.Goals as goal

pub returns-in-Err-clause-answer : goal.returns-in-Err-clause-answer
returns-in-Err-clause-answer g c =
    let left = g.S.Source.left in
    answer_bad c.args.snapshot.now (text left c.args.lines.now) (text left c.read_answer.new.lines) c.in-Err.fault (c.in-Err.ensures.refused c.requires)

pub returns-in-Ok-scene_of-clause-answer : goal.returns-in-Ok-scene_of-clause-answer
returns-in-Ok-scene_of-clause-answer g c =
    let left = g.S.Source.left in
    answer_read c.args.snapshot.now (text left c.args.lines.now) (text left c.read_answer.new.lines) c.in-Ok.stated c.in-Ok-scene_of.scene
    (c.in-Ok.ensures.answer c.requires) c.in-Ok-read_end.ensures.end c.in-Ok-scene_of.ensures.scene

pub returns-in-Ok-read_end-clause-answer : goal.returns-in-Ok-read_end-clause-answer
returns-in-Ok-read_end-clause-answer g c = unkept (answer_telling c.args.snapshot.now) (text g.S.Source.left c.args.lines.now)

pub returns-clause-answer : goal.returns-clause-answer
returns-clause-answer g c =
    let left = g.S.Source.left in
    answer_late c.args.snapshot.now (text left c.args.lines.now) (text left c.read_answer.new.lines) c.in-Ok.stated c.in-Err-read_end.fault
    (c.in-Ok.ensures.answer c.requires) c.in-Err-read_end.ensures.refused

pub returns-clause-shows : goal.returns-clause-shows
returns-clause-shows g c =
    let left = g.S.Source.left in
    let before = text left c.args.lines.now in
    let mid = text left c.read_answer.new.lines in
    fault_behind before mid c.in-Err-read_end.fault (left c.read_end.new.lines.source.now) (c.in-Ok.ensures.went c.requires) c.in-Err-read_end.ensures.shows
