use Rattle.lift_text.specs.LineReader.{text}
use Rattle.picture_reader.proofs.PlanReadLemmas.{case_refused, plan_answered}
use Rattle.picture_reader.proofs.TellingLemmas.{answer_shows}
use Rattle.picture_reader.proofs.plan_reading.read_plan_scene.Goals as goal

pub returns-in-Ok-clause-scene : goal.returns-in-Ok-clause-scene
returns-in-Ok-clause-scene g c =
    let left = g.S.Source.left in
    plan_answered c.in-Ok.snapshot (text left c.args.lines.now)
    (text left c.read_case.new.lines) c.read_plan.result c.in-Ok.ensures.case c.in-Ok.ensures.takes c.read_plan.ensures.answer

pub returns-in-Ok-clause-shows : goal.returns-in-Ok-clause-shows
returns-in-Ok-clause-shows g c =
    let left = g.S.Source.left in
    answer_shows (text left c.args.lines.now) (text left c.read_case.new.lines) c.read_plan.result (left c.read_plan.new.lines.source.now)
    c.in-Ok.ensures.went c.read_plan.ensures.shows

pub returns-in-Err-clause-scene : goal.returns-in-Err-clause-scene
returns-in-Err-clause-scene g c =
    let left = g.S.Source.left in
    case_refused (text left c.args.lines.now) (text left c.read_case.new.lines) c.in-Err.fault c.in-Err.ensures.refused c.in-Err.ensures.takes
