use Rattle.std.proofs.Common.{List, Option, subst}
use Rattle.elevator_model.specs.Building.{Building}
use Rattle.lift_text.specs.LineReader.{text}
use Rattle.day_text.specs.declared.rows.GoodRow.{GoodRow}
use Rattle.log_rows.specs.Rows.{AreRowsGiven}
use Rattle.log_rows.proofs.RowLemmas.{rows_went}
use Rattle.picture_reader.specs.DayScenes.{log_telling}
use Rattle.picture_reader.specs.Tellings.{IsAnsweredBy}
use Rattle.picture_reader.proofs.DayReadLemmas.{rows_answered, rows_refused}
use Rattle.picture_reader.proofs.TellingLemmas.{answer_shows}
use Rattle.picture_reader.proofs.day_reading.read_day.Goals as goal

pub returns-in-Ok-clause-day : goal.returns-in-Ok-clause-day
returns-in-Ok-clause-day g c =
    let left = g.S.Source.left in
    let before = text left c.args.lines.now in
    let mid = text left c.read_rows.new.lines in
    let rows = c.in-Ok.rows.items in
    rows_answered c.args.opening.now rows before mid c.read_log.result
    (subst (λ (b : Building). AreRowsGiven b rows before mid) c.building.ensures.value c.in-Ok.ensures.rows)
    (subst (λ (taken : List (Option GoodRow)). IsAnsweredBy (log_telling c.args.opening.now taken) mid c.read_log.result) c.as_slice.ensures.value
    c.read_log.ensures.log)

pub returns-in-Ok-clause-shows : goal.returns-in-Ok-clause-shows
returns-in-Ok-clause-shows g c =
    let left = g.S.Source.left in
    let before = text left c.args.lines.now in
    let mid = text left c.read_rows.new.lines in
    let rows = c.in-Ok.rows.items in
    let given = subst (λ (b : Building). AreRowsGiven b rows before mid) c.building.ensures.value c.in-Ok.ensures.rows in
    answer_shows before mid c.read_log.result (left c.read_log.new.lines.source.now) (rows_went c.args.opening.now.building rows before mid given)
    c.read_log.ensures.shows

pub returns-in-Err-clause-day : goal.returns-in-Err-clause-day
returns-in-Err-clause-day g c = rows_refused c.args.opening.now (text g.S.Source.left c.args.lines.now) c.in-Err.fault c.in-Err.ensures.told
