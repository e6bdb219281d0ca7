use Rattle.std.proofs.Common.{Err, ap, refl}
use Rattle.lift_text.specs.LineReader.{text, unread}
use Rattle.day_simulator.proofs.TextRunLemmas.{opening-taken, rows-end, small-report}
use Rattle.day_simulator.proofs.StepLemmas.{rose-before}
use Rattle.day_simulator.proofs.text_runs.run_day_text.Goals as goal

pub returns-in-Ok-run_day-clause-answered : goal.returns-in-Ok-run_day-clause-answered
returns-in-Ok-run_day-clause-answered g c = record {
  opening = c.in-Ok.opening;
  rows = text g.S.Source.left c.read_day_opening.new.lines;
  read = c.in-Ok.ensures.opening;
  ran = c.in-Ok-run_day.ensures.ran;
}

pub returns-in-Err-run_day-clause-answered : goal.returns-in-Err-run_day-clause-answered
returns-in-Err-run_day-clause-answered g c = record {
  opening = c.in-Ok.opening;
  rows = text g.S.Source.left c.read_day_opening.new.lines;
  read = c.in-Ok.ensures.opening;
  ran = c.in-Err-run_day.ensures.ran;
}

pub returns-in-Ok-run_day-clause-small : goal.returns-in-Ok-run_day-clause-small
returns-in-Ok-run_day-clause-small g c = small-report c.in-Ok-run_day.ended.served.items c.in-Ok-run_day.ensures.early c.in-Ok-run_day.ensures.few

pub returns-in-Err-run_day-clause-ends : goal.returns-in-Err-run_day-clause-ends
returns-in-Err-run_day-clause-ends g c =
    let left = g.S.Source.left in
    let taken = g.K.Sink.taken in
    rows-end (g.P.Planner.right c.args.planner.now) c.in-Ok.opening c.in-Err-run_day.fault (text left c.args.lines.now)
    (text left c.read_day_opening.new.lines) (unread c.run_day.new.lines) (left c.run_day.new.lines.source.now) (taken c.args.sink.now)
    (taken c.run_day.new.sink) c.in-Ok.ensures.takes c.in-Err-run_day.ensures.ran

pub returns-in-Err-run_day-clause-read : goal.returns-in-Err-run_day-clause-read
returns-in-Err-run_day-clause-read g c = λ e. rose-before _ _ _ c.in-Ok.ensures.counted (c.in-Err-run_day.ensures.read (ap Err e))

pub returns-in-Err-clause-ends : goal.returns-in-Err-clause-ends
returns-in-Err-clause-ends g c =
    opening-taken c.in-Err.fault (text g.S.Source.left c.args.lines.now) (text g.S.Source.left c.read_day_opening.new.lines) c.in-Err.ensures.takes

pub returns-in-Err-clause-answered : goal.returns-in-Err-clause-answered
returns-in-Err-clause-answered g c = (refl, c.in-Err.ensures.refused, c.in-Err.ensures.shows, λ e. c.in-Err.ensures.unopened (ap Err e))
