use Rattle.std.proofs.Common.{◌≤◌, subst, ℕ}
use Rattle.lift_text.specs.LineReader.{text, line, unread}
use Rattle.day_simulator.proofs.DayRunLemmas.{day-ended, few-answer, day-stopped, day-unmade, day-unopened}
use Rattle.day_simulator.proofs.day_runs.run_day.Goals as goal

pub returns-in-Err-clause-ran : goal.returns-in-Err-clause-ran
returns-in-Err-clause-ran g c =
    let left = g.S.Source.left in
    let taken = g.K.Sink.taken in
    let lines = c.args.lines.now in
    day-unopened (g.P.Planner.right c.args.planner.now) c.args.opening c.in-Err.fault lines.page (left lines.source.now)
    (taken c.args.sink.now) (taken c.put.new.sink) c.in-Err.ensures.write c.in-Err.ensures.front_taken

pub returns-in_default-clause-ran : goal.returns-in_default-clause-ran
returns-in_default-clause-ran g c =
    let left = g.S.Source.left in
    let taken = g.K.Sink.taken in
    let lines = c.args.lines.now in
    day-unmade (g.P.Planner.right c.args.planner.now) c.args.opening lines.page (left lines.source.now) (taken c.args.sink.now)
    (taken c.put.new.sink) c.in-Ok.ensures.ok

pub returns-in-Ok-run_rows-clause-ran : goal.returns-in-Ok-run_rows-clause-ran
returns-in-Ok-run_rows-clause-ran g c =
    let left = g.S.Source.left in
    let taken = g.K.Sink.taken in
    let ran = c.in-Ok-run_rows.ensures in
    let new = c.run_rows.new in
    day-ended (g.P.Planner.right c.args.planner.now) c.requires.sound c.args.opening c.in-Ok-new.day new.day c.in-Ok-run_rows.field-0 c.end_day.result
    (text left c.args.lines.now) (unread new.lines) (left new.lines.source.now)
    (taken c.args.sink.now) (taken c.put.new.sink) (taken new.sink)
    (taken c.end_day.new.sink) c.now-moment.ensures.accepted c.requires.opening c.in-Ok-new.ensures c.in-Ok.ensures.ok ran.none_lost ran.ran
    c.end_day.ensures.ended

pub returns-in-Err-run_rows-clause-ran : goal.returns-in-Err-run_rows-clause-ran
returns-in-Err-run_rows-clause-ran g c =
    let left = g.S.Source.left in
    let taken = g.K.Sink.taken in
    let ran = c.in-Err-run_rows.ensures in
    let new = c.run_rows.new in
    day-stopped (g.P.Planner.right c.args.planner.now) c.requires.sound c.args.opening c.in-Ok-new.day new.day c.in-Err-run_rows.fault
    (text left c.args.lines.now) (unread new.lines) (left new.lines.source.now)
    (taken c.args.sink.now) (taken c.put.new.sink)
    (taken new.sink) c.now-moment.ensures.accepted c.requires.opening c.in-Ok-new.ensures c.in-Ok.ensures.ok ran.none_lost ran.ran

pub returns-in-Ok-run_rows-clause-few : goal.returns-in-Ok-run_rows-clause-few
returns-in-Ok-run_rows-clause-few g c =
    few-answer c.run_rows.new.day c.end_day.result (line c.run_rows.new.lines) c.end_day.ensures.served c.in-Ok-run_rows.ensures.number
    (subst (λ (n : ℕ). n ≤ 67108864) c.line-last.ensures.value c.line-last.ensures.bound)
