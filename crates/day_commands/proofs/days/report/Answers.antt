use Rattle.std.proofs.Common.{refl}
use Rattle.command_ends.specs.Ends.{streams}
use Rattle.day_commands.proofs.DayOutcomes.{no-faults, report-done, report-short, report-stopped, report-unopened}
use Rattle.day_commands.proofs.days.report.Goals as goal

pub returns-in-Ok-report_text : goal.returns-in-Ok-report_text
returns-in-Ok-report_text g c =
    let left = g.S.Source.left in
    let taken = g.K.Sink.taken in
    let old = streams (left c.args.source.now) (taken c.args.sink.now) (g.S.Source.faults c.args.source.now) (g.K.Sink.faults c.args.sink.now) in
    let new = streams (left c.run_input.new.source) (taken c.put.new.sink) (g.S.Source.faults c.run_input.new.source) (g.K.Sink.faults c.put.new.sink) in
    report-done c.args.options old new c.in-Ok.ended c.status_of_unsolved.result c.put.result c.in-Ok-report_text.text.items c.status_of_unsolved.ensures
    c.in-Ok.ensures.answered c.in-Ok-report_text.ensures (rw c.as_slice.ensures.value at c.put.ensures.put)

pub returns-in-Ok : goal.returns-in-Ok
returns-in-Ok g c =
    let left = g.S.Source.left in
    let taken = g.K.Sink.taken in
    let old = streams (left c.args.source.now) (taken c.args.sink.now) (g.S.Source.faults c.args.source.now) (g.K.Sink.faults c.args.sink.now) in
    let new = streams (left c.run_input.new.source) (taken c.args.sink.now) (g.S.Source.faults c.run_input.new.source) (g.K.Sink.faults c.args.sink.now) in
    report-short c.args.options old new _ refl refl

pub returns-in-Err-Opening : goal.returns-in-Err-Opening
returns-in-Err-Opening g c =
    let left = g.S.Source.left in
    let taken = g.K.Sink.taken in
    let old = streams (left c.args.source.now) (taken c.args.sink.now) (g.S.Source.faults c.args.source.now) (g.K.Sink.faults c.args.sink.now) in
    let new = streams (left c.run_input.new.source) (taken c.put_fault.new.sink) (g.S.Source.faults c.run_input.new.source)
    (g.K.Sink.faults c.put_fault.new.sink) in
    let told = rw c.in-Err-Opening.field-0-is at c.in-Err-Opening.ensures in
    report-unopened c.args.options old new c.in-Err-Opening.fault c.put_fault.result told.answered.2.1 told.answered.2.2 told.ends told.read c.put_fault.ensures

pub returns : goal.returns
returns g c =
    let left = g.S.Source.left in
    let taken = g.K.Sink.taken in
    let old = streams (left c.args.source.now) (taken c.args.sink.now) (g.S.Source.faults c.args.source.now) (g.K.Sink.faults c.args.sink.now) in
    let new = streams (left c.run_input.new.source) (taken c.put_rows_fault.new.sink) (g.S.Source.faults c.run_input.new.source)
    (g.K.Sink.faults c.put_rows_fault.new.sink) in
    let told = rw c.in-Err-Rows.field-0-is at c.in-Err-Rows.ensures in
    report-stopped c.args.options old new c.in-Err-Rows.fault c.put_rows_fault.result told.answered told.ends told.read
    (λ e. no-faults (told.write e)) c.put_rows_fault.ensures.put
