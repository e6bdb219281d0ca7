use Rattle.command_ends.specs.Ends.{streams}
use Rattle.day_commands.proofs.DayOutcomes.{day-done, day-stopped, day-unopened}
use Rattle.day_commands.proofs.days.day.Goals as goal

pub returns-in-Ok : goal.returns-in-Ok
returns-in-Ok g c =
    let left = g.S.Source.left in
    let taken = g.K.Sink.taken in
    let old = streams (left c.args.source.now) (taken c.args.sink.now) (g.S.Source.faults c.args.source.now) (g.K.Sink.faults c.args.sink.now) in
    let new = streams (left c.run_input.new.source) (taken c.run_input.new.sink) (g.S.Source.faults c.run_input.new.source)
    (g.K.Sink.faults c.run_input.new.sink) in
    day-done c.args.options old new c.in-Ok.ended c.status_of_unsolved.result c.status_of_unsolved.ensures c.in-Ok.ensures.answered

pub returns-in-Err-Opening : goal.returns-in-Err-Opening
returns-in-Err-Opening g c =
    let left = g.S.Source.left in
    let taken = g.K.Sink.taken in
    let old = streams (left c.args.source.now) (taken c.args.sink.now) (g.S.Source.faults c.args.source.now) (g.K.Sink.faults c.args.sink.now) in
    let new = streams (left c.run_input.new.source) (taken c.put_fault.new.sink) (g.S.Source.faults c.run_input.new.source)
    (g.K.Sink.faults c.put_fault.new.sink) in
    let told = rw c.in-Err-Opening.field-0-is at c.in-Err-Opening.ensures in
    day-unopened c.args.options old new c.in-Err-Opening.fault c.put_fault.result (taken c.run_input.new.sink)
    (g.K.Sink.faults c.run_input.new.sink) told.answered.2.0 told.sink_counted told.answered.2.1 told.answered.2.2 told.answered.2.3 told.ends told.read
    c.put_fault.ensures

pub returns-in-Err-Rows : goal.returns-in-Err-Rows
returns-in-Err-Rows g c =
    let left = g.S.Source.left in
    let taken = g.K.Sink.taken in
    let old = streams (left c.args.source.now) (taken c.args.sink.now) (g.S.Source.faults c.args.source.now) (g.K.Sink.faults c.args.sink.now) in
    let new = streams (left c.run_input.new.source) (taken c.put_rows_fault.new.sink) (g.S.Source.faults c.run_input.new.source)
    (g.K.Sink.faults c.put_rows_fault.new.sink) in
    let told = rw c.in-Err-Rows.field-0-is at c.in-Err-Rows.ensures in
    day-stopped c.args.options old new c.in-Err-Rows.fault c.put_rows_fault.result (taken c.run_input.new.sink)
    (g.K.Sink.faults c.run_input.new.sink) told.sink_counted c.put_rows_fault.ensures.counted told.answered told.ends told.read told.write
    c.put_rows_fault.ensures.put
