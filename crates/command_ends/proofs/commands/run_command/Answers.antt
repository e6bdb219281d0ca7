use Rattle.std.proofs.Common.{refl}
use Rattle.command_ends.specs.Ends.{streams}
use Rattle.command_ends.proofs.RunLemmas.{runs_answer, runs_out, runs_refused}
use Rattle.command_ends.proofs.commands.run_command.Goals as goal

pub returns-in-Ok-answer : goal.returns-in-Ok-answer
returns-in-Ok-answer g c =
    let left = g.S.Source.left in
    let faults = g.S.Source.faults in
    let old = streams (left c.args.source.now) (g.K.Sink.taken c.args.sink.now) (faults c.args.source.now) (g.K.Sink.faults c.args.sink.now) in
    let source = c.read_whole.new.source in
    let new = streams (left source) (g.K.Sink.taken c.put.new.sink) (faults source) (g.K.Sink.faults c.put.new.sink) in
    let value = c.in-Ok.value in
    let answer = c.in-Ok-answer.answer in
    runs_answer (g.C.WholeText.form c.args.command.now) (g.C.Command.told c.args.command.now) old new value answer.text.items answer.status c.put.result
    c.in-Ok.ensures.right c.in-Ok.ensures.says c.in-Ok.ensures.takes c.in-Ok.ensures.ended c.in-Ok-answer.ensures.told c.in-Ok-answer.ensures.status
    (rw c.as_slice.ensures.value at c.put.ensures.put)

pub returns-in-Ok : goal.returns-in-Ok
returns-in-Ok g c =
    let left = g.S.Source.left in
    let faults = g.S.Source.faults in
    let taken = g.K.Sink.taken c.args.sink.now in
    let old = streams (left c.args.source.now) taken (faults c.args.source.now) (g.K.Sink.faults c.args.sink.now) in
    let new = streams (left c.read_whole.new.source) taken (faults c.read_whole.new.source) (g.K.Sink.faults c.args.sink.now) in
    runs_out (g.C.WholeText.form c.args.command.now) (g.C.Command.told c.args.command.now) old new refl

pub returns : goal.returns
returns g c =
    let left = g.S.Source.left in
    let faults = g.S.Source.faults in
    let old = streams (left c.args.source.now) (g.K.Sink.taken c.args.sink.now) (faults c.args.source.now) (g.K.Sink.faults c.args.sink.now) in
    let source = c.read_whole.new.source in
    let sink = c.put_input_fault.new.sink in
    let new = streams (left source) (g.K.Sink.taken sink) (faults source) (g.K.Sink.faults sink) in
    runs_refused (g.C.WholeText.form c.args.command.now) (g.C.Command.told c.args.command.now) old new c.in-Err.fault c.put_input_fault.result
    c.in-Err.ensures.refused c.in-Err.ensures.takes c.in-Err.ensures.shows c.in-Err.ensures.failed c.put_input_fault.ensures
