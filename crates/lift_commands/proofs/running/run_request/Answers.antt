use Rattle.std.proofs.Common.{subst, sym}
use Rattle.lift_words.specs.Taken.{AreDayOptions}
use Rattle.lift_words.specs.declared.request.Request.{Request}
use Rattle.command_ends.specs.Ends.{streams}
use Rattle.day_commands.proofs.DayOutcomes.{plain-within}
use Rattle.lift_commands.specs.Runs.{RunsRequest}
use Rattle.lift_commands.proofs.running.run_request.Goals as goal

pub report-requires : goal.report-requires
report-requires g c = record { options = subst AreDayOptions (sym c.without_certificates.ensures) (plain-within c.in-Report.options) }

pub returns-in-Make-clause-runs : goal.returns-in-Make-clause-runs
returns-in-Make-clause-runs g c =
    let left = g.S.Source.left c.args.source.now in
    let faults = g.S.Source.faults c.args.source.now in
    let sink = c.write_made_case.new.sink in
    let old = streams left (g.K.Sink.taken c.args.sink.now) faults (g.K.Sink.faults c.args.sink.now) in
    let new = streams left (g.K.Sink.taken sink) faults (g.K.Sink.faults sink) in
    subst (λ (r : Request). RunsRequest r old new c.write_made_case.result) (sym c.in-Make.is) (c.write_made_case.ensures left faults)

pub returns-in-Run-clause-runs : goal.returns-in-Run-clause-runs
returns-in-Run-clause-runs g c =
    let left = g.S.Source.left c.args.source.now in
    let faults = g.S.Source.faults c.args.source.now in
    let sink = c.write_solved_case.new.sink in
    let old = streams left (g.K.Sink.taken c.args.sink.now) faults (g.K.Sink.faults c.args.sink.now) in
    let new = streams left (g.K.Sink.taken sink) faults (g.K.Sink.faults sink) in
    subst (λ (r : Request). RunsRequest r old new c.write_solved_case.result) (sym c.in-Run.is) (c.write_solved_case.ensures left faults)
