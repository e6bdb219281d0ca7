use Rattle.std.proofs.Common.{inl, inr, map, refl, string_bytes, subst, sym}
use Rattle.lift_words.specs.declared.request.Request.{Request}
use Rattle.command_ends.specs.declared.status.Status.TheVariants.{Words}
use Rattle.command_ends.specs.Ends.{streams}
use Rattle.command_ends.proofs.EndLemmas.{ends_put, put_whole}
use Rattle.lift_commands.specs.Runs.{RunsRequest, UsageDue, usage_line}
use Rattle.lift_commands.proofs.OutOfMemory.{out_of_memory}
use Rattle.lift_commands.proofs.running.run.Goals as goal

pub returns-in-Ok-clause-runs : goal.returns-in-Ok-clause-runs
returns-in-Ok-clause-runs g c = λ request taken.
    (let left = g.S.Source.left in
    let faults = g.S.Source.faults in
    let old = streams (left c.args.source.now) (g.K.Sink.taken c.args.sink.now) (faults c.args.source.now) (g.K.Sink.faults c.args.sink.now) in
    let source = c.run_request.new.source in
    let sink = c.run_request.new.sink in
    let new = streams (left source) (g.K.Sink.taken sink) (faults source) (g.K.Sink.faults sink) in
    subst (λ (r : Request). RunsRequest r old new c.run_request.result) (sym (c.in-Ok.ensures.one request taken)) c.run_request.ensures.runs)

pub returns-in-Ok-clause-refuses : goal.returns-in-Ok-clause-refuses
returns-in-Ok-clause-refuses g c = λ none. absurd (none c.in-Ok.request c.in-Ok.ensures.taken)

pub returns-in-Ok-clause-unread : goal.returns-in-Ok-clause-unread
returns-in-Ok-clause-unread g c = λ none. c.run_request.ensures.unread (none c.in-Ok.request c.in-Ok.ensures.taken)

pub returns-in-Err-NotTaken-clause-runs : goal.returns-in-Err-NotTaken-clause-runs
returns-in-Err-NotTaken-clause-runs g c = λ request taken.
    absurd (c.in-Err-NotTaken.ensures.refused c.in-Err-NotTaken.field-0-is request taken)

pub returns-in-Err-NotTaken-clause-refuses : goal.returns-in-Err-NotTaken-clause-refuses
returns-in-Err-NotTaken-clause-refuses g c = λ none.
    (let left = g.S.Source.left c.args.source.now in
    let faults = g.S.Source.faults c.args.source.now in
    let old = streams left (g.K.Sink.taken c.args.sink.now) faults (g.K.Sink.faults c.args.sink.now) in
    let new = streams left (g.K.Sink.taken c.put.new.sink) faults (g.K.Sink.faults c.put.new.sink) in
    record {
      ends = ends_put UsageDue old new usage_line Words c.put.result (refl {a = usage_line}) (λ wrote. wrote) c.put.ensures.put;
      unread = refl {a = left};
      refuses = λ writes. inl (put_whole usage_line Words c.put.result _ _ _ _ c.put.ensures.put writes);
    })

pub returns-in-Err-NoMemory-clause-runs : goal.returns-in-Err-NoMemory-clause-runs
returns-in-Err-NoMemory-clause-runs g c = λ request taken.
    out_of_memory request
    (streams (g.S.Source.left c.args.source.now) (g.K.Sink.taken c.args.sink.now) (g.S.Source.faults c.args.source.now) (g.K.Sink.faults c.args.sink.now))

pub returns-in-Err-NoMemory-clause-refuses : goal.returns-in-Err-NoMemory-clause-refuses
returns-in-Err-NoMemory-clause-refuses g c = λ none. record { ends = refl; unread = refl; refuses = λ writes. inr refl }
