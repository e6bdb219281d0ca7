use Rattle.std.proofs.Common.{map, refl, string_bytes, sym}
use Rattle.command_ends.specs.Ends.{streams}
use Rattle.draw_command.proofs.DrawLemmas.{draws_nothing, draws_one, refuses_nothing, refuses_words}
use Rattle.draw_command.proofs.running.run.Goals as goal

pub returns-in-Ok-clause-draws : goal.returns-in-Ok-clause-draws
returns-in-Ok-clause-draws g c =
    let left = g.S.Source.left in
    let old = streams (left c.args.source.now) (g.K.Sink.taken c.args.sink.now) (g.S.Source.faults c.args.source.now) (g.K.Sink.faults c.args.sink.now) in
    let new = streams (left c.draw.new.source) (g.K.Sink.taken c.draw.new.sink) (g.S.Source.faults c.draw.new.source) (g.K.Sink.faults c.draw.new.sink) in
    draws_one (map string_bytes c.args.words.now) old new c.draw.result c.in-Ok.request (λ other taken. sym (c.in-Ok.ensures.one other taken)) c.draw.ensures

pub returns-in-Ok-clause-refuses_words : goal.returns-in-Ok-clause-refuses_words
returns-in-Ok-clause-refuses_words g c = λ none. absurd (none c.in-Ok.request c.in-Ok.ensures.taken)

pub returns-in-Err-NotTaken-clause-draws : goal.returns-in-Err-NotTaken-clause-draws
returns-in-Err-NotTaken-clause-draws g c = λ request taken. absurd (c.in-Err-NotTaken.ensures.refused c.in-Err-NotTaken.field-0-is request taken)

pub returns-in-Err-NotTaken-clause-refuses_words : goal.returns-in-Err-NotTaken-clause-refuses_words
returns-in-Err-NotTaken-clause-refuses_words g c =
    let left = g.S.Source.left c.args.source.now in
    let faults = g.S.Source.faults c.args.source.now in
    let old = streams left (g.K.Sink.taken c.args.sink.now) faults (g.K.Sink.faults c.args.sink.now) in
    let new = streams left (g.K.Sink.taken c.put.new.sink) faults (g.K.Sink.faults c.put.new.sink) in
    λ none. refuses_words old new c.put.result c.put.ensures.put

pub returns-in-Err-NoMemory-clause-draws : goal.returns-in-Err-NoMemory-clause-draws
returns-in-Err-NoMemory-clause-draws g c =
    let faults = g.S.Source.faults c.args.source.now in
    let now = streams (g.S.Source.left c.args.source.now) (g.K.Sink.taken c.args.sink.now) faults (g.K.Sink.faults c.args.sink.now) in
    draws_nothing (map string_bytes c.args.words.now) now now refl

pub returns-in-Err-NoMemory-clause-refuses_words : goal.returns-in-Err-NoMemory-clause-refuses_words
returns-in-Err-NoMemory-clause-refuses_words g c =
    let faults = g.S.Source.faults c.args.source.now in
    let now = streams (g.S.Source.left c.args.source.now) (g.K.Sink.taken c.args.sink.now) faults (g.K.Sink.faults c.args.sink.now) in
    λ none. refuses_nothing now now refl
