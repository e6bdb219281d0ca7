use Rattle.std.proofs.Common.{refl}
use Rattle.command_ends.specs.Ends.{streams}
use Rattle.command_ends.proofs.EndLemmas.{put_whole}
use Rattle.case_commands.proofs.SolvedCases.{ends_solved, is_case_solved}
use Rattle.case_commands.proofs.making.write_solved_case.Goals as goal

pub returns-in-Ok : goal.returns-in-Ok
returns-in-Ok g c = λ left faults.
    (let answer = c.in-Ok.answer in
    let old = streams left (g.K.Sink.taken c.args.sink.now) faults (g.K.Sink.faults c.args.sink.now) in
    let new = streams left (g.K.Sink.taken c.put.new.sink) faults (g.K.Sink.faults c.put.new.sink) in
    record {
      ends = ends_solved c.args.options answer.status answer.text.items c.in-Ok.ensures.solved old new c.put.result
          (rw c.as_slice.ensures.value at c.put.ensures.put);
      unread = refl;
      solves = λ writes. is_case_solved c.args.options answer.status answer.text.items c.in-Ok.ensures.solved c.put.result
          (put_whole _ answer.status c.put.result _ _ _ _ c.put.ensures.put writes) c.in-Ok.ensures.enough;
    })
