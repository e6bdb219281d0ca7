use Rattle.std.proofs.Common.{inl, refl}
use Rattle.command_ends.specs.declared.status.Status.TheVariants.{Done}
use Rattle.command_ends.specs.Ends.{streams}
use Rattle.command_ends.proofs.EndLemmas.{ends_put, put_whole}
use Rattle.case_commands.specs.MakeOutcome.{MakeDue}
use Rattle.case_commands.proofs.making.write_made_case.Goals as goal

pub returns-in-Ok : goal.returns-in-Ok
returns-in-Ok g c = λ left faults.
    (let old = streams left (g.K.Sink.taken c.args.sink.now) faults (g.K.Sink.faults c.args.sink.now) in
    let new = streams left (g.K.Sink.taken c.put.new.sink) faults (g.K.Sink.faults c.put.new.sink) in
    record {
      ends = ends_put (MakeDue c.args.sizes) old new c.in-Ok.text.items Done c.put.result c.in-Ok.ensures (λ wrote. wrote)
          (rw c.as_slice.ensures.value at c.put.ensures.put);
      unread = refl;
      makes = λ writes. inl (put_whole _ Done c.put.result _ _ _ _ c.put.ensures.put writes);
    })
