use Rattle.std.proofs.Common.{◌∙◌, inl, inr}
use Rattle.command_ends.specs.Ends.{streams}
use Rattle.command_ends.proofs.EndLemmas.{ends_fault, fault_status, put_whole}
use Rattle.day_commands.specs.AuditOutcome.{AuditDue, FindingIsDue}
use Rattle.day_commands.proofs.AuditLemmas.{audits_left, either_of, ends_found, refusal_due, rose_where_read, says_yes}
use Rattle.day_commands.proofs.auditing.audit.Goals as goal

pub returns-in-Ok : goal.returns-in-Ok
returns-in-Ok g c =
    let left = g.S.Source.left in
    let old = streams (left c.args.source.now) (g.K.Sink.taken c.args.sink.now) (g.S.Source.faults c.args.source.now) (g.K.Sink.faults c.args.sink.now) in
    let new = streams (left c.audit-found.new.source) (g.K.Sink.taken c.put.new.sink) (g.S.Source.faults c.audit-found.new.source)
    (g.K.Sink.faults c.put.new.sink) in
    let answer = c.in-Ok.answer in
    let audits = audits_left (left c.args.source.now) c.audit-found.result c.audit-found.ensures.audit in
    let due : FindingIsDue (left c.args.source.now) (left c.audit-found.new.source) answer.status answer.text.items = record {
      answer = c.audit-found.result;
      told = c.in-Ok.ensures.told;
      audit = audits;
      ended = c.audit-found.ensures.ended;
      proved = says_yes (left c.args.source.now) c.audit-found.result answer.status answer.text.items c.in-Ok.ensures.told audits;
    } in
    record {
      ends = ends_found (left c.args.source.now) (left c.audit-found.new.source) old new answer.text.items answer.status c.put.result due
          (rw c.as_slice.ensures.value at c.put.ensures.put);
      audits = λ reads writes.
          (let put = put_whole _ answer.status c.put.result _ _ _ _ c.put.ensures.put writes in
          elim (either_of c.audit-found.result answer.status answer.text.items c.in-Ok.ensures.told) [
            | inl done ↦ inl (put ∙ done)
            | inr refused ↦ inr (inl (put ∙ refused))
          ]);
    }

pub returns-in-Err : goal.returns-in-Err
returns-in-Err g c =
    let left = g.S.Source.left in
    let old = streams (left c.args.source.now) (g.K.Sink.taken c.args.sink.now) (g.S.Source.faults c.args.source.now) (g.K.Sink.faults c.args.sink.now) in
    let new = streams (left c.audit-found.new.source) (g.K.Sink.taken c.put_fault.new.sink) (g.S.Source.faults c.audit-found.new.source)
    (g.K.Sink.faults c.put_fault.new.sink) in
    record {
      ends = ends_fault (AuditDue (left c.args.source.now) (left c.audit-found.new.source)) c.in-Err.fault old new c.put_fault.result
          (λ text is_line. refusal_due (left c.args.source.now) (left c.audit-found.new.source) c.audit-found.result c.in-Err.fault text
          (audits_left (left c.args.source.now) c.audit-found.result c.audit-found.ensures.audit) c.audit-found.ensures.shows c.in-Err.ensures.fault is_line)
          (λ e. rose_where_read c.audit-found.result c.in-Err.fault _ _ c.in-Err.ensures.fault e c.audit-found.ensures.read) c.put_fault.ensures;
      audits = λ reads writes.
          inr (inr (fault_status c.in-Err.fault c.put_fault.result _ _ _ _ c.put_fault.ensures
          (λ e. reads (rose_where_read c.audit-found.result c.in-Err.fault _ _ c.in-Err.ensures.fault e c.audit-found.ensures.read)) writes));
    }
