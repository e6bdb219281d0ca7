use Rattle.std.proofs.Common.{refl, arith, ◌∙◌}
use Rattle.lift_text.specs.LineReader.{text, unread, has_ended}
use Rattle.day_simulator.proofs.StepLemmas.{ran-end, ran-fault, line-so-far}
use Rattle.day_simulator.proofs.row_runs.run_rows.Goals as goal

pub returns-in-Ok-End-clause-ran : goal.returns-in-Ok-End-clause-ran
returns-in-Ok-End-clause-ran g c =
    let left = g.S.Source.left in
    let taken = g.K.Sink.taken in
    let did = rw c.in-Ok-End.field-0-is at c.in-Ok-End.ensures in
    let new = c.write_next.new in
    ran-end (g.P.Planner.right c.args.planner.now) c.args.day.now c.lines.day new.day (text left c.args.lines.now) (text left c.lines.lines)
    (text left new.lines) (has_ended c.lines.lines) (unread new.lines) (left new.lines.source.now)
    (taken c.args.sink.now) (taken c.lines.sink) (taken new.sink) c.lines.invariant.so_far did.next

pub returns-in-Err-clause-ran : goal.returns-in-Err-clause-ran
returns-in-Err-clause-ran g c =
    let left = g.S.Source.left in
    let taken = g.K.Sink.taken in
    let did = c.in-Err.ensures in
    let new = c.write_next.new in
    ran-fault (g.P.Planner.right c.args.planner.now) c.args.day.now c.lines.day new.day c.in-Err.fault (text left c.args.lines.now)
    (text left c.lines.lines) new.lines.page (has_ended c.lines.lines) (has_ended new.lines) (left new.lines.source.now)
    (taken c.args.sink.now) (taken c.lines.sink) (taken new.sink) c.lines.invariant.so_far did.stays_ended did.not_ended did.next

pub lines-preserved : goal.lines-preserved
lines-preserved g c =
    let left = g.S.Source.left in
    let taken = g.K.Sink.taken in
    let before = c.lines.invariant in
    let did = rw c.in-Ok-More.field-0-is at c.in-Ok-More.ensures in
    let new = c.write_next.new in
    record {
      same_source = did.same_source ∙ before.same_source;
      unfailed = did.unfailed;
      numbered = did.number refl;
      lost_none = did.none_lost;
      so_far = line-so-far (g.P.Planner.right c.args.planner.now) c.args.day.now c.lines.day new.day did.next.0 (text left c.args.lines.now)
          (text left c.lines.lines) (text left new.lines) (has_ended c.lines.lines) (has_ended new.lines)
          (taken c.args.sink.now) (taken c.lines.sink) (taken new.sink) before.so_far did.next.1 did.stays_ended (did.line_feed refl) did.next.2;
      counted_lines = omega (arith, did.line refl, before.counted_lines);
      counted = omega (arith, before.counted, did.counted);
      counted_in_sink = omega (arith, before.counted_in_sink, did.sink_counted);
    }

pub returns-in-Ok-End-clause-number : goal.returns-in-Ok-End-clause-number
returns-in-Ok-End-clause-number g c =
    let did = rw c.in-Ok-End.field-0-is at c.in-Ok-End.ensures in
    did.number_at_end refl
