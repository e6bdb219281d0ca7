use Rattle.std.proofs.Common.{refl}
use Rattle.lift_text.specs.LineReader.{text, raw, unread}
use Rattle.day_simulator.proofs.ReadLemmas.{line-answered, long-line-answered, end-next, fault-answered}
use Rattle.day_simulator.proofs.row_runs.do_next.Goals as goal

pub returns-in-Ok-Line-clause-next : goal.returns-in-Ok-Line-clause-next
returns-in-Ok-Line-clause-next g c =
    let left = g.S.Source.left in
    let read = rw c.in-Ok-Line.field-0-is at c.in-Ok-Line.ensures in
    let new = c.raw_line.new.self in
    let did = c.do_line.ensures in
    line-answered (g.P.Planner.right c.args.planner.now) c.args.day.now c.do_line.new.day c.do_line.new.out.items (text left c.args.lines.now)
    new.page c.raw.result.now (raw new) (left new.source.now)
    c.do_line.result _ c.next_after.result refl c.raw.ensures c.next_after.ensures (read.next c.requires.unfailed) did.done did.as_before

pub returns-in-Ok-Long-clause-next : goal.returns-in-Ok-Long-clause-next
returns-in-Ok-Long-clause-next g c =
    let left = g.S.Source.left in
    let read = rw c.in-Ok-Long.field-0-is at c.in-Ok-Long.ensures in
    let new = c.raw_line.new.self in
    let did = c.do_long_line.ensures in
    long-line-answered (g.P.Planner.right c.args.planner.now) c.args.day.now c.do_long_line.new.day c.do_long_line.new.out.items
    (text left c.args.lines.now) new.page (raw new) (left new.source.now)
    c.do_long_line.result _ c.next_after-in-Ok-Long.result refl c.next_after-in-Ok-Long.ensures (read.next c.requires.unfailed) did.day did.log did.as_before

pub returns-in-Ok-End-clause-next : goal.returns-in-Ok-End-clause-next
returns-in-Ok-End-clause-next g c =
    let left = g.S.Source.left in
    let read = rw c.in-Ok-End.field-0-is at c.in-Ok-End.ensures in
    let new = c.raw_line.new.self in
    end-next (g.P.Planner.right c.args.planner.now) c.args.day.now c.args.out.now.items (text left c.args.lines.now) new.page (raw new)
    (left new.source.now) (read.next c.requires.unfailed) (read.end c.requires.unfailed refl)

pub returns-in-Err-clause-next : goal.returns-in-Err-clause-next
returns-in-Err-clause-next g c =
    let left = g.S.Source.left in
    let read = c.raw_line in
    let took = read.ensures.taken in
    fault-answered (g.P.Planner.right c.args.planner.now) c.args.day.now c.args.out.now.items c.args.lines.now.page (left c.args.lines.now.source.now)
    (left read.new.self.source.now) (text left read.new.self) (raw read.new.self) c.in-Err.fault took.0 (unread read.new.self)
    read.result c.fault_of.result c.in-Err.is c.fault_of.ensures (read.ensures.next c.requires.unfailed) took.1.given (took.3 c.requires.unfailed)
