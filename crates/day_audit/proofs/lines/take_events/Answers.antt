use Rattle.std.proofs.Common.{Ok, arith}
use Rattle.lift_text.specs.LineReader.{text}
use Rattle.day_audit.proofs.TakingLemmas.{events_all, events_more, events_short, takes_none}
use Rattle.day_audit.proofs.lines.take_events.Goals as goal

pub loop-event-init : goal.loop-event-init
loop-event-init g c = record { counted = omega arith; whole = c.requires.whole; taken = takes_none (text g.S.Source.left c.args.lines.now) }

pub loop-event-preserved : goal.loop-event-preserved
loop-event-preserved g c =
    let left = g.S.Source.left in
    let iv = c.loop-event.invariant in
    record {
      counted = omega (arith, iv.counted, c.in-Ok.ensures.counted);
      whole = c.in-Ok.ensures.ok;
      taken = events_more c.args.events.now c.loop-event.event-index _ (text left c.args.lines.now) (text left c.loop-event.lines)
          (text left c.take_event.new.lines) (Ok tt) c.loop-event-test.true iv.taken c.in-Ok.ensures.takes;
    }

pub returns-in-Err-clause-takes : goal.returns-in-Err-clause-takes
returns-in-Err-clause-takes g c =
    let left = g.S.Source.left in
    let iv = c.loop-event.invariant in
    events_short c.args.events.now _ (text left c.args.lines.now) (text left c.take_event.new.lines) c.in-Err.finding
    (events_more c.args.events.now c.loop-event.event-index _ (text left c.args.lines.now) (text left c.loop-event.lines)
    (text left c.take_event.new.lines) _ c.loop-event-test.true iv.taken c.in-Err.ensures.takes)

pub returns-clause-takes : goal.returns-clause-takes
returns-clause-takes g c =
    let left = g.S.Source.left in
    events_all c.args.events.now c.loop-event.event-index (text left c.args.lines.now) (text left c.loop-event.lines) (omega arith) c.loop-event.invariant.taken
