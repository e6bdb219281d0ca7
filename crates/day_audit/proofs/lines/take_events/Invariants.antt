use Rattle.std.proofs.Common.{◌≡◌, ◌≤◌, None, Ok, take}
use Rattle.lift_text.specs.LineReader.{text, failure}
use Rattle.day_audit.specs.Audits.{event_lines}
use Rattle.day_audit.specs.Taking.{TakesLines}
use Rattle.day_audit.proofs.lines.take_events.Given as goal

abbrev pub invariant-loop-event : goal.invariant-loop-event
invariant-loop-event g l = record {
  counted : g.S.Source.faults l.fn.lines.source.now ≤ g.S.Source.faults l.lines.source.now;
  whole : failure l.lines ≡ None;
  taken : TakesLines (event_lines (take l.event-index l.events)) (text g.S.Source.left l.fn.lines) (Ok tt) (text g.S.Source.left l.lines);
}
