use Rattle.std.proofs.Common.{◌≡◌, ◌≤◌, ◌+◌, None}
use Rattle.lift_text.specs.LineReader.{text, line, failure}
use Rattle.lift_text.specs.Shows.{WentOn}
use Rattle.day_text.proofs.HeaderReadLemmas.{LeadsOn}
use Rattle.day_text.proofs.header_reading.read_header.Given as goal

-- only empty lines were read, and each was counted
abbrev pub invariant-lines : goal.invariant-lines
invariant-lines g l = record {
  same_source : l.lines.source.ghost_name ≡ l.initial.lines.source.ghost_name;
  no_failure : failure l.lines ≡ None;
  went : WentOn (text g.S.Source.left l.initial.lines) (text g.S.Source.left l.lines);
  leads : LeadsOn l.header (text g.S.Source.left l.initial.lines) (text g.S.Source.left l.lines);
  numbered : line l.lines ≡ line l.initial.lines + l.counter;
  bound : line l.lines ≤ 67108864;
  counted : g.S.Source.faults l.initial.lines.source.now ≤ g.S.Source.faults l.lines.source.now;
}
