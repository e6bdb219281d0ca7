use Rattle.std.proofs.Common.{◌≡◌, None, ◌≤◌}
use Rattle.lift_text.specs.LineReader.{text, failure}
use Rattle.lift_text.specs.Shows.{WentOn}
use Rattle.cert_text.specs.Readers.{failure_of}
use Rattle.cert_text.proofs.LoopLemmas.{HasGone}
use Rattle.cert_text.proofs.reading.read_twigs.Given as goal

abbrev pub invariant-loop : goal.invariant-loop
invariant-loop g l = record {
  same_source : l.lines.source.ghost_name ≡ l.fn.lines.source.ghost_name;
  went : WentOn (text g.S.Source.left l.fn.lines) (text g.S.Source.left l.lines);
  gone : HasGone l.snapshot l.fn.reader l.fn.tree (text g.S.Source.left l.fn.lines) l.reader l.tree (text g.S.Source.left l.lines);
  sound : failure_of l.reader.begun ≡ None;
  whole : failure l.lines ≡ None;
  counted : g.S.Source.faults l.fn.lines.source.now ≤ g.S.Source.faults l.lines.source.now;
}
