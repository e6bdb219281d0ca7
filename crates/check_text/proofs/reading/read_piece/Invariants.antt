use Rattle.std.proofs.Common.{◌≡◌, None, ◌≤◌, length}
use Rattle.lift_text.specs.LineReader.{text, failure}
use Rattle.lift_text.specs.Shows.{WentOn}
use Rattle.cert_text.specs.Readers.{failure_of}
use Rattle.check_text.proofs.PieceLemmas.{HasPiece}
use Rattle.check_text.proofs.reading.read_piece.Given as goal

abbrev pub invariant-loop-count : goal.invariant-loop-count
invariant-loop-count g l = record {
  same_source : l.lines.source.ghost_name ≡ l.fn.lines.source.ghost_name;
  went : WentOn (text g.S.Source.left l.fn.lines) (text g.S.Source.left l.lines);
  gone : HasPiece l.snapshot l.fn.reader (text g.S.Source.left l.fn.lines) l.reader l.piece (text g.S.Source.left l.lines);
  few : length l.piece ≤ l.count;
  sound : failure_of l.reader.begun ≡ None;
  whole : failure l.lines ≡ None;
  counted : g.S.Source.faults l.fn.lines.source.now ≤ g.S.Source.faults l.lines.source.now;
}
