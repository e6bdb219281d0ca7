use Rattle.std.proofs.Common.{◌≡◌, None, ◌≤◌, ◌*◌}
use Rattle.lift_text.specs.LineReader.{text, failure}
use Rattle.lift_text.specs.Shows.{WentOn}
use Rattle.cert_text.specs.Readers.{failure_of}
use Rattle.cert_checker.specs.Judging.{IsCheckerOf}
use Rattle.check_text.proofs.PieceLemmas.{StandTogether}
use Rattle.check_text.proofs.reading.check_tree.Given as goal

abbrev pub invariant-loop-count : goal.invariant-loop-count
invariant-loop-count g l = record {
  same_source : l.lines.source.ghost_name ≡ l.fn.lines.source.ghost_name;
  went : WentOn (text g.S.Source.left l.fn.lines) (text g.S.Source.left l.lines);
  stands : StandTogether l.snapshot (text g.S.Source.left l.fn.lines) l.fn.checker l.reader l.checker (text g.S.Source.left l.lines) (256 * l.count);
  own : IsCheckerOf l.snapshot l.checker;
  sound : failure_of l.reader.begun ≡ None;
  whole : failure l.lines ≡ None;
  counted : g.S.Source.faults l.fn.lines.source.now ≤ g.S.Source.faults l.lines.source.now;
}
