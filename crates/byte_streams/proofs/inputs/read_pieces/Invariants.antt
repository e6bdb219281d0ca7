use Rattle.std.proofs.Common.{length, ◌-◌, ◌≡◌, ◌≤◌, ◌<◌}
use Rattle.std.specs.Io.KnownBytes.{prepend_known}
use Rattle.byte_streams.proofs.inputs.read_pieces.Given as goal

abbrev pub invariant-pieces : goal.invariant-pieces
invariant-pieces g l = record {
  short : length l.bytes.items ≤ l.fn.most;
  given : g.S.Source.left l.initial.source ≡ prepend_known l.bytes.items (g.S.Source.left l.source);
  room : 0 < length l.piece;
  counted : g.S.Source.faults l.initial.source ≤ g.S.Source.faults l.source;
}

abbrev pub decreases-pieces : goal.decreases-pieces
decreases-pieces g l = l.fn.most - length l.bytes.items
