use Rattle.std.proofs.Common.{length, take, ◌-◌, ◌≡◌, ◌≤◌}
use Rattle.std.specs.Io.KnownBytes.{prepend_known}
use Rattle.byte_streams.proofs.sources.read_full.Given as goal

-- the first `filled` bytes of the slice are the first that the source gave
abbrev pub invariant-loop-filled : goal.invariant-loop-filled
invariant-loop-filled g l = record {
  within : l.filled ≤ length l.into;
  given : g.S.Source.left l.initial.source ≡ prepend_known (take l.filled l.into) (g.S.Source.left l.source);
  counted : g.S.Source.faults l.initial.source ≤ g.S.Source.faults l.source;
}

abbrev pub decreases-loop-filled : goal.decreases-loop-filled
decreases-loop-filled g l = length l.into - l.filled
